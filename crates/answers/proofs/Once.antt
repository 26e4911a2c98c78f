-- The answers leave no choice: two answers with one meaning are the same.
use mathlib.Core.Path.{◌≡◌, refl, sym, ap, ◌∙◌}
use mathlib.Core.List.{[], ◌∷◌}
use Prim.Native.Nat.{ℕ, ◌-◌, ◌<◌}
use lib.Dec.{lit<}
use lib.ListN.{get_or}
use Rattle.std.specs.Prelude.{Ok, Err}
use Rattle.answers.specs.Reply.{Reply, gives, refused}
use Rattle.answers.specs.Answers.{Answer, number_of, means}
use Rattle.answers.specs.declared.Refusal.{Refusal}
use Rattle.answers.specs.declared.Refusal.TheVariants as why

-- what can be read back from its meaning has one value for each meaning
pub once : {A B : Type 0} (means : A → B) (back : B → A) → ((r : A) → back (means r) ≡ r) → {x : B} {r s : A} → means r ≡ x → means s ≡ x → r ≡ s
once means back h {x} {r} {s} p q = sym (h r) ∙ ap back (p ∙ sym q) ∙ h s

-- the refusal of a number
abbrev named : ℕ → Refusal
named n = get_or (why.NegativeRoot ∷ why.NoLog ∷ why.DivisorZero ∷ why.NoFit ∷ why.TableTooLong ∷ why.NoSuchCard ∷ why.EmptyMask ∷ why.TooWide ∷ why.Differs ∷ why.NoRoom ∷ why.NoOperation ∷ why.BadOperand ∷ why.WrongLength ∷ []) (n - 1) why.WrongLength

-- a refusal's number names it, is not 0, and fits in four bits
pub record Numbered (k : Refusal) : Type 0 where
  pub back : named (number_of k) ≡ k
  pub positive : 0 < number_of k
  pub small : number_of k < 16

pub numbered : (k : Refusal) → Numbered k
numbered why.NegativeRoot = record { back = refl; positive = lit< tt; small = lit< tt }
numbered why.NoLog = record { back = refl; positive = lit< tt; small = lit< tt }
numbered why.DivisorZero = record { back = refl; positive = lit< tt; small = lit< tt }
numbered why.NoFit = record { back = refl; positive = lit< tt; small = lit< tt }
numbered why.TableTooLong = record { back = refl; positive = lit< tt; small = lit< tt }
numbered why.NoSuchCard = record { back = refl; positive = lit< tt; small = lit< tt }
numbered why.EmptyMask = record { back = refl; positive = lit< tt; small = lit< tt }
numbered why.TooWide = record { back = refl; positive = lit< tt; small = lit< tt }
numbered why.Differs = record { back = refl; positive = lit< tt; small = lit< tt }
numbered why.NoRoom = record { back = refl; positive = lit< tt; small = lit< tt }
numbered why.NoOperation = record { back = refl; positive = lit< tt; small = lit< tt }
numbered why.BadOperand = record { back = refl; positive = lit< tt; small = lit< tt }
numbered why.WrongLength = record { back = refl; positive = lit< tt; small = lit< tt }

named_number : (k : Refusal) → named (number_of k) ≡ k
named_number k = (numbered k).back

pub one_refusal : {n : ℕ} {k l : Refusal} → number_of k ≡ n → number_of l ≡ n → k ≡ l
one_refusal = once number_of named named_number

abbrev back {ℓ} : {A : Type 0} {E : Type ℓ} → (A → E) → (Refusal → E) → Reply A → E
back number refused' (gives a) = number a
back number refused' (refused k) = refused' (named k)

back_answer : {A : Type 0} (r : Answer A) → back Ok Err (means r) ≡ r
back_answer (Ok x) = refl
back_answer (Err k) = ap Err (named_number k)

pub one_answer : {A : Type 0} {x : Reply A} {r s : Answer A} → means r ≡ x → means s ≡ x → r ≡ s
one_answer = once means (back Ok Err) back_answer
