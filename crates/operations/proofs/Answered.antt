-- What `unsigned` and `signed` answer over a type is what is answered at each code of that type.
use mathlib.Core.Path.{◌≡◌, refl, sym, ap, ap₂, ◌∙◌}
use mathlib.Core.Logic.{◌⊎◌, ⊎_elim}
use mathlib.Core.Bool.{Bool, true, false, not, ◌&&◌}
use Prim.Native.Nat.{ℕ, ◌^◌, ◌<◌, ◌≤◌}
use native.Mathlib.Decide.{dec_lt}
use native.Mathlib.Omega.{arith}
use borrow.Author.Tests.{lt-ltb, le-ltb, le-leb, eq-eqb, ne_eqb, leb-false, leb-true}
use lib.Dec.{leb, ltb, lit<, lit≤}
use lib.IntN.{ℤ, pos}
use mir.Syntax.{Width}
use mir.Val.{bits, to_z, of_z}
use Rattle.answers.specs.Reply.{Reply, gives, refused, mapped}
use Rattle.std.specs.Result.{IsErrAnd}
use Rattle.answers.specs.Answers.{Answer, number_of, means}
use Rattle.answers.specs.declared.Refusal.{Refusal}
use Rattle.answers.specs.declared.Refusal.TheVariants.{BadOperand}
use Rattle.int_sqrt.specs.Root.{root, root_of}
use Rattle.int_log10.specs.Log.{log_of}
use Rattle.int_bits.specs.Gather.{gather, scatter}
use Rattle.signed.specs.Signed.{rem_euclid, next_multiple}
use Rattle.operations.specs.declared.codes.Operation.{Operation}
use Rattle.operations.specs.declared.codes.Operation.TheVariants.{Gather, Scatter, Remainder, NextMultiple}
use Rattle.operations.specs.Codes.{operation_code}
use Rattle.operations.specs.Operations.{width_of, signed, takes, limit, operation, answer_of}
use Rattle.operations.specs.Operands.{AnsweredAt}
use Rattle.operations.proofs.Chains.{passed_on}
use Rattle.operations.proofs.Arms.{code_small, root_at, log_at, gather_at, scatter_at, rem_at, next_at}
use Rattle.operations.proofs.Rows.{unlisted, refuses_11, refuses_a, refuses_b, refuses_unused, passes_unused, passes_used}

-- ---- which codes an operation takes

module _ (code : ℕ) where
  taken_by_all : code < 8 → (leb 0 code && ltb code 8) ≡ true
  taken_by_all h = let z : 0 ≤ code = omega arith in rw (le-leb 0 code z, lt-ltb code 8 h)

  taken_unsigned : signed code ≡ false → (leb 0 code && ltb code 4) ≡ true
  taken_unsigned e = let z : 0 ≤ code = omega arith in let h : code < 4 = leb-false 4 code e in rw (le-leb 0 code z, lt-ltb code 4 h)

  taken_signed : code < 8 → signed code ≡ true → (leb 4 code && ltb code 8) ≡ true
  taken_signed h e = rw (e, lt-ltb code 8 h)

  left_to_signed : signed code ≡ false → (leb 4 code && ltb code 8) ≡ false
  left_to_signed e = rw e

  left_to_unsigned : signed code ≡ true → (leb 0 code && ltb code 4) ≡ false
  left_to_unsigned e = let z : 0 ≤ code = omega arith in let h : 4 ≤ code = leb-true 4 code e in rw (le-leb 0 code z, le-ltb code 4 h)

-- ---- operands that are refused

module _ (op code a b : ℕ) (t : takes op code ≡ true) where
  refused_alone : op < 2 → (limit code ≤ a) ⊎ (b ≡ 0 → ⊥) → refused 12 ≡ answer_of op code a b
  refused_alone l = ⊎_elim (refuses_a op code a b t) (λ h. by h (dec_lt a (limit code)) (dec_lt b (limit code)))
    where
      by : (b ≡ 0 → ⊥) → Dec (a < limit code) → Dec (b < limit code) → refused 12 ≡ answer_of op code a b
      by h (no i) q = refuses_a op code a b t (omega arith)
      by h (yes i) (no j) = refuses_b op code a b t i (omega arith)
      by h (yes i) (yes j) = refuses_unused op code a b (record { listed = t; small = i; small_b = j }) l (ap not (ne_eqb b 0 h))

  refused_either : (limit code ≤ a) ⊎ (limit code ≤ b) → refused 12 ≡ answer_of op code a b
  refused_either = ⊎_elim (refuses_a op code a b t) (λ h. by h (dec_lt a (limit code)))
    where
      by : limit code ≤ b → Dec (a < limit code) → refused 12 ≡ answer_of op code a b
      by h (no i) = refuses_a op code a b t (omega arith)
      by h (yes i) = refuses_b op code a b t i h

module _ {w : Width} {a b : ℕ} where
  -- the refusal of the operand of root or log
  lone_refused : (op code : ℕ) → op < 2 → takes op code ≡ true → width_of code ≡ w → {why : Refusal} → (why ≡ BadOperand) × ((2 ^ bits w ≤ a) ⊎ (b ≡ 0 → ⊥)) →
      refused (number_of why) ≡ answer_of op code a b
  lone_refused op code l t is h = ap (λ y. refused (number_of y)) h.0 ∙ refused_alone op code a b t l (rw is h.1)

  both_refused : (op code : ℕ) → takes op code ≡ true → width_of code ≡ w → {why : Refusal} → (why ≡ BadOperand) × ((2 ^ bits w ≤ a) ⊎ (2 ^ bits w ≤ b)) →
      refused (number_of why) ≡ answer_of op code a b
  both_refused op code t is h = ap (λ y. refused (number_of y)) h.0 ∙ refused_either op code a b t (rw is h.1)

  -- an operation on operands that it takes
  lone_answered : (op code : ℕ) → op < 2 → takes op code ≡ true → width_of code ≡ w → a < 2 ^ bits w → b ≡ 0 → operation op code a b ≡ answer_of op code a b
  lone_answered op code l t is h z =
      let i : a < limit code = rw is h in passes_unused op code a b (record { listed = t; small = i; small_b = omega arith }) l (ap not (eq-eqb b 0 z))

  both_answered : (op code : ℕ) → takes op code ≡ true → width_of code ≡ w → a < 2 ^ bits w → b < 2 ^ bits w → 2 ≤ op → operation op code a b ≡ answer_of op code a b
  both_answered op code t is h k l = passes_used op code a b (record { listed = t; small = rw is h; small_b = rw is k }) l

-- ---- operands that a function over a type refuses; those of a signed type are of the unsigned type of its width

module _ {v w : Width} (same : v ≡ w) {s : Bool} {a b : ℕ} {why : Refusal} (r : Answer ℕ) (h : (why ≡ BadOperand) × ((2 ^ bits v ≤ a) ⊎ (b ≡ 0 → ⊥))) (e : IsErrAnd r (λ y. y ≡ why)) where
  pub root_refused : AnsweredAt w s 0 a b (means r)
  root_refused code l is u = passed_on why r e ∙ lone_refused 0 code (lit< tt) (taken_by_all code l) is (rw (← same) h)

  pub log_refused : AnsweredAt w s 1 a b (means r)
  log_refused code l is u = passed_on why r e ∙ lone_refused 1 code (lit< tt) (taken_by_all code l) is (rw (← same) h)

module _ {v w : Width} (same : v ≡ w) {a b : ℕ} {why : Refusal} (r : Answer ℕ) (h : (why ≡ BadOperand) × ((2 ^ bits v ≤ a) ⊎ (2 ^ bits v ≤ b))) (e : IsErrAnd r (λ y. y ≡ why)) where
  pub gather_refused : AnsweredAt w false 2 a b (means r)
  gather_refused code l is u = passed_on why r e ∙ both_refused 2 code (taken_unsigned code u) is (rw (← same) h)

  pub scatter_refused : AnsweredAt w false 3 a b (means r)
  scatter_refused code l is u = passed_on why r e ∙ both_refused 3 code (taken_unsigned code u) is (rw (← same) h)

  pub rem_refused : AnsweredAt w true 4 a b (means r)
  rem_refused code l is u = passed_on why r e ∙ both_refused 4 code (taken_signed code l u) is (rw (← same) h)

  pub next_refused : AnsweredAt w true 5 a b (means r)
  next_refused code l is u = passed_on why r e ∙ both_refused 5 code (taken_signed code l u) is (rw (← same) h)

-- ---- over an unsigned type

module _ {w : Width} {a b n : ℕ} (x : (n ≡ a) × (a < 2 ^ bits w) × (b ≡ 0)) where
  pub root_unsigned : {m : ℕ} → m ≡ root n → AnsweredAt w false 0 a b (gives m)
  root_unsigned e code l is u = ap gives (e ∙ ap root x.0) ∙ root_at 0 code a b refl (rw u) ∙ lone_answered 0 code (lit< tt) (taken_by_all code l) is x.1 x.2

  pub log_unsigned : {q : Reply ℕ} → q ≡ log_of (pos n) → AnsweredAt w false 1 a b q
  log_unsigned e code l is u = e ∙ ap (λ k. log_of (pos k)) x.0 ∙ log_at 1 code a b refl (rw u) ∙ lone_answered 1 code (lit< tt) (taken_by_all code l) is x.1 x.2

module _ {w : Width} {a b n m : ℕ} (x : (n ≡ a) × (a < 2 ^ bits w) × (m ≡ b) × (b < 2 ^ bits w)) where
  pub gathered : {k : ℕ} → k ≡ gather (bits w) n m → AnsweredAt w false 2 a b (gives k)
  gathered e code l is u = ap gives (e ∙ ap₂ (gather (bits w)) x.0 x.2) ∙ gather_at 2 code a b refl (rw is) ∙ both_answered 2 code (taken_unsigned code u) is x.1 x.3 (lit≤ tt)

  pub scattered : {k : ℕ} → k ≡ scatter (bits w) n m → AnsweredAt w false 3 a b (gives k)
  scattered e code l is u = ap gives (e ∙ ap₂ (scatter (bits w)) x.0 x.2) ∙ scatter_at 3 code a b refl (rw is) ∙ both_answered 3 code (taken_unsigned code u) is x.1 x.3 (lit≤ tt)

pub not_unsigned : (w : Width) (o : Operation) (a b : ℕ) → (o ≡ Remainder) ⊎ (o ≡ NextMultiple) → AnsweredAt w false (operation_code o) a b (refused 11)
not_unsigned w o a b =
    ⊎_elim (λ e. rw e (λ code l is u. refuses_11 4 code a b (left_to_signed code u)))
    (λ e. rw e (λ code l is u. refuses_11 5 code a b (left_to_signed code u)))

-- ---- over a signed type

module _ {v w : Width} (same : v ≡ w) {a b n : ℕ} (x : (n ≡ a) × (a < 2 ^ bits v) × (b ≡ 0)) {z : ℤ} (i : z ≡ to_z w n) {q : Reply ℕ} where
  pub root_signed : q ≡ mapped (of_z w) (root_of z) → AnsweredAt w true 0 a b q
  root_signed e code l is s =
      e ∙ ap (λ y. mapped (of_z w) (root_of y)) (i ∙ ap (to_z w) x.0) ∙ root_at 0 code a b refl (rw (s, is))
      ∙ lone_answered 0 code (lit< tt) (taken_by_all code l) is (rw (← same) x.1) x.2

  pub log_signed : q ≡ log_of z → AnsweredAt w true 1 a b q
  log_signed e code l is s =
      e ∙ ap log_of (i ∙ ap (to_z w) x.0) ∙ log_at 1 code a b refl (rw (s, is)) ∙ lone_answered 1 code (lit< tt) (taken_by_all code l) is (rw (← same) x.1) x.2

module _ {v w : Width} (same : v ≡ w) {a b n m : ℕ} (x : (n ≡ a) × (a < 2 ^ bits v) × (m ≡ b) × (b < 2 ^ bits v)) {y z : ℤ} (i : y ≡ to_z w n) (j : z ≡ to_z w m) {q : Reply ℕ} where
  pub rem_answered : q ≡ mapped (of_z w) (rem_euclid w y z) → AnsweredAt w true 4 a b q
  rem_answered e code l is s =
      e ∙ ap₂ (λ k d. mapped (of_z w) (rem_euclid w k d)) (i ∙ ap (to_z w) x.0) (j ∙ ap (to_z w) x.2) ∙ rem_at 4 code a b refl (rw (s, is))
      ∙ both_answered 4 code (taken_signed code l s) is (rw (← same) x.1) (rw (← same) x.3) (lit≤ tt)

  pub next_answered : q ≡ mapped (of_z w) (next_multiple w y z) → AnsweredAt w true 5 a b q
  next_answered e code l is s =
      e ∙ ap₂ (λ k d. mapped (of_z w) (next_multiple w k d)) (i ∙ ap (to_z w) x.0) (j ∙ ap (to_z w) x.2) ∙ next_at 5 code a b refl (rw (s, is))
      ∙ both_answered 5 code (taken_signed code l s) is (rw (← same) x.1) (rw (← same) x.3) (lit≤ tt)

pub not_signed : (w : Width) (o : Operation) (a b : ℕ) → (o ≡ Gather) ⊎ (o ≡ Scatter) → AnsweredAt w true (operation_code o) a b (refused 11)
not_signed w o a b =
    ⊎_elim (λ e. rw e (λ code l is s. refuses_11 2 code a b (left_to_unsigned code s)))
    (λ e. rw e (λ code l is s. refuses_11 3 code a b (left_to_unsigned code s)))

pub ruleset at_unsigned = (root_refused, log_refused, gather_refused, scatter_refused, root_unsigned, gathered, scattered, not_unsigned)

pub ruleset at_signed = (root_refused, log_refused, rem_refused, next_refused, not_signed)

-- ---- the codes

-- no operation has the code, or no type
pub not_operation : (op code a b : ℕ) → 6 ≤ op → refused 11 ≡ answer_of op code a b
not_operation op code a b h = refuses_11 op code a b (sym (unlisted op code h))

pub not_kind : (op code a b : ℕ) → 8 ≤ code → refused 11 ≡ answer_of op code a b
not_kind op code a b h = refuses_11 op code a b (go (takes op code) refl)
  where
    go : (t : Bool) → takes op code ≡ t → takes op code ≡ false
    go true e = absurd (omega (arith, code_small op code e))
    go false e = e

-- what is answered at the codes of an operation and a type
pub at_codes : (k : ℕ) {w : Width} {s : Bool} {o op code : ℕ} (a b : ℕ) {q : Reply ℕ} → k < 8 → width_of k ≡ w → signed k ≡ s → AnsweredAt w s o a b q → o ≡ op → k ≡ code →
    q ≡ answer_of op code a b
at_codes k a b l is u h e f = h k l is u ∙ ap₂ (λ x y. answer_of x y a b) e f
