-- What C is told of a call keeps the promise of `feed` and `end`, so that every cutting is answered alike by the C functions too.
use mathlib.Core.Path.{◌≡◌, refl, sym, ap, ap₂, ◌∙◌, subst}
use mathlib.Core.Bool.{Bool, true, false}
use mathlib.Core.List.{List, [], ◌∷◌, ◌++◌}
use Prim.Native.Nat.{ℕ, zero, suc, ◌-◌, ◌≤◌}
use native.Mathlib.Omega.{arith}
use lib.Dec.{ltb}
use lib.ListN.{length, get_or, take, replicate, length-append, length-replicate}
use lib.Seq.{take_at, get_or_at}
use Rattle.std.specs.Prelude.{Ok, Err}
use Rattle.answers.specs.Reply.{gives, refusal_of, natural, row, unless, leaves}
use Rattle.answers.specs.Answers.{Answer, means}
use Rattle.answers.specs.declared.Refusal.{Refusal}
use Rattle.answers.specs.declared.Refusal.TheVariants as why
use Rattle.records.specs.Records.{answers}
use Rattle.stream.specs.declared.Stream.{Stream}
use Rattle.stream.specs.Stream.{outcome, kept, keeping, take_reply, Takes}
use Rattle.stream.specs.Packed.{state_of, bytes_of, Told}
use Rattle.stream.specs.Cuttings.{joined, Run, fed, ended, refused, ToldRun, told_fed, told_ended, told_refused}
use Rattle.stream.proofs.Whole.{state, rest_short}
use Rattle.stream.proofs.Packed.{zeros_fresh}
use Rattle.stream.proofs.Cuttings.{any_cutting}

-- the refusal of a number; past the list it is the last
abbrev named : ℕ → Refusal
named n = get_or (why.NegativeRoot ∷ why.NoLog ∷ why.DivisorZero ∷ why.NoFit ∷ why.TableTooLong ∷ why.NoSuchCard ∷ why.EmptyMask ∷ why.TooWide ∷ why.Differs ∷ why.NoRoom ∷ why.NoOperation ∷ why.BadOperand ∷ why.WrongLength ∷ []) (n - 1) why.WrongLength

-- the answer that the two numbers which C is told are: 0 is no refusal
abbrev pub told_u64 : ℕ → ℕ → Answer ℕ
told_u64 zero number = Ok number
told_u64 (suc k) number = Err (named (suc k))

-- every refusal of a call has its number
by_rows : (t u : Bool) (n : ℕ) → let r = unless (row 13 t ∷ row 10 u ∷ []) (gives n) in means (told_u64 (refusal_of r) (natural r)) ≡ r
by_rows true u n = refl
by_rows false true n = refl
by_rows false false n = refl

numbers : (s : Stream) (input output : List ℕ) → means (told_u64 (refusal_of (take_reply s input output)) (natural (take_reply s input output))) ≡ take_reply s input output
unfolding take_reply
numbers s input output = by_rows (ltb 16 s.count) (ltb (length output) (length (answers input))) (length (answers input))

-- the state that was made to keep at most 16 bytes is that of its 17 bytes
keeping_back : (l : List ℕ) → length l ≤ 16 → state_of (bytes_of (keeping l)) ≡ keeping l
unfolding state_of bytes_of keeping
keeping_back l h =
    let b = l ++ replicate (16 - length l) 0 in
    let n : length b ≡ 16 = length-append l (replicate (16 - length l) 0) ∙ omega (arith, length-replicate {A = ℕ} (16 - length l) 0) in
    ap₂ state (take_at b (length l ∷ []) 16 n) (get_or_at b (length l) [] 0 16 n)

module _ {b input left output b' output' : List ℕ} {n : ℕ} where
  replies : {k : ℕ} → Told b input left output k n b' output' → means (told_u64 k n) ≡ take_reply (state_of b) input output
  replies t = ap₂ (λ k n. means (told_u64 k n)) t.returns t.leaves_written ∙ numbers (state_of b) input output

  left_by : {k : ℕ} → Told b input left output k n b' output' → b' ≡ leaves (means (told_u64 k n)) (bytes_of (keeping left)) b
  left_by t = t.leaves_state ∙ ap (λ m. leaves m (bytes_of (keeping left)) b) (sym (replies t))

  pub takes_told : (k : ℕ) → (k ≡ 0 → length left ≤ 16) → Told b input left output k n b' output' → Takes (state_of b) input left output (outcome (state_of b') (told_u64 k n)) output'
  takes_told zero h t = record {
    replies = replies t;
    next_state = ap state_of (left_by t) ∙ keeping_back left (h refl) ∙ ap (λ m. leaves m (keeping left) (state_of b)) (replies t);
    leaves_output = t.leaves_output;
  }
  takes_told (suc k) h t = record {
    replies = replies t;
    next_state = ap state_of (left_by t) ∙ ap (λ m. leaves m (keeping left) (state_of b)) (replies t);
    leaves_output = t.leaves_output;
  }

  wrote_told : {k : ℕ} → Told b input left output k n b' output' → take (natural (means (told_u64 k n))) output' ≡ take n output'
  wrote_told t = ap (λ i. take i output') (ap natural (replies t) ∙ sym t.leaves_written)

-- a run of C calls is a run
is_run : {b : List ℕ} {fragments : List (List ℕ)} {bytes : List ℕ} → ToldRun b fragments bytes → Run (state_of b) fragments bytes
is_run (told_fed {b} {fragment} {bytes = bytes} {fragments} {refusal = k} t room more) =
    subst (λ l. Run (state_of b) (fragment ∷ fragments) (l ++ bytes)) (wrote_told t) (fed (takes_told k (λ _. rest_short (kept (state_of b) ++ fragment)) t) room (is_run more))
is_run (told_ended {b} {refusal = k} t room) = subst (λ l. Run (state_of b) [] l) (wrote_told t) (ended (takes_told k (λ _. omega arith) t) room)
is_run (told_refused {refusal = zero} t h more) = absurd (omega arith)
is_run (told_refused {refusal = suc k} t h more) = refused (takes_told (suc k) (λ e. absurd (omega arith)) t) refl (is_run more)

-- from 17 zeros: the answers to the whole input at once
pub told_cutting : {fragments : List (List ℕ)} {bytes : List ℕ} → ToldRun (replicate 17 0) fragments bytes → bytes ≡ answers (joined fragments)
told_cutting {fragments} {bytes} h = any_cutting (subst (λ s. Run s fragments bytes) zeros_fresh (is_run h))
