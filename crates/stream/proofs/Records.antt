-- How long the answers to whole records are, and what the calls of `records` leave where their lengths and their room are right.
use mathlib.Core.Path.{◌≡◌, refl, ap, ◌∙◌}
use mathlib.Core.List.{List, append-nil}
use Prim.Native.Nat.{ℕ, ◌*◌, ◌≤◌}
use native.Mathlib.Omega.{arith}
use borrow.Author.Tests.{eq-eqb, le-ltb}
use lib.ListN.{length}
use lib.Seq.{take_all}
use Rattle.answers.specs.Answers.{Answer}
use Rattle.records.specs.Records.{reply_to, answer_bytes, answers_to, One, records, answers, Many}
use Rattle.records.proofs.Answers.{length-answers}
use Rattle.stream.specs.Stream.{in_front}

pub length_whole : (n : ℕ) (input : List ℕ) → length input ≡ 17 * n → length (answers input) ≡ 9 * n
length_whole n input e = let m : records input ≡ n = rw e (omega arith) in length-answers (records input) input ∙ ap (λ k. 9 * k) m

-- the answer to a whole record
pub one_answer : (asked : List ℕ) → length asked ≡ 17 → answers asked ≡ answer_bytes (reply_to asked)
unfolding answers_to
one_answer asked n =
    let one : records asked ≡ 1 = rw n refl in
    rw (one, take_all 17 asked (omega arith)) (append-nil (answer_bytes (reply_to asked)))

-- both lengths are right: the answer's bytes are written
pub one_writes : {asked answer answer' : List ℕ} {r : Answer Unit} → One asked answer r answer' → length asked ≡ 17 → length answer ≡ 9 → answer' ≡ answer_bytes (reply_to asked)
one_writes {asked} {answer} p n m = p.leaves_answer ∙ rw (eq-eqb (length asked) 17 n, eq-eqb (length answer) 9 m)

-- given room, the answers stand in front of the output
pub many_writes : {input output output' : List ℕ} {r : Answer ℕ} → Many input output r output' → length (answers input) ≤ length output → output' ≡ in_front input output
many_writes {input} {output} p h = p.leaves_output ∙ rw (le-ltb (length output) (length (answers input)) h)
