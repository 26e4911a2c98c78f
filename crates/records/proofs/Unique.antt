-- The promises leave no choice: two results, and two slices left, that one promise allows coincide.
use mathlib.Core.Path.{◌≡◌, sym, ◌∙◌}
use mathlib.Core.List.{List}
use Prim.Native.Nat.{ℕ}
use Rattle.answers.specs.Answers.{Answer}
use Rattle.answers.proofs.Once.{one_answer}
use Rattle.records.specs.Records.{One, Many}

pub one_one : {asked answer x y : List ℕ} {r s : Answer Unit} → One asked answer r x → One asked answer s y → (r ≡ s) × (x ≡ y)
one_one p q = (one_answer p.replies q.replies, p.leaves_answer ∙ sym q.leaves_answer)

pub one_many : {input output x y : List ℕ} {r s : Answer ℕ} → Many input output r x → Many input output s y → (r ≡ s) × (x ≡ y)
one_many p q = (one_answer p.replies q.replies, p.leaves_output ∙ sym q.leaves_output)
