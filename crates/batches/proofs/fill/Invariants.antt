-- Before each turn the results so far stand in front of the rest.
use Rattle.std.proofs.Common.{◌≡◌, ℕ, ◌++◌, map, take, drop}
use Rattle.batches.specs.Batch.{Computes}
use Rattle.batches.proofs.fill.Given as goal

abbrev pub invariant-loop-i : goal.invariant-loop-i
invariant-loop-i g l = (f : ℕ → ℕ) → Computes (goal.F-post g l.move_word) f → l.destination ≡ map f (take l.i l.source) ++ drop l.i l.initial.destination
