-- Each turn counts an answer.
use Rattle.std.proofs.Common.{◌≡◌, ◌+◌, count_by, take}
use Rattle.edges.proofs.tally.Tally.of.Given as goal

abbrev pub invariant-loop-is_right : goal.invariant-loop-is_right
invariant-loop-is_right l = record {
  right : l.tally.right ≡ count_by (λ is_right. is_right) (take l.is_right-index l.known);
  all : l.tally.right + l.tally.wrong ≡ l.is_right-index;
}
