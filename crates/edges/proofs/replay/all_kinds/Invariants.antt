-- No byte is added to the rest.
use Rattle.std.proofs.Common.{◌≤◌, length}
use Rattle.edges.proofs.replay.all_kinds.Given as goal

abbrev pub invariant-loop-number : goal.invariant-loop-number
invariant-loop-number l = length l.rest ≤ length l.list
