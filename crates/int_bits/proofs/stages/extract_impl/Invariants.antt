-- Before each turn x is what the stages so far make of it.
use Rattle.std.proofs.Common.{map}
use Rattle.int_bits.proofs.Extract.{Extracting}
use Rattle.int_bits.proofs.stages.extract_impl.Given as goal

abbrev pub invariant-loop-stage : goal.invariant-loop-stage
invariant-loop-stage g l = Extracting g.row.STAGES (map g.T.Unsigned.number l.mask-items) (g.T.Unsigned.number l.initial.x) (g.T.Unsigned.number l.x) l.stage
