-- Each turn of the inner loop doubles the reach of the parity, and each stage adds its mask.
use Rattle.std.proofs.Common.{◌^◌, map}
use mir.Val.{bits}
use Rattle.int_bits.proofs.Preparing.{Doubling, Prepared}
use Rattle.int_bits.proofs.stages.prepare.Given as goal

abbrev pub invariant-loop-stage : goal.invariant-loop-stage
invariant-loop-stage g l =
    Prepared (bits g.T.Integer.width) g.row.STAGES (g.T.Unsigned.number l.fn.sparse) (g.T.Unsigned.number l.zeros) (map g.T.Unsigned.number l.mask-items) l.stage

abbrev pub invariant-loop-doubling : goal.invariant-loop-doubling
invariant-loop-doubling g l = Doubling (bits g.T.Integer.width) (g.T.Unsigned.number l.fn.sparse) l.stage (g.T.Unsigned.number l.parity) (2 ^ l.doubling)
