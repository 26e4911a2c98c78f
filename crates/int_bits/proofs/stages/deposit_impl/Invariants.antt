-- Before each turn the stages that are left make the result of x.
use Rattle.std.proofs.Common.{map}
use mir.Val.{bits}
use Rattle.int_bits.proofs.Deposit.{Depositing}
use Rattle.int_bits.proofs.stages.deposit_impl.Given as goal

abbrev pub invariant-loop-stage : goal.invariant-loop-stage
invariant-loop-stage g l =
    Depositing (bits g.T.Integer.width) g.row.STAGES (map g.T.Unsigned.number l.masks) (g.T.Unsigned.number l.initial.x) (g.T.Unsigned.number l.x) l.stage
