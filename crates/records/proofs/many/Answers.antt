-- An output that is too short is refused, and each turn puts the answer to the next record behind those that stand.
use Rattle.std.proofs.Common.{refl}
use Rattle.records.proofs.Loop.{counted, left_next, many_refused}
use Rattle.records.proofs.many.Goals as goal

pub returns-then-output-size : goal.returns-then-output-size
returns-then-output-size c = many_refused _ _ refl (rw (← counted c.args.input.now c.div_ceil-size.ensures) c.if-output-size.true)

pub loop-i-preserved : goal.loop-i-preserved
loop-i-preserved c =
    let h = c.in-Some.ensures.steps in
    left_next c.loop-i.invariant h.0.0 h.0.1.0 h.0.1.1 h.0.1.2 h.1 h.2 c.respond.ensures
