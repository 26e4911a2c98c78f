-- Where the answers have room, they are none, or that to the first record and those to the others.
use Rattle.std.proofs.Common.{◌*◌, ◌/◌, length, arith, ap, sym, ◌∙◌}
use Rattle.stream.proofs.Parts.{none_answered, some_answered, no_room, size_is}
use Rattle.stream.specs.Stream.{whole}
use Rattle.stream.proofs.input.Input.answer.Goals as goal

pub returns-then-output-size : goal.returns-then-output-size
returns-then-output-size c = no_room (whole c.args.self.now) c.args.output.now (size_is c.args.self.now c.whole_len-past.ensures) c.if-output-size.true

pub returns-then-past-gt0 : goal.returns-then-past-gt0
returns-then-past-gt0 c =
    some_answered c.self.inside.kept.now c.self.inside.fragment.now c.args.output.now c.whole_len-past.result c.self.invariant c.if-past-gt0.true
    (c.whole_len-past.ensures ∙ ap (λ l. 17 * (length l / 17)) (sym c.self.view_is)) c.if-output-size.false
    c.self.view_is c.joined-first.ensures c.one.ensures c.many.ensures

pub returns-else-past-gt0 : goal.returns-else-past-gt0
returns-else-past-gt0 c = none_answered c.args.self.now c.args.output.now c.whole_len-past.ensures (omega arith)
