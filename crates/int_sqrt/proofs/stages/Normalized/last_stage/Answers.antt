-- The guess is the root, or one too high.
use Rattle.std.proofs.Common.{◌∙◌, arith}
use Rattle.int_sqrt.proofs.Stage.{stage, wrapped_fixed, above_fixed, below_kept}
use Rattle.int_sqrt.proofs.stages.Normalized.last_stage.Goals as goal
use Rattle.int_sqrt.proofs.stages.Normalized.last_stage.Goals.{then-overflow-via-then-overflow, then-overflow-via-else-overflow+then-s_squared-self}

pub nonzero_div-q : goal.nonzero_div-q
nonzero_div-q g c = (stage c.args.self.now.normalized (c.upper.view_is ∙ c.requires) c.upper.invariant).divisor

pub overflow_add-s : goal.overflow_add-s
overflow_add-s g c = let law = stage c.args.self.now.normalized (c.upper.view_is ∙ c.requires) c.upper.invariant in record { fits = omega (arith, law.guess_le, law.room) }

pub returns-then-overflow : goal.returns-then-overflow
returns-then-overflow g c =
    let law = stage c.args.self.now.normalized (c.upper.view_is ∙ c.requires) c.upper.invariant in
    let squared = c.overflowing_mul-s_squared.ensures in
    elim c.then-overflow.branch [
      | then-overflow-via-then-overflow w ↦ wrapped_fixed law squared.value squared.overflow w.if-overflow.true
      | then-overflow-via-else-overflow+then-s_squared-self w ↦ above_fixed law squared.value squared.overflow w.if-overflow.false w.if-s_squared-self.true
    ]

pub returns-else-s_squared-self : goal.returns-else-s_squared-self
returns-else-s_squared-self g c =
    let law = stage c.args.self.now.normalized (c.upper.view_is ∙ c.requires) c.upper.invariant in
    below_kept law c.overflowing_mul-s_squared.ensures.value c.overflowing_mul-s_squared.ensures.overflow c.if-overflow.false c.if-s_squared-self.false
