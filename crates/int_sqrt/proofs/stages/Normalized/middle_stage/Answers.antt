-- The difference is the remainder, or its repair is.
use Rattle.std.proofs.Common.{sym, ◌∙◌, arith, rules}
use Rattle.int_sqrt.proofs.Stage.{stage, given_kept, given_fixed}
use Rattle.int_sqrt.proofs.stages.Normalized.middle_stage.Goals as goal
use Rattle.int_sqrt.proofs.stages.Normalized.middle_stage.Goals.{then-overflow, else-overflow}

pub nonzero_div-q : goal.nonzero_div-q
nonzero_div-q g c = (stage c.args.self.now.normalized (c.upper.view_is ∙ c.requires) c.upper.invariant).divisor

pub nonzero_rem-u : goal.nonzero_rem-u
nonzero_rem-u g c = (stage c.args.self.now.normalized (c.upper.view_is ∙ c.requires) c.upper.invariant).divisor

pub overflow_add-s : goal.overflow_add-s
overflow_add-s g c = let law = stage c.args.self.now.normalized (c.upper.view_is ∙ c.requires) c.upper.invariant in record { fits = omega (arith, law.guess_le, law.room) }

pub invariant_of-result : goal.invariant_of-result
invariant_of-result g c =
    let law = stage c.args.self.now.normalized (c.upper.view_is ∙ c.requires) c.upper.invariant in
    elim c.if-overflow.branch [
      | then-overflow w ↦ (given_fixed law (search rules) c.overflowing_sub-r.ensures.value c.overflowing_sub-r.ensures.overflow w.if-overflow.true w.s-is w.r-is).small
      | else-overflow w ↦ (given_kept law (search rules) c.overflowing_sub-r.ensures.value c.overflowing_sub-r.ensures.overflow w.if-overflow.false w.s-is w.r-is).small
    ]

pub returns : goal.returns
returns g c =
    let law = stage c.args.self.now.normalized (c.upper.view_is ∙ c.requires) c.upper.invariant in
    elim c.if-overflow.branch [
      | then-overflow w ↦ sym (given_fixed law (search rules) c.overflowing_sub-r.ensures.value c.overflowing_sub-r.ensures.overflow w.if-overflow.true w.s-is w.r-is).exact
      | else-overflow w ↦ sym (given_kept law (search rules) c.overflowing_sub-r.ensures.value c.overflowing_sub-r.ensures.overflow w.if-overflow.false w.s-is w.r-is).exact
    ]
