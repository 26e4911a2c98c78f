-- Each arm is its operation on the numbers that the bits stand for.
use Rattle.std.proofs.Common.{ap, ◌∙◌, rules, of_z}
use Rattle.answers.specs.Reply.{mapped}
use Rattle.operations.proofs.Chains.{mapped_answer, kept_answer}
use Rattle.operations.proofs.Answered.{root_signed, log_signed, rem_answered, next_answered}
use Rattle.operations.proofs.kinds.signed.Goals as goal

pub returns-in_ok-lone-in-Root : goal.returns-in_ok-lone-in-Root
returns-in_ok-lone-in-Root g c =
    rw c.in-Root.is
    (root_signed g.met.T.Signed.unsigned_width c.in_ok-lone-in-Root.ensures c.cast_signed.ensures
    (mapped_answer g.T.Integer.whole (λ n. n) (of_z g.T.Integer.width) _ (λ x y k. search rules) c.checked_isqrt.result c.map.result c.map.ensures.cases
    ∙ ap (mapped (of_z g.T.Integer.width)) c.checked_isqrt.ensures))

pub returns-in_ok-lone-in-Log : goal.returns-in_ok-lone-in-Log
returns-in_ok-lone-in-Log g c =
    rw c.in-Log.is
    (log_signed g.met.T.Signed.unsigned_width c.in_ok-lone-in-Log.ensures c.cast_signed-in-Log.ensures
    (kept_answer (λ n. n) (λ n. n) _ (λ x y k. search rules) c.checked_ilog10.result c.map-in-Log.result c.map-in-Log.ensures.cases ∙ c.checked_ilog10.ensures))

pub returns-in_ok-x-in-Remainder : goal.returns-in_ok-x-in-Remainder
returns-in_ok-x-in-Remainder g c =
    rw c.in-Remainder.is
    (rem_answered g.met.T.Signed.unsigned_width c.in_ok-x-in-Remainder.ensures c.cast_signed-in-Remainder.ensures c.cast_signed-in-Remainder-2.ensures
    (mapped_answer g.T.Integer.whole (λ n. n) (of_z g.T.Integer.width) _ (λ x y k. search rules) c.rem_euclid.result c.map-in-Remainder.result c.map-in-Remainder.ensures.cases
    ∙ ap (mapped (of_z g.T.Integer.width)) c.rem_euclid.ensures))

pub returns-in_ok-x-in-NextMultiple : goal.returns-in_ok-x-in-NextMultiple
returns-in_ok-x-in-NextMultiple g c =
    rw c.in-NextMultiple.is
    (next_answered g.met.T.Signed.unsigned_width c.in_ok-x-in-NextMultiple.ensures c.cast_signed-in-NextMultiple.ensures c.cast_signed-in-NextMultiple-2.ensures
    (mapped_answer g.T.Integer.whole (λ n. n) (of_z g.T.Integer.width) _ (λ x y k. search rules) c.next_multiple_of.result c.map-in-NextMultiple.result c.map-in-NextMultiple.ensures.cases
    ∙ ap (mapped (of_z g.T.Integer.width)) c.next_multiple_of.ensures))
