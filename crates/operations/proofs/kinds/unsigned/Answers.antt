-- The log as the widest word is the log.
use Rattle.std.proofs.Common.{ap, ◌∙◌, rules}
use Rattle.int_log10.specs.Log.{log_of}
use Rattle.operations.proofs.Chains.{kept_answer}
use Rattle.operations.proofs.Answered.{log_unsigned}
use Rattle.operations.proofs.kinds.unsigned.Goals as goal

pub returns-in_ok-lone-in-Log : goal.returns-in_ok-lone-in-Log
returns-in_ok-lone-in-Log g c =
    rw c.in-Log.is
    (log_unsigned c.in_ok-lone-in-Log.ensures
    (kept_answer (λ n. n) (λ n. n) _ (λ x y k. search rules) c.checked_ilog10.result c.map.result c.map.ensures.cases ∙ c.checked_ilog10.ensures
    ∙ ap log_of (g.met.T.Unsigned.number_law c.in_ok-lone-in-Log.field-0)))
