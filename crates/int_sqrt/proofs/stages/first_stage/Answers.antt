-- The table holds the root and the remainder, by its rule.
use Rattle.std.proofs.Common.{sym}
use Rattle.int_sqrt.proofs.Rule.{rule}
use Rattle.int_sqrt.proofs.stages.first_stage.Goals as goal

pub invariant_of-result : goal.invariant_of-result
invariant_of-result c = (rule c.args.n c.ranges.n.fits).small

pub returns : goal.returns
returns c = sym (rule c.args.n c.ranges.n.fits).exact
