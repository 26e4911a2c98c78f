-- The table holds the root, by its rule.
use Rattle.std.proofs.Common.{arith}
use Rattle.int_sqrt.proofs.Root.{remainder_root, root_only}
use Rattle.int_sqrt.proofs.Rule.{rule}
use Rattle.int_sqrt.proofs.stages.isqrt_u64.Goals as goal

pub returns-then-n : goal.returns-then-n
returns-then-n c = root_only (remainder_root (rule c.args.n (omega arith)))
