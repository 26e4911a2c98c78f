-- `rem_euclid`: past the two refusals `%` is defined, and |d| more, round the width, is the remainder.
use Rattle.std.proofs.Common.{arith}
use Rattle.int_macros.proofs.Rules.{remainder}
use Rattle.int_macros.proofs.remainders.rem_euclid.Goals as goal

pub returns-then-widen-lt0 : goal.returns-then-widen-lt0
returns-then-widen-lt0 g c = grind (arith, remainder)

pub returns-else-widen-lt0 : goal.returns-else-widen-lt0
returns-else-widen-lt0 g c = grind (arith, remainder)
