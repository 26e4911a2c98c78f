-- Over the masks of the mask's stages, the stages are scatter.
use Rattle.std.proofs.Common.{rules}
use Rattle.int_bits.proofs.Width.{w64}
use Rattle.int_bits.proofs.Deposit.{deposited}
use Rattle.batches.proofs.scatter_batch.Goals as goal

pub returns : goal.returns
returns c = c.batch.ensures _ (λ x y e. deposited w64 x c.ranges.mask.fits c.prepare-masks.ensures (search rules))
