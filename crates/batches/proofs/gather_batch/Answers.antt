-- Over the masks of the mask's stages, the stages are gather.
use Rattle.std.proofs.Common.{rules}
use Rattle.int_bits.proofs.Width.{w64}
use Rattle.int_bits.proofs.Extract.{extracted}
use Rattle.batches.proofs.gather_batch.Goals as goal

pub returns : goal.returns
returns c = c.batch.ensures _ (λ x y e. extracted w64 x c.ranges.mask.fits c.prepare-masks.ensures (search rules))
