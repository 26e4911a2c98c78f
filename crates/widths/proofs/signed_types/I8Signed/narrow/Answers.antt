-- The low 8 bits of the widest type.
use Rattle.widths.proofs.Narrow.{narrowed8}
use Rattle.widths.proofs.signed_types.I8Signed.narrow.Goals as goal

pub returns : goal.returns
returns c = narrowed8 c.ranges.z c.cast_unsigned.ensures c.cast_signed.ensures
