-- The low 32 bits of the widest type.
use Rattle.widths.proofs.Narrow.{narrowed32}
use Rattle.widths.proofs.signed_types.I32Signed.narrow.Goals as goal

pub returns : goal.returns
returns c = narrowed32 c.ranges.z c.cast_unsigned.ensures c.cast_signed.ensures
