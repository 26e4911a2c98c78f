-- The low 16 bits of the widest type.
use Rattle.widths.proofs.Narrow.{narrowed16}
use Rattle.widths.proofs.signed_types.I16Signed.narrow.Goals as goal

pub returns : goal.returns
returns c = narrowed16 c.ranges.z c.cast_unsigned.ensures c.cast_signed.ensures
