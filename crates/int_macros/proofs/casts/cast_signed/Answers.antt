-- `cast_signed`: the number of the 64 bits, wrapped, is that of the low bits.
use Rattle.std.proofs.Common.{arith}
use Rattle.int_macros.proofs.Rules.{casts}
use Rattle.int_macros.proofs.casts.cast_signed.Goals as goal

pub returns : goal.returns
returns g c = grind (arith, casts)
