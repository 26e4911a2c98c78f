-- A number has a bit at or above k exactly where it is 2^k or more; no number of 64 bits has one above 63.
use borrow.Author.Tests.{lt-leb}
use Rattle.std.proofs.Common.{◌≡◌, sym, false, ℕ, ◌^◌, ◌/◌, ◌*◌, ◌≤◌, ◌<◌, ◌↔◌, arith}
use mathlib.Core.Bool.{not}
use native.Mathlib.Nat.{le-div_iff_mul-le}
use lib.Count.{ones}
use lib.Dec.{leb, eqb}
use lib.Pow.{pow_mono, pow_pos}
use Rattle.cards.specs.Table.{too_wide}

high_bits : (x k : ℕ) → not (eqb (x / 2 ^ k) 0) ≡ leb (2 ^ k) x
high_bits x k = let high : (1 ≤ x / 2 ^ k) ↔ (1 * 2 ^ k ≤ x) = le-div_iff_mul-le (pow_pos k) in grind (arith, high)

pub by_high_bits : (number mask : ℕ) → not (eqb (number / 2 ^ ones mask) 0) ≡ too_wide number mask
by_high_bits number mask = high_bits number (ones mask)

pub never_wide : (number mask : ℕ) → number < 2 ^ 64 → 64 ≤ ones mask → false ≡ too_wide number mask
never_wide number mask fits all = sym (lt-leb (2 ^ ones mask) number (omega (arith, pow_mono all)))
