-- Normalisation to a word of b bits, worked out in words of w bits, over both: shifted left by its leading zeros less the odd one, n has
-- a one among its two top bits, and n's root is the shifted number's, shifted back by half as much.
use Rattle.std.proofs.Common.{◌≡◌, ℕ, zero, suc, ◌+◌, ◌-◌, ◌*◌, ◌/◌, ◌%◌, ◌^◌, ◌<◌, ◌≤◌, ap, ◌∙◌, le_trans, lt_of_lt_of_le, mul-le-mul_right, mod-eq_of_lt, mul-le-mul, lt_of_mul-lt-mul_right, div-mul-le_self, le_of_mul-le-mul_right, arith, lit<, pow_pos, pow_mono, pow-add, shl_lt}
use native.Mathlib.Nat.{lt-div-mul-add}
use lib.Bits.{bit_and, and_high}
use lib.Count.{count_leading_zeros, leading_top}
use Rattle.laws.proofs.Order.{by_order}
use Rattle.int_sqrt.specs.Root.{Root, root}
use Rattle.int_sqrt.specs.Word.{IsWord, IsNormalized}
use Rattle.int_sqrt.proofs.Root.{root_only}

-- a root's quotient by c is the root of the quotient by c * c
scaled : {n r : ℕ} (c : ℕ) → zero < c → Root (n * (c * c)) r → Root n (r / c)
scaled {n} {r} c pos h =
    let q = r / c in
    let under : q * c ≤ r = div-mul-le_self r c in
    let over : r + 1 ≤ q * c + c = omega (arith, lt-div-mul-add {a = r} pos) in
    let low : q * q * (c * c) ≤ n * (c * c) = omega (arith, h.low, mul-le-mul under under) in
    let high : n * (c * c) < (q + 1) * (q + 1) * (c * c) = omega (arith, h.high, mul-le-mul over over) in
    record { low = le_of_mul-le-mul_right low (omega (arith, mul-le-mul pos pos)); high = lt_of_mul-lt-mul_right (c * c) high }

-- the code's shift: the leading zeros of b bits, with the lowest bit cleared
abbrev shift : ℕ → ℕ → ℕ → ℕ
shift w b n = bit_and (count_leading_zeros w n - (w - b)) 0xffff_fffe

pub record Normal (w b n : ℕ) : Type 0 where
  pub zeros : w - b ≤ count_leading_zeros w n
  pub fits : b ≤ w
  pub small : shift w b n < b
  pub low : 2 ^ (b - 2) ≤ n * 2 ^ shift w b n
  pub high : n * 2 ^ shift w b n < 2 ^ b
  pub even : shift w b n ≡ shift w b n / 2 + shift w b n / 2

power_below : (j b n : ℕ) → 2 ^ j ≤ n → n < 2 ^ b → j < b
power_below j b n lo hi = by_order j b (λ f. f) (λ g. absurd (omega (arith, pow_mono {i = b} {j = j} g)))

normal_in : {w b n : ℕ} → w < 2 ^ 32 → b ≤ w → zero < n → n < 2 ^ b → Normal w b n
normal_in {w} {b} {n} bound le pos fits =
    let t = leading_top w n pos (lt_of_lt_of_le fits (pow_mono le)) in
    let j = t.0 in
    let z = count_leading_zeros w n in
    let y = z - (w - b) in
    let e = shift w b n in
    let z-is : z + suc j ≡ w = t.1 in
    let below : j < b = power_below j b n t.2 fits in
    let y-is : y + suc j ≡ b = omega arith in
    let e-is : e ≡ (y / 2 ^ 1 % 2 ^ 31) * 2 ^ 1 = and_high y 31 1 in
    let e-le : e ≤ y = omega arith in
    let e-ge : y ≤ e + 1 = omega arith in
    let low : 2 ^ (j + e) ≤ n * 2 ^ e = rw (pow-add 2 j e) (mul-le-mul_right (2 ^ e) t.2) in
    let high : n * 2 ^ e < 2 ^ (suc j + e) = shl_lt {a = n} (suc j) e t.3 in
    record {
      zeros = omega arith;
      fits = le;
      small = omega arith;
      low = le_trans (pow_mono (omega arith)) low;
      high = lt_of_lt_of_le high (pow_mono (omega arith));
      even = omega arith;
    }

-- at the code's words
pub normal : {b n : ℕ} → IsWord b → zero < n → n < 2 ^ b → Normal 64 b n
normal word pos fits = normal_in (lit< tt) word.most pos fits

module _ {w b n : ℕ} (h : Normal w b n) where
  shifted_is : (n * 2 ^ shift w b n) % 2 ^ w ≡ n * 2 ^ shift w b n
  shifted_is = mod-eq_of_lt (lt_of_lt_of_le h.high (pow_mono h.fits))

  -- what the stages are given
  pub top : IsWord b → IsNormalized b ((n * 2 ^ shift w b n) % 2 ^ w)
  top word = rw shifted_is (record { word = word; low = h.low; high = h.high })

  -- what their root gives, of any number shifted as far as n
  pub back_from : {m s : ℕ} → Root (m * 2 ^ shift w b n) s → Root m (s / 2 ^ (shift w b n / 2))
  back_from {m} {s} g =
      let p = shift w b n / 2 in
      let square : 2 ^ shift w b n ≡ 2 ^ p * 2 ^ p = ap (λ (x : ℕ). 2 ^ x) h.even ∙ pow-add 2 p p in
      scaled (2 ^ p) (pow_pos p) (rw square at g)

  -- and of n itself
  pub back : {s : ℕ} → Root ((n * 2 ^ shift w b n) % 2 ^ w) s → s / 2 ^ (shift w b n / 2) ≡ root n
  back g = root_only (back_from (rw shifted_is at g))
