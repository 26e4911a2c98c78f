-- The sums whose top bits say the log: what adding a constant does, once over its threshold, and what the code makes of the top bits.
-- Assumes nothing.
use mathlib.Core.Path.{◌≡◌, refl, ap, ap₂, ◌∙◌}
use mathlib.Core.Bool.{cond}
use Prim.Native.Nat.{ℕ, zero, suc, ◌+◌, ◌*◌, ◌-◌, ◌/◌, ◌^◌, ◌≤◌, ◌<◌}
use native.Mathlib.Omega.{arith}
use borrow.Author.Tests.{le-leb, lt-leb}
use lib.Bits.{bit_and, bit_xor, and_shr, xor_shr}
use lib.Dec.{leb, lit≤}
use lib.Pow.{high}
use Rattle.laws.proofs.Order.{by_order}
use Rattle.int_log10.specs.Log.{log}
use Rattle.int_log10.proofs.Log.{log_lt, log_ge}

-- t, and from m up t + 1
abbrev stepped : ℕ → ℕ → ℕ → ℕ
stepped t m k = cond (leb m k) (t + 1) t

module _ (b : ℕ) {v : ℕ} (p : 0 < v) (h : v < 2 ^ b) where
  -- adding (t + 1) * 2 ^ b - 10 ^ m to v gives t in the bits above the low b for v < 10 ^ m, t + 1 for v >= 10 ^ m
  top : (t m : ℕ) → 10 ^ m ≤ 2 ^ b → (v + ((t + 1) * 2 ^ b - 10 ^ m)) / 2 ^ b ≡ stepped t m (log v)
  top t m g =
      by_order v (10 ^ m)
      (λ i. rw (lt-leb m (log v) (log_lt m p i)) (bits t (v + 2 ^ b - 10 ^ m) (omega arith) (omega arith)))
      (λ i. rw (le-leb m (log v) (log_ge m p i)) (bits (t + 1) (v - 10 ^ m) (omega arith) (omega arith)))
    where
      bits : (q r : ℕ) → v + ((t + 1) * 2 ^ b - 10 ^ m) ≡ q * 2 ^ b + r → r < 2 ^ b → (v + ((t + 1) * 2 ^ b - 10 ^ m)) / 2 ^ b ≡ q
      bits q r e i = ap (λ n. n / 2 ^ b) e ∙ high q b i

  -- two such sums under &
  both : (s m t n : ℕ) → 10 ^ m ≤ 2 ^ b → 10 ^ n ≤ 2 ^ b
      → bit_and (v + ((s + 1) * 2 ^ b - 10 ^ m)) (v + ((t + 1) * 2 ^ b - 10 ^ n)) / 2 ^ b ≡ bit_and (stepped s m (log v)) (stepped t n (log v))
  both s m t n f g = and_shr _ _ b ∙ ap₂ bit_and (top s m f) (top t n g)

-- the rows of u8_impl's table, by the log
three_rows : (k : ℕ) → k < 3 → bit_and (stepped 0b10 1 k) (stepped 0b01 2 k) ≡ k
three_rows zero h = refl
three_rows (suc zero) h = refl
three_rows (suc (suc zero)) h = refl
three_rows (suc (suc (suc k))) h = absurd (omega arith)

pub two_sums : {v : ℕ} → 0 < v → v < 2 ^ 8 → bit_and (v + 758) (v + 412) / 2 ^ 8 ≡ log v
two_sums {v} p h = both 8 p h 0b10 1 0b01 2 (lit≤ tt) (lit≤ tt) ∙ three_rows (log v) (log_lt 3 p (omega arith))

-- the rows of less_than_5's
five_rows : (k : ℕ) → k < 5 → bit_xor (bit_and (stepped 0b010 1 k) (stepped 0b011 2 k)) (bit_and (stepped 0b110 3 k) (stepped 0b011 4 k)) ≡ k
five_rows zero h = refl
five_rows (suc zero) h = refl
five_rows (suc (suc zero)) h = refl
five_rows (suc (suc (suc zero))) h = refl
five_rows (suc (suc (suc (suc zero)))) h = refl
five_rows (suc (suc (suc (suc (suc k))))) h = absurd (omega arith)

pub four_sums : {v : ℕ} → 0 < v → v < 100_000
    → bit_xor (bit_and (v + 393206) (v + 524188)) (bit_and (v + 916504) (v + 514288)) / 2 ^ 17 ≡ log v
four_sums {v} p l =
    let h : v < 2 ^ 17 = omega arith in
    let left = both 17 p h 0b010 1 0b011 2 (lit≤ tt) (lit≤ tt) in
    let right = both 17 p h 0b110 3 0b011 4 (lit≤ tt) (lit≤ tt) in
    rw xor_shr (ap₂ bit_xor left right ∙ five_rows (log v) (log_lt 5 p l))
