-- The log of v is the k with 10 ^ k ≤ v < 10 ^ (k + 1), and no other number is; its bounds, and the step by a power of ten. Assumes nothing.
use mathlib.Core.Path.{◌≡◌, refl, sym}
use Prim.Native.Nat.{ℕ, zero, suc, ◌+◌, ◌/◌, ◌^◌, ◌≤◌, ◌<◌}
use native.Mathlib.Nat.{lt_of_lt_of_le, lt_of_le_of_lt, not-le_of_lt, one-le-pow, pow-le-pow_right, pow-suc, le-div_iff_mul-le, div-lt_iff_lt-mul, add_assoc}
use native.Mathlib.Numerals.{add-one}
use native.Mathlib.Omega.{arith}
use borrow.Author.Tests.{lt-ltb, ltb-true, ltb-false}
use lib.Dec.{lit<}
use lib.Pow.{pow-add}
use Rattle.laws.proofs.First.{first_passes, first_only}
use Rattle.laws.proofs.Order.{by_order}
use Rattle.int_log10.specs.Log.{Log, below, log}

pub power_pos : (k : ℕ) → 0 < 10 ^ k
power_pos k = one-le-pow k 10 (lit< tt)

below_power : (v : ℕ) → v < 10 ^ v
below_power zero = lit< tt
below_power (suc v) = rw pow-suc (omega (arith, below_power v))

pub log_is : {v : ℕ} → 0 < v → Log v (log v)
unfolding log
log_is {v} p = record { low = low (log v) refl; high = ltb-true v _ (first_passes (below v) v 0 (lt-ltb v _ end)) }
  where
    end : v < 10 ^ (v + 0 + 1)
    end = lt_of_le_of_lt (omega arith) (below_power (v + 0 + 1))

    low : (k : ℕ) → k ≡ log v → 10 ^ k ≤ v
    low zero e = p
    low (suc k) e = rw (← add-one k) (ltb-false v _ (first_only (below v) v 0 k (omega arith) (omega arith)))

-- powers of ten go up with their exponents
power_lt : {k m : ℕ} → 10 ^ k < 10 ^ m → k < m
power_lt {k} {m} h = by_order k m (λ g. g) (λ g. absurd (not-le_of_lt h (pow-le-pow_right (lit< tt) g)))

pub log_unique : {v k l : ℕ} → Log v k → Log v l → k ≡ l
log_unique a b =
    let p = power_lt (lt_of_le_of_lt a.low b.high) in
    let q = power_lt (lt_of_le_of_lt b.low a.high) in
    omega arith

pub log_only : {v k : ℕ} → Log v k → k ≡ log v
log_only {v} {k} h = log_unique h (log_is (lt_of_lt_of_le (power_pos k) h.low))

module _ {v : ℕ} (m : ℕ) (p : 0 < v) where
  pub log_lt : v < 10 ^ m → log v < m
  log_lt h = power_lt (lt_of_le_of_lt (log_is p).low h)

  pub log_ge : 10 ^ m ≤ v → m ≤ log v
  log_ge h = let g = power_lt {k = m} {m = log v + 1} (lt_of_le_of_lt h (log_is p).high) in omega arith

-- dividing by 10 ^ m takes m off the log
pub log_step : (m v : ℕ) → 10 ^ m ≤ v → log v ≡ m + log (v / 10 ^ m)
log_step m v h = sym (log_only (record {
  low = rw (pow-add 10 m (log (v / 10 ^ m))) (omega (arith, (le-div_iff_mul-le (power_pos m)).0 rest.low));
  high = rw (add_assoc, pow-add 10 m (log (v / 10 ^ m) + 1)) (omega (arith, (div-lt_iff_lt-mul (power_pos m)).0 rest.high));
}))
  where
    rest : Log (v / 10 ^ m) (log (v / 10 ^ m))
    rest = log_is ((le-div_iff_mul-le (power_pos m)).1 (omega arith))
