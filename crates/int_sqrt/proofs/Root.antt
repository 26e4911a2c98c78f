-- The root's laws: it is the s with s * s ≤ n < (s + 1) * (s + 1), and no other number is.
use Rattle.std.proofs.Common.{◌≡◌, ℕ, zero, suc, ◌+◌, ◌*◌, ◌%◌, ◌<◌, ◌≤◌, ℤ, pos, negsuc, refl, lt_of_le_of_lt, mul-le-mul, mod-eq_of_lt, le_antisymm, arith, ltb-false, ltb-true, lt-ltb}
use Rattle.answers.specs.Reply.{refusal_of}
use Rattle.laws.specs.First.{first_from}
use Rattle.laws.proofs.First.{first_passes, first_only}
use Rattle.laws.proofs.Order.{by_order}
use Rattle.int_sqrt.specs.Root.{Root, Remainder, passed, root, root_of, root_check}

pub root_is : (n : ℕ) → Root n (root n)
unfolding root
root_is n = record { low = low (root n) refl; high = ltb-true n _ (first_passes (passed n) n 0 (lt-ltb n _ (omega arith))) }
  where
    low : (s : ℕ) → s ≡ first_from (passed n) n 0 → s * s ≤ n
    low zero e = omega arith
    low (suc s) e = let h : (s + 1) * (s + 1) ≤ n = ltb-false n _ (first_only (passed n) n 0 s (omega arith) (omega arith)) in omega arith

-- a number whose square is below another's is below it
pub square_lt : {s t : ℕ} → s * s < t * t → s < t
square_lt {s} {t} h = by_order s t (λ f. f) (λ g. omega (arith, mul-le-mul g g))

-- a number whose square is at most n is at most the root of n
pub root_above : {n s t : ℕ} → s * s ≤ n → Root n t → s ≤ t
root_above {n} {s} {t} lo b = let h : s < t + 1 = square_lt (lt_of_le_of_lt lo b.high) in omega arith

pub root_unique : {n s t : ℕ} → Root n s → Root n t → s ≡ t
root_unique a b = le_antisymm (root_above a.low b) (root_above b.low a)

pub root_only : {n s : ℕ} → Root n s → s ≡ root n
root_only {n} h = root_unique h (root_is n)

pub root_le : (n : ℕ) → root n ≤ n
root_le n = below (root n) (root_is n).low
  where
    below : (s : ℕ) → s * s ≤ n → s ≤ n
    below zero h = omega arith
    below (suc s) h = omega arith

-- the root of a number that fits, cut to what fits
pub root_mod : (n m : ℕ) → n < m → root n % m ≡ root n
root_mod n m h = mod-eq_of_lt (lt_of_le_of_lt (root_le n) h)

pub remainder_root : {n s r : ℕ} → Remainder n s r → Root n s
remainder_root p = record { low = omega arith; high = omega arith }

-- the check refuses as the root does
pub check_refusal : (z : ℤ) → refusal_of (root_check z) ≡ refusal_of (root_of z)
check_refusal (pos n) = refl
check_refusal (negsuc n) = refl
