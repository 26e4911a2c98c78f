-- The steps of the algorithms: what a division by a power of ten takes off the log, and how large the log of a number of few digits is.
-- Assumes nothing.
use mathlib.Core.Path.{◌≡◌}
use Prim.Native.Nat.{ℕ, zero, suc, ◌+◌, ◌/◌, ◌^◌, ◌≤◌, ◌<◌}
use native.Mathlib.Omega.{arith}
use lib.IntN.{pos}
use Rattle.answers.specs.Reply.{gives}
use Rattle.int_log10.specs.Log.{log, log_of}
use Rattle.int_log10.proofs.Log.{log_lt, log_step}

pub step_five : (v : ℕ) → 100_000 ≤ v → log v ≡ log (v / 100_000) + 5
step_five v h = omega (arith, log_step 5 v h)

pub step_ten : (v : ℕ) → 10_000_000_000 ≤ v → log v ≡ log (v / 10_000_000_000) + 10
step_ten v h = omega (arith, log_step 10 v h)

pub five_digits : (v : ℕ) → 0 < v → v < 100_000 → log v < 5
five_digits v p h = log_lt 5 p h

-- a log of 64 bits that was given
pub twenty_digits : (v k : ℕ) → gives k ≡ log_of (pos v) → v < 2 ^ 64 → k < 20
twenty_digits zero k e h = cc
twenty_digits (suc v) k e h =
    let same : k ≡ log (suc v) = cc in
    omega (arith, log_lt {v = suc v} 20 (omega arith) (omega arith))
