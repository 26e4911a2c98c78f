-- Masks that are one run of ones, bit by bit.
use Rattle.std.specs.Prelude.{◌≡◌, ℕ, ◌+◌, ◌<◌, ◌≤◌, Option, Some, None}
use Rattle.int_bits.specs.Gather.{bit}

-- the ones of m are adjacent: between two of them there is no zero
pub record Adjacent (m : ℕ) : Type 0 where
  pub between : (i j k : ℕ) → i < j → j < k → bit m i ≡ 1 → bit m k ≡ 1 → bit m j ≡ 1

-- m is one run: `length` ones from bit `start` up, and no other
pub record Run (m start length : ℕ) : Type 0 where
  pub below : (p : ℕ) → p < start → bit m p ≡ 0
  pub inside : (p : ℕ) → start ≤ p → p < start + length → bit m p ≡ 1
  pub above : (p : ℕ) → start + length ≤ p → bit m p ≡ 0

-- where the ones of m start: r is below w exactly where the ones of m are adjacent, and then m is a run from r up; else it is w.
-- Of 0, which has no ones, it is 0
pub record Starts (w m r : ℕ) : Type 0 where
  pub if_adjacent : Adjacent m → r < w
  pub only_if_adjacent : r < w → Adjacent m
  pub if_apart : (Adjacent m → ⊥) → r ≡ w
  pub run : r < w → (length : ℕ) × Run m r length
  pub of_none : m ≡ 0 → r ≡ 0

-- the promise of `run_start`: such a start below w, or none where it is w
abbrev pub Found : ℕ → ℕ → Option ℕ → Type 0
Found w m (Some r) = (r < w) × Starts w m r
Found w m None = Starts w m w
