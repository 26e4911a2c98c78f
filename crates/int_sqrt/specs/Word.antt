-- The words that the stages of the root go over.
use Rattle.std.specs.Prelude.{◌≡◌, ℕ, ◌-◌, ◌*◌, ◌/◌, ◌^◌, ◌<◌, ◌≤◌}

-- a word has a whole number of bits in each quarter, and 64 bits at most
pub record IsWord (bits : ℕ) : Type 0 where
  pub quarters : bits ≡ 4 * (bits / 4)
  pub most : bits ≤ 64

-- n fits such a word, and has a one among its two top bits
pub record IsNormalized (bits n : ℕ) : Type 0 where
  pub word : IsWord bits
  pub low : 2 ^ (bits - 2) ≤ n
  pub high : n < 2 ^ bits
