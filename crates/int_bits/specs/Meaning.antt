-- What document 01 says of gather and scatter, bit by bit. That each is so, and is the only number that is so, is shown in proofs/Meaning.
use Rattle.std.specs.Prelude.{◌≡◌, ℕ}
use Rattle.int_bits.specs.Gather.{bit, count}

-- p is the position of the (j+1)-th one of m: a one, and j ones below it
pub record One (m j p : ℕ) : Type 0 where
  pub one : bit m p ≡ 1
  pub below : count m p ≡ j

-- x gathered under m: bit j is the bit of x at the (j+1)-th one of m; the rest is 0
pub record Gathered (x m r : ℕ) : Type 0 where
  pub at : (j p : ℕ) → One m j p → bit r j ≡ bit x p
  pub rest : (j : ℕ) → ((p : ℕ) → One m j p → ⊥) → bit r j ≡ 0

-- x scattered under m: the bit at the (i+1)-th one of m is bit i of x; other positions are 0
pub record Scattered (x m r : ℕ) : Type 0 where
  pub at : (i p : ℕ) → One m i p → bit r p ≡ bit x i
  pub rest : (p : ℕ) → bit m p ≡ 0 → bit r p ≡ 0
