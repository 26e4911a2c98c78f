-- The decimal logarithm and the digit count.
use Rattle.std.specs.Prelude.{Bool, ℕ, zero, suc, ◌+◌, ◌^◌, ◌≤◌, ◌<◌, ltb, ℤ, pos, negsuc}
use Rattle.answers.specs.Reply.{Reply, gives, refused, mapped}
use Rattle.laws.specs.First.{first_from}

-- k is the log of v
pub record Log (v k : ℕ) : Type 0 where
  pub low : 10 ^ k ≤ v
  pub high : v < 10 ^ (k + 1)

-- v is below the power of ten that follows 10 ^ k
abbrev pub below : ℕ → ℕ → Bool
below v k = ltb v (10 ^ (k + 1))

-- the log, as a number: the first k of which that is true; v tries are enough, since v < 10 ^ v
unfoldable pub log : ℕ → ℕ
log v = first_from (below v) v 0

-- the log of a whole number, refused unless it is above 0
abbrev pub log_of : ℤ → Reply ℕ
log_of (pos zero) = refused 2
log_of (pos (suc n)) = gives (log (suc n))
log_of (negsuc n) = refused 2

-- the digit count: the log plus one, and refused where the log is
unfoldable pub digit_count : ℕ → Reply ℕ
digit_count v = mapped (λ k. k + 1) (log_of (pos v))
