-- The integer square root.
use Rattle.std.specs.Prelude.{◌≡◌, ℕ, ◌+◌, ◌*◌, ◌<◌, ◌≤◌, Bool, ℤ, pos, negsuc, nat_lt}
use Rattle.answers.specs.Reply.{Reply, gives, refused, mapped}
use Rattle.laws.specs.First.{first_from}

-- s is the root of n
pub record Root (n s : ℕ) : Type 0 where
  pub low : s * s ≤ n
  pub high : n < (s + 1) * (s + 1)

-- s is the root of n, and r what is left of n beyond its square
pub record Remainder (n s r : ℕ) : Type 0 where
  pub exact : n ≡ s * s + r
  pub small : r ≤ 2 * s

-- the next square is above n
abbrev pub passed : ℕ → ℕ → Bool
passed n s = nat_lt n ((s + 1) * (s + 1))

-- the root, as a number: the first s from 0 up whose next square is above n
unfoldable pub root : ℕ → ℕ
root n = first_from (passed n) n 0

-- of a whole number: refused below 0
abbrev pub root_of : ℤ → Reply ℤ
root_of (pos n) = gives (pos (root n))
root_of (negsuc n) = refused 1

-- the same refusal, without the root
abbrev pub root_check : ℤ → Reply Unit
root_check z = mapped (λ _. tt) (root_of z)
