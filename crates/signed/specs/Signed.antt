-- What each signed form gives, on whole numbers: a number, or a refusal with its number.
use Rattle.std.specs.Prelude.{◌≡◌, Bool, false, ◌&&◌, ◌||◌, [], ◌∷◌, ℕ, suc, ◌-◌, ◌%◌, ◌^◌, ℤ, pos, negsuc, ◌+ℤ◌, ◌-ℤ◌, neg_ℤ, nat_abs, leb, eqb}
use Rattle.std.specs.Int.Signed.{mag, lt_z}
use Rattle.std.specs.Int.{Width}
use mir.Val.{bits, hbits, to_z}
use Rattle.answers.specs.Reply.{Reply, gives, row, unless}

-- a modulo m, for m > 0: the r with 0 ≤ r < m and a − r a multiple of m
abbrev pub mod_z : ℤ → ℕ → ℕ
mod_z (pos n) m = n % m
mod_z (negsuc n) m = m - suc (n % m)

abbrev pub eq_z : ℤ → ℤ → Bool
eq_z (pos a) (pos b) = eqb a b
eq_z (pos a) (negsuc b) = false
eq_z (negsuc a) (pos b) = false
eq_z (negsuc a) (negsuc b) = eqb a b

-- MIN of the width
abbrev pub min_z : Width → ℤ
min_z w = negsuc (2 ^ hbits w - 1)

-- MAX of the width: 2^(width − 1) − 1
abbrev pub max_z : Width → ℤ
max_z w = pos (2 ^ (bits w - 1) - 1)

abbrev pub absolute : ℤ → ℤ
absolute a = pos (nat_abs a)

-- one is above 0 and the other below
abbrev pub opposite : ℤ → ℤ → Bool
opposite a b = (lt_z (pos 0) a && lt_z b (pos 0)) || (lt_z a (pos 0) && lt_z (pos 0) b)

-- the width does not hold z
abbrev pub outside : Width → ℤ → Bool
outside w z = leb (2 ^ hbits w) (mag z)

-- the exact number, refused where the width does not hold it
unfoldable pub exact : Width → ℤ → Reply ℤ
exact w z = unless (row 4 (outside w z) ∷ []) (gives z)

-- the number in the width's range that differs from z by a multiple of 2 ^ width
unfoldable pub wrap : Width → ℤ → ℤ
wrap w z = to_z w (mod_z z (2 ^ bits w))

-- a wrapped number, and whether the exact one is outside
pub record Overflows (w : Width) (z value : ℤ) (overflow : Bool) : Type 0 where
  pub wrapped : value ≡ wrap w z
  pub flagged : overflow ≡ outside w z

-- the Euclidean remainder; MIN by −1 is refused, though 0 would fit
unfoldable pub rem_euclid : Width → ℤ → ℤ → Reply ℤ
rem_euclid w a d =
    unless (row 3 (eq_z d (pos 0)) ∷ row 4 (eq_z a (min_z w) && eq_z d (negsuc 0)) ∷ [])
    (gives (pos (mod_z a (nat_abs d))))

-- for d > 0 the least multiple of d that is ≥ a, for d < 0 the greatest that is ≤ a
abbrev pub next : ℤ → ℤ → ℤ
next a (pos m) = a +ℤ pos (mod_z (neg_ℤ a) m)
next a (negsuc k) = a -ℤ pos (mod_z a (suc k))

unfoldable pub next_multiple : Width → ℤ → ℤ → Reply ℤ
next_multiple w a d = unless (row 3 (eq_z d (pos 0)) ∷ []) (exact w (next a d))
