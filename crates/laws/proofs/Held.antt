-- A signed number in a local, over the width. `held w z` is how a need, and what a callee ensures, name the number z that a local
-- holds; it is z (`is_held`). The casts between a number and its two's complement bits. Assumes nothing.
use mathlib.Core.Path.{◌≡◌, refl, sym, ap, ◌∙◌, subst}
use mathlib.Core.Bool.{Bool, true, false}
use Prim.Native.Nat.{ℕ, ◌-◌, ◌^◌, ◌<◌}
use native.Mathlib.Omega.{arith}
use borrow.Author.Tests.{ltb-true}
use lib.Dec.{T}
use lib.Pow.{pow_pos}
use lib.IntN.{ℤ, pos, negsuc, nat_abs}
use lib.Signed.{mag, lt_z, non_neg}
use mir.Syntax.{Width}
use mir.Val.{bits, hbits, Fits, SFits, to_z, of_z}
use mir.ValLaws.{half_full, to_z_pos, to_z-of_z}

abbrev pub held : Width → ℤ → ℤ
held w z = to_z w (of_z w z)

pub is_held : {w : Width} {a : ℤ} → SFits w a → held w a ≡ a
is_held {w} {a} fa = to_z-of_z w a fa

pub both_held {ℓ} : {X : Type ℓ} {w : Width} {a b : ℤ} (f : ℤ → ℤ → X) → SFits w a → SFits w b → f (held w a) (held w b) ≡ f a b
both_held {w} {a} {b} f fa fb = ap (λ x. f x (held w b)) (is_held fa) ∙ ap (f a) (is_held fb)

-- numbers that fit are equal where their bits are
pub by_bits : {w : Width} {a : ℤ} (b : ℤ) → SFits w a → SFits w b → of_z w a ≡ of_z w b → a ≡ b
by_bits {w} {a} b fa fb e = sym (is_held fa) ∙ ap (to_z w) e ∙ to_z-of_z w b fb

pub zero_fits : (w : Width) → SFits w (pos 0)
zero_fits w = record { sfits = pow_pos (hbits w) }

pub minus_one_fits : (w : Width) → SFits w (negsuc 0)
minus_one_fits w = record { sfits = pow_pos (hbits w) }

-- ---- below 0, or not

-- a test of the number that a local holds is one of the number
pub tested : {w : Width} {a : ℤ} {t : Bool} → SFits w a → lt_z (held w a) (pos 0) ≡ t → lt_z a (pos 0) ≡ t
tested {w} {a} fa e = ap (λ z. lt_z z (pos 0)) (sym (to_z-of_z w a fa)) ∙ e

pub from_zero : (a : ℤ) → lt_z a (pos 0) ≡ false → a ≡ pos (nat_abs a)
from_zero (pos n) e = refl
from_zero (negsuc n) e = absurd (subst T e tt)

pub below_zero : (a : ℤ) → lt_z a (pos 0) ≡ true → a ≡ negsuc (mag a)
below_zero (pos n) e = absurd (omega (arith, ltb-true n 0 e))
below_zero (negsuc n) e = refl

-- ---- the casts: `a as u8` of an a from 0 up, and `!(!a as u8)` of one below

module _ {w : Width} {a : ℤ} (fa : SFits w a) where
  full : mag a < 2 ^ bits w
  full = half_full w fa.sfits

  module _ (e : lt_z (held w a) (pos 0) ≡ false) where
    kept : held w a ≡ pos (mag a)
    kept = to_z-of_z w a fa ∙ from_zero a (tested fa e) ∙ ap (λ z. pos (mag z)) (sym (from_zero a (tested fa e)))

    pub casts : T (non_neg (held w a)) × Fits w (nat_abs (held w a))
    casts = subst (λ z. T (non_neg z) × Fits w (nat_abs z)) (sym kept) (tt, record { fits = full })

    pub cast_abs : nat_abs (held w a) ≡ nat_abs a
    cast_abs = ap nat_abs (to_z-of_z w a fa)

    pub cast_bits : nat_abs (held w a) ≡ of_z w a
    cast_bits = cast_abs ∙ sym (ap (of_z w) (from_zero a (tested fa e)))

  module _ (e : lt_z (held w a) (pos 0) ≡ true) where
    is : a ≡ negsuc (mag a)
    is = below_zero a (tested fa e)

    flipped : to_z w (2 ^ bits w - 1 - of_z w a) ≡ pos (mag a)
    flipped =
        ap (λ z. to_z w (2 ^ bits w - 1 - of_z w z)) is
        ∙ ap (to_z w) (omega (arith, full)) ∙ to_z_pos w (mag a) fa.sfits

    pub flip_casts : T (non_neg (to_z w (2 ^ bits w - 1 - of_z w a))) × Fits w (nat_abs (to_z w (2 ^ bits w - 1 - of_z w a)))
    flip_casts = subst (λ z. T (non_neg z) × Fits w (nat_abs z)) (sym flipped) (tt, record { fits = full })

    pub flip_bits : 2 ^ bits w - 1 - nat_abs (to_z w (2 ^ bits w - 1 - of_z w a)) ≡ of_z w a
    flip_bits = ap (λ z. 2 ^ bits w - 1 - nat_abs z) flipped ∙ omega arith ∙ sym (ap (of_z w) is)

-- `!(!n as i8)` has the bits n
pub flip_twice : (w : Width) {n : ℕ} → Fits w n → to_z w (2 ^ bits w - 1 - (2 ^ bits w - 1 - n)) ≡ to_z w n
flip_twice w {n} f = ap (to_z w) (omega (arith, f.fits))
