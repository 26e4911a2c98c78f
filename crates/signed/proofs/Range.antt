-- What a width holds, in plain facts: the library's `SFits` and the definitions' `outside` against the range from MIN to MAX.
-- Assumes nothing.
use mathlib.Core.Path.{◌≡◌, refl, sym, ap, ◌∙◌, subst}
use mathlib.Core.Bool.{true}
use mathlib.Core.Logic.{◌↔◌}
use Prim.Native.Nat.{ℕ, zero, suc, ◌-◌, ◌^◌, ◌≤◌, ◌<◌}
use native.Mathlib.Omega.{arith}
use borrow.Author.Tests.{le-leb, leb-true}
use lib.Dec.{le→leb, lt→ltb}
use lib.Pow.{pow_pos}
use lib.IntN.{ℤ, pos, negsuc, neg_ℤ}
use lib.Signed.{mag, ◌≤ℤ◌, ◌<ℤ◌, le_z_yes, lt_z_yes, clash_ℤ}
use mir.Syntax.{Width, w8, w16, w32, w64, w128}
use mir.Val.{bits, hbits, SFits}
use Rattle.laws.proofs.Order.{by_order}
use Rattle.signed.specs.Signed.{min_z, max_z, outside}
use Rattle.signed.specs.Words.{InRange}
use Rattle.signed.specs.Accepts.{NoFit, too_low, too_high}

half : (w : Width) → bits w - 1 ≡ hbits w
half w8 = refl
half w16 = refl
half w32 = refl
half w64 = refl
half w128 = refl

minus : (n : ℕ) → 0 < n → neg_ℤ (pos n) ≡ negsuc (n - 1)
minus zero p = absurd (omega arith)
minus (suc n) p = ap negsuc (omega arith)

module _ (w : Width) where
  -- MIN is −2^(width − 1)
  pub min_is : min_z w ≡ neg_ℤ (pos (2 ^ (bits w - 1)))
  min_is = sym (ap (λ n. neg_ℤ (pos (2 ^ n))) (half w) ∙ minus (2 ^ hbits w) (pow_pos (hbits w)))

  pub min_fits : SFits w (min_z w)
  min_fits = record { sfits = omega (arith, pow_pos (hbits w)) }

  max_is : max_z w ≡ pos (2 ^ hbits w - 1)
  max_is = ap (λ n. pos (2 ^ n - 1)) (half w)

  within : (z : ℤ) → mag z < 2 ^ hbits w → InRange w z
  within (pos n) h = record {
    low = le_z_yes tt;
    high = subst (λ m. pos n ≤ℤ m) (sym max_is) (le_z_yes (le→leb n (2 ^ hbits w - 1) (omega arith)));
  }
  within (negsuc n) h = record {
    low = le_z_yes (le→leb n (2 ^ hbits w - 1) (omega arith));
    high = subst (λ m. negsuc n ≤ℤ m) (sym max_is) (le_z_yes tt);
  }

  beyond : (z : ℤ) → 2 ^ hbits w ≤ mag z → NoFit w z
  beyond (pos n) h = too_high (subst (λ m. m <ℤ pos n) (sym max_is) (lt_z_yes (lt→ltb (2 ^ hbits w - 1) n (omega (arith, pow_pos (hbits w))))))
  beyond (negsuc n) h = too_low (lt_z_yes (lt→ltb (2 ^ hbits w - 1) n (omega (arith, pow_pos (hbits w)))))

  not_both : {z : ℤ} → InRange w z → NoFit w z → ⊥
  not_both f (too_low h) = clash_ℤ h f.low
  not_both f (too_high h) = clash_ℤ h f.high

  -- a number fits or does not
  pub either : {P : Type 0} (z : ℤ) → (SFits w z → P) → (NoFit w z → P) → P
  either z f g = by_order (mag z) (2 ^ hbits w) (λ h. f (record { sfits = h })) (λ h. g (beyond z h))

  pub fits_is : (z : ℤ) → SFits w z ↔ InRange w z
  fits_is z = (λ f. within z f.sfits, λ r. either z (λ f. f) (λ n. absurd (not_both r n)))

  pub outside_is : (z : ℤ) → (outside w z ≡ true) ↔ NoFit w z
  outside_is z = (
    λ e. beyond z (leb-true (2 ^ hbits w) (mag z) e),
    λ n. by_order (mag z) (2 ^ hbits w) (λ h. absurd (not_both (within z h) n)) (λ h. le-leb (2 ^ hbits w) (mag z) h),
  )
