-- The exact sum and difference, over the width: the wrapped one is it exactly where it lies on the right side of a. Assumes nothing.
use mathlib.Core.Path.{◌≡◌, refl, sym, ap, ◌∙◌, subst}
use mathlib.Core.Bool.{Bool, true, false, not, cond, beq}
use Prim.Native.Nat.{ℕ, zero, suc, ◌+◌, ◌-◌, ◌^◌, ◌≤◌, ◌<◌}
use native.Mathlib.Nat.{mod-eq_of_lt}
use native.Mathlib.Omega.{arith}
use borrow.Author.Tests.{lt-ltb, le-ltb, le-leb, lt-leb, leb-false}
use lib.Pow.{pow_pos}
use lib.IntN.{ℤ, pos, negsuc, neg_ℤ, nat_abs, ◌+ℤ◌, ◌-ℤ◌, +ℤ_idl}
use lib.Signed.{mag, lt_z, nat_abs-le}
use mir.Syntax.{Width}
use mir.Val.{bits, hbits, SFits, to_z, of_z, sel}
use mir.ValLaws.{pow-bits, to_z_pos}
use Rattle.answers.specs.Reply.{gives, refused}
use Rattle.laws.proofs.Held.{held, is_held, by_bits, from_zero}
use Rattle.laws.proofs.Order.{by_order, sub_cases}
use Rattle.signed.specs.Signed.{min_z, absolute, outside, exact, wrap, Overflows}
use Rattle.signed.proofs.Range.{min_fits}
use Rattle.signed.proofs.Wrap.{wrap_fits}

-- ---- the exact number, by whether the width holds it

pub exact_fits : (w : Width) (z : ℤ) → SFits w z → exact w z ≡ gives z
unfolding exact
exact_fits w z f = ap (λ t. cond t (refused 4) (gives z)) (lt-leb (2 ^ hbits w) (mag z) f.sfits)

pub exact_not : (w : Width) (z : ℤ) → outside w z ≡ true → exact w z ≡ refused 4
unfolding exact
exact_not w z e = ap (λ t. cond t (refused 4) (gives z)) e

pub exact_given : (w : Width) (z : ℤ) → outside w z ≡ false → exact w z ≡ gives (wrap w z)
exact_given w z e =
    let f : SFits w z = record { sfits = leb-false (2 ^ hbits w) (mag z) e } in exact_fits w z f ∙ ap gives (sym (wrap_fits w z f))

pub exact_above : (w : Width) (a : ℤ) → SFits w a → lt_z a (pos 0) ≡ false → exact w (absolute a) ≡ gives a
exact_above w a f e = ap (exact w) (sym (from_zero a e)) ∙ exact_fits w a f

-- ---- the side of a on which the wrapped sum lies

-- what a number just outside the range wraps to
too_high : (w : Width) (n : ℕ) → 2 ^ hbits w ≤ n → n < 2 ^ bits w → wrap w (pos n) ≡ negsuc (2 ^ bits w - suc n)
unfolding wrap
too_high w n h k =
    ap (to_z w) (mod-eq_of_lt k)
    ∙ ap (λ t. sel t (pos n) (negsuc (2 ^ bits w - suc n))) (le-ltb n (2 ^ hbits w) h)

too_low : (w : Width) (n : ℕ) → 2 ^ hbits w ≤ n → n < 2 ^ bits w → wrap w (negsuc n) ≡ pos (2 ^ bits w - suc n)
unfolding wrap
too_low w n h k =
    ap (λ r. to_z w (2 ^ bits w - suc r)) (mod-eq_of_lt k)
    ∙ to_z_pos w (2 ^ bits w - suc n) (omega (arith, pow-bits w))

pub neg_flag : (b : ℤ) → lt_z (neg_ℤ b) (pos 0) ≡ lt_z (pos 0) b
neg_flag (pos zero) = refl
neg_flag (pos (suc n)) = sym (lt-ltb 0 (suc n) (omega arith))
neg_flag (negsuc n) = le-ltb (suc n) 0 (omega arith)

neg-abs : (b : ℤ) → nat_abs (neg_ℤ b) ≡ nat_abs b
neg-abs (pos zero) = refl
neg-abs (pos (suc n)) = refl
neg-abs (negsuc n) = refl

-- the code's flag, of the signs of b and of v − a
abbrev pub wrong_side : Bool → ℤ → ℤ → Bool
wrong_side below v a = not (beq below (lt_z v a))

module _ (w : Width) where
  Right : ℤ → ℤ → ℤ → Type 0
  Right a b z = wrong_side (lt_z b (pos 0)) (wrap w z) a ≡ outside w z

  agree : (t : Bool) → not (beq t t) ≡ false
  agree true = refl
  agree false = refl

  differ : (t : Bool) → not (beq t (not t)) ≡ true
  differ true = refl
  differ false = refl

  by_flags : (a b z : ℤ) (t u : Bool) → lt_z b (pos 0) ≡ t → lt_z (wrap w z) a ≡ u → not (beq t u) ≡ outside w z → Right a b z
  unfolding Right
  by_flags a b z t u p q e = ap (λ x. not (beq x (lt_z (wrap w z) a))) p ∙ ap (λ x. not (beq t x)) q ∙ e

  accept : (a b z : ℤ) (t : Bool) → mag z < 2 ^ hbits w → lt_z b (pos 0) ≡ t → lt_z z a ≡ t → Right a b z
  accept a b z t h p q =
      by_flags a b z t t p (ap (λ y. lt_z y a) (wrap_fits w z (record { sfits = h })) ∙ q) (agree t ∙ sym (lt-leb (2 ^ hbits w) (mag z) h))

  refuse : (a b z : ℤ) (t : Bool) → 2 ^ hbits w ≤ mag z → lt_z b (pos 0) ≡ t → lt_z (wrap w z) a ≡ not t → Right a b z
  refuse a b z t h p q = by_flags a b z t (not t) p q (differ t ∙ sym (le-leb (2 ^ hbits w) (mag z) h))

  -- b may be −MIN, so that a − b is a + (−b)
  right : (a b : ℤ) → mag a < 2 ^ hbits w → nat_abs b ≤ 2 ^ hbits w → Right a b (a +ℤ b)
  right (pos x) (pos y) ha hb =
      by_order (x + y) (2 ^ hbits w)
      (λ h. accept (pos x) (pos y) (pos (x + y)) false h (le-ltb y 0 (omega arith)) (le-ltb (x + y) x (omega arith)))
      (λ h. refuse (pos x) (pos y) (pos (x + y)) false h (le-ltb y 0 (omega arith))
      (ap (λ z. lt_z z (pos x)) (too_high w (x + y) h (omega (arith, pow-bits w)))))
  right (pos x) (negsuc y) ha hb =
      sub_cases (λ z. Right (pos x) (negsuc y) z) x (suc y)
      (λ h. accept (pos x) (negsuc y) (negsuc (suc y - suc x)) true (omega arith) refl refl)
      (λ h. accept (pos x) (negsuc y) (pos (x - suc y)) true (omega arith) refl (lt-ltb (x - suc y) x (omega arith)))
  right (negsuc x) (pos y) ha hb =
      sub_cases (λ z. Right (negsuc x) (pos y) z) y (suc x)
      (λ h. accept (negsuc x) (pos y) (negsuc (suc x - suc y)) false (omega arith) (le-ltb y 0 (omega arith)) (le-ltb x (suc x - suc y) (omega arith)))
      (λ h. accept (negsuc x) (pos y) (pos (y - suc x)) false (omega arith) (le-ltb y 0 (omega arith)) refl)
  right (negsuc x) (negsuc y) ha hb =
      by_order (suc (x + y)) (2 ^ hbits w)
      (λ h. accept (negsuc x) (negsuc y) (negsuc (suc (x + y))) true h refl (lt-ltb x (suc (x + y)) (omega arith)))
      (λ h. refuse (negsuc x) (negsuc y) (negsuc (suc (x + y))) true h refl
      (ap (λ z. lt_z z (negsuc x)) (too_low w (suc (x + y)) h (omega (arith, pow-bits w)))))

  -- the flags of the sum and of the difference say whether the exact number is outside
  pub sum_flag : (a b : ℤ) → SFits w a → SFits w b → wrong_side (lt_z b (pos 0)) (wrap w (a +ℤ b)) a ≡ outside w (a +ℤ b)
  unfolding Right
  sum_flag a b fa fb = right a b fa.sfits (nat_abs-le b fb.sfits)

  pub difference_flag : (a b : ℤ) → SFits w a → SFits w b → wrong_side (lt_z (pos 0) b) (wrap w (a -ℤ b)) a ≡ outside w (a -ℤ b)
  unfolding Right
  difference_flag a b fa fb =
      ap (λ t. wrong_side t (wrap w (a -ℤ b)) a) (sym (neg_flag b))
      ∙ right a (neg_ℤ b) fa.sfits (subst (λ n. n ≤ 2 ^ hbits w) (sym (neg-abs b)) (nat_abs-le b fb.sfits))

-- ---- the negated number: it fits, but for that of MIN, which wraps to MIN

neg_fits : (w : Width) (b : ℤ) → SFits w b → (b ≡ min_z w → ⊥) → SFits w (neg_ℤ b)
neg_fits w (pos zero) f n = f
neg_fits w (pos (suc k)) f n = record { sfits = omega (arith, f.sfits) }
neg_fits w (negsuc k) f n = by_order (suc k) (2 ^ hbits w) (λ h. record { sfits = h }) (λ h. absurd (n (ap negsuc (omega (arith, f.sfits)))))

module _ {w : Width} {a : ℤ} (fa : SFits w a) where
  negated_is : pos 0 -ℤ held w a ≡ neg_ℤ a
  negated_is = ap (λ z. pos 0 -ℤ z) (is_held fa) ∙ +ℤ_idl (neg_ℤ a)

  pub min_overflows : of_z w a ≡ of_z w (min_z w) → Overflows w (neg_ℤ a) (min_z w) true
  min_overflows e =
      let is : neg_ℤ a ≡ pos (2 ^ hbits w) = ap neg_ℤ (by_bits (min_z w) fa (min_fits w) e) ∙ ap pos (omega (arith, pow_pos (hbits w))) in
      record {
        wrapped =
            sym (ap (wrap w) is ∙ too_high w (2 ^ hbits w) (omega arith) (omega (arith, pow-bits w, pow_pos (hbits w)))
            ∙ ap negsuc (omega (arith, pow-bits w)));
        flagged = sym (ap (outside w) is ∙ le-leb (2 ^ hbits w) (2 ^ hbits w) (omega arith));
      }

  module _ (n : of_z w a ≡ of_z w (min_z w) → ⊥) where
    other_fits : SFits w (neg_ℤ a)
    other_fits = neg_fits w a fa (λ e. n (ap (of_z w) e))

    pub negation_fits : SFits w (pos 0 -ℤ held w a)
    negation_fits = subst (SFits w) (sym negated_is) other_fits

    pub negation_given : Overflows w (neg_ℤ a) (held w (pos 0 -ℤ held w a)) false
    negation_given = record {
      wrapped = is_held negation_fits ∙ negated_is ∙ sym (wrap_fits w (neg_ℤ a) other_fits);
      flagged = sym (lt-leb (2 ^ hbits w) (mag (neg_ℤ a)) other_fits.sfits);
    }
