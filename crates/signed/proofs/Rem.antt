-- The Euclidean remainder, over the width: what it is, and what the code makes of the machine's `%`. Assumes nothing.
use mathlib.Core.Path.{◌≡◌, refl, sym, ap, ◌∙◌, subst}
use mathlib.Core.Bool.{true, false, cond, ◌&&◌}
use Prim.Native.Nat.{ℕ, zero, suc, ◌-◌, ◌/◌, ◌%◌, ◌^◌, ◌≤◌, ◌<◌}
use native.Mathlib.Nat.{mod-lt, mod-eq_of_lt, mod_self, suc-mod, div-le_self, div-lt_self, div-one}
use native.Mathlib.Omega.{arith}
use borrow.Author.Tests.{eq-eqb, ne_eqb, ltb-true}
use lib.Dec.{T}
use lib.Pow.{pow_pos}
use lib.IntN.{ℤ, pos, negsuc, neg_ℤ, nat_abs, ◌+ℤ◌, ℤ_discrete}
use lib.Signed.{mag, lt_z, quot_z, rem_z, mag_rem, nat_abs-le}
use mir.Syntax.{Width}
use mir.Val.{hbits, SFits, of_z}
use mir.ValLaws.{sfits_le}
use Rattle.answers.specs.Reply.{gives, refused}
use Rattle.laws.proofs.Held.{held, is_held, both_held, by_bits, zero_fits}
use Rattle.laws.proofs.Order.{by_order, sub_cases}
use Rattle.laws.proofs.Tests.{and-false}
use Rattle.signed.specs.Signed.{mod_z, eq_z, min_z, absolute, wrap, rem_euclid}
use Rattle.signed.specs.Accepts.{Divides}
use Rattle.signed.proofs.ModZ.{below}
use Rattle.signed.proofs.Wrap.{wrap_fits, wrap_part}

-- ---- tests of equality

eq_z_yes : (a : ℤ) → eq_z a a ≡ true
eq_z_yes (pos n) = eq-eqb n n refl
eq_z_yes (negsuc n) = eq-eqb n n refl

pub eq_z_no : (a b : ℤ) → (a ≡ b → ⊥) → eq_z a b ≡ false
eq_z_no (pos a) (pos b) h = ne_eqb a b (λ e. h (ap pos e))
eq_z_no (pos a) (negsuc b) h = refl
eq_z_no (negsuc a) (pos b) h = refl
eq_z_no (negsuc a) (negsuc b) h = ne_eqb a b (λ e. h (ap negsuc e))

pub some : (d : ℤ) → (d ≡ pos 0 → ⊥) → 0 < nat_abs d
some (pos n) h = by_order 0 n (λ p. p) (λ p. absurd (h (ap pos (omega arith))))
some (negsuc n) h = omega arith

-- ---- the machine's remainder, and the Euclidean one

-- one more, modulo m
suc_mod_cases : (P : ℕ → Type 0) (n m : ℕ) → 0 < m → (suc (n % m) < m → P (suc (n % m))) → (suc (n % m) ≡ m → P 0) → P (suc n % m)
suc_mod_cases P n m p f g =
    by_order (suc (n % m)) m
    (λ h. subst P (sym (suc-mod n m ∙ mod-eq_of_lt h)) (f h))
    (λ h. let e : suc (n % m) ≡ m = omega (arith, mod-lt n p) in subst P (sym (suc-mod n m ∙ ap (λ k. k % m) e ∙ mod_self m)) (g e))

-- a remainder that is not below 0 is the Euclidean one; a remainder below 0 is it less |d|
pub rem_kept : (a d : ℤ) → 0 < nat_abs d → lt_z (rem_z a d) (pos 0) ≡ false → rem_z a d ≡ pos (mod_z a (nat_abs d))
rem_kept (pos n) d p e = refl
rem_kept (negsuc n) d p e =
    suc_mod_cases (λ k. lt_z (neg_ℤ (pos k)) (pos 0) ≡ false → neg_ℤ (pos k) ≡ pos (nat_abs d - suc (n % nat_abs d))) n (nat_abs d) p
    (λ h e. absurd (subst T e tt))
    (λ h e. ap pos (omega arith)) e

pub rem_raised : (a d : ℤ) → 0 < nat_abs d → lt_z (rem_z a d) (pos 0) ≡ true → rem_z a d +ℤ pos (nat_abs d) ≡ pos (mod_z a (nat_abs d))
rem_raised (pos n) d p e = absurd (omega (arith, ltb-true (n % nat_abs d) 0 e))
rem_raised (negsuc n) d p e =
    suc_mod_cases (λ k. lt_z (neg_ℤ (pos k)) (pos 0) ≡ true → neg_ℤ (pos k) +ℤ pos (nat_abs d) ≡ pos (nat_abs d - suc (n % nat_abs d))) n (nat_abs d) p
    (λ h e. sub_cases (λ z. z ≡ pos (nat_abs d - suc (n % nat_abs d))) (nat_abs d) (suc (n % nat_abs d)) (λ l. absurd (omega arith)) (λ l. refl))
    (λ h e. absurd (omega (arith, ltb-true 0 0 e))) e

-- ---- where `%` is defined: the divisor is not 0, and not −1 at MIN

mag_neg : (n : ℕ) {k : ℕ} → 0 < k → n ≤ k → mag (neg_ℤ (pos n)) < k
mag_neg zero p h = p
mag_neg (suc n) p h = h

quot_fits : (w : Width) (a d : ℤ) → SFits w a → (a ≡ min_z w → d ≡ negsuc 0 → ⊥) → SFits w (quot_z a d)
quot_fits w (pos n) (pos m) f k = record { sfits = omega (arith, f.sfits, div-le_self n m) }
quot_fits w (pos n) (negsuc m) f k =
    record { sfits = mag_neg (n / suc m) (pow_pos (hbits w)) (omega (arith, f.sfits, div-le_self n (suc m))) }
quot_fits w (negsuc n) (pos m) f k =
    record { sfits = mag_neg (suc n / m) (pow_pos (hbits w)) (omega (arith, f.sfits, div-le_self (suc n) m)) }
quot_fits w (negsuc n) (negsuc zero) f k =
    by_order (suc n) (2 ^ hbits w)
    (λ h. record { sfits = rw div-one h })
    (λ h. absurd (k (ap negsuc (omega (arith, f.sfits))) refl))
quot_fits w (negsuc n) (negsuc (suc m)) f k =
    record { sfits = omega (arith, f.sfits, div-lt_self {n = suc n} {k = suc (suc m)} (omega arith) (omega arith)) }

module _ {w : Width} {a d : ℤ} (fa : SFits w a) (fd : SFits w d) where
  pub rem_defined : Divides w a d → (0 < of_z w d) × SFits w (quot_z (held w a) (held w d))
  rem_defined v = (
    by_order 0 (of_z w d) (λ p. p) (λ p. absurd (v.by_some (by_bits (pos 0) fd (zero_fits w) (omega arith)))),
    subst (SFits w) (sym (both_held quot_z fa fd)) (quot_fits w a d fa v.holds),
  )

  module _ (v : Divides w a d) where
    -- the machine's remainder is one of a by d, and fits
    pub left_is : rem_z (held w a) (held w d) ≡ rem_z a d
    left_is = both_held rem_z fa fd

    pub left_fits : SFits w (rem_z (held w a) (held w d))
    left_fits = subst (SFits w) (sym left_is) (sfits_le (mag_rem a d) fa)

    pub left_held : held w (rem_z (held w a) (held w d)) ≡ rem_z a d
    left_held = is_held left_fits ∙ left_is

-- ---- the answers of `rem_euclid`

-- the definition's refusals, and its number where neither applies
pub rem-zero : (w : Width) (a d : ℤ) → d ≡ pos 0 → rem_euclid w a d ≡ refused 3
unfolding rem_euclid
rem-zero w a d e = ap (rem_euclid w a) e

pub rem_min : (w : Width) (a d : ℤ) → a ≡ min_z w → d ≡ negsuc 0 → rem_euclid w a d ≡ refused 4
unfolding rem_euclid
rem_min w a d e f =
    ap (rem_euclid w a) f ∙ ap (λ z. rem_euclid w z (negsuc 0)) e
    ∙ ap (λ t. cond (t && true) (refused 4) (gives (pos (mod_z (min_z w) 1)))) (eq_z_yes (min_z w))

pub rem_value : (w : Width) (a d : ℤ) → Divides w a d → rem_euclid w a d ≡ gives (pos (mod_z a (nat_abs d)))
unfolding rem_euclid
rem_value w a d v =
    ap (λ t. cond t (refused 3) (cond (eq_z a (min_z w) && eq_z d (negsuc 0)) (refused 4) (gives (pos (mod_z a (nat_abs d)))))) (eq_z_no d (pos 0) v.by_some)
    ∙ ap (λ t. cond t (refused 4) (gives (pos (mod_z a (nat_abs d))))) (go (ℤ_discrete a (min_z w)))
  where
    go : Dec (a ≡ min_z w) → (eq_z a (min_z w) && eq_z d (negsuc 0)) ≡ false
    go (yes e) = ap (λ t. eq_z a (min_z w) && t) (eq_z_no d (negsuc 0) (v.holds e)) ∙ and-false (eq_z a (min_z w))
    go (no n) = ap (λ t. t && eq_z d (negsuc 0)) (eq_z_no a (min_z w) n)

-- where `%` is defined, what it gives is the Euclidean remainder, or lacks |d|
module _ (w : Width) (a d : ℤ) (p : 0 < of_z w d) (f : SFits w (quot_z a d)) where
  divides : Divides w a d
  divides = record {
    by_some = λ e. omega (arith, ap (of_z w) e);
    holds = λ e g.
        let q : SFits w (quot_z (min_z w) (negsuc 0)) = subst (λ x. SFits w (quot_z (min_z w) x)) g (subst (λ x. SFits w (quot_z x d)) e f) in
        let h : suc (2 ^ hbits w - 1) < 2 ^ hbits w = rw div-one at q.sfits in omega (arith, h);
  }

  pub rem_given : lt_z (rem_z a d) (pos 0) ≡ false → rem_euclid w a d ≡ gives (rem_z a d)
  rem_given e = rem_value w a d divides ∙ ap gives (sym (rem_kept a d (some d divides.by_some) e))

  -- |MIN| wraps to MIN, and the sum wraps back
  pub rem_lifted : SFits w d → lt_z (rem_z a d) (pos 0) ≡ true → rem_euclid w a d ≡ gives (wrap w (rem_z a d +ℤ wrap w (absolute d)))
  rem_lifted fd e =
      let inside : SFits w (pos (mod_z a (nat_abs d))) = record { sfits = omega (arith, below (nat_abs d) (some d divides.by_some) a, nat_abs-le d fd.sfits) } in
      rem_value w a d divides
      ∙ ap gives (sym (wrap_part w (rem_z a d) (absolute d) ∙ ap (wrap w) (rem_raised a d (some d divides.by_some) e) ∙ wrap_fits w (pos (mod_z a (nat_abs d))) inside))
