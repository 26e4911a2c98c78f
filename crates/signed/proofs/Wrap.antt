-- The wrapped number, over the width: it fits, it is a number that fits already, a part of a sum may be wrapped before it, and sums and
-- differences of bits make it. Assumes nothing.
use mathlib.Core.Path.{◌≡◌, sym, ap, ◌∙◌}
use mathlib.Core.Bool.{true, false}
use Prim.Native.Nat.{ℕ, suc, ◌+◌, ◌-◌, ◌%◌, ◌^◌, ◌<◌}
use native.Mathlib.Nat.{mod-eq_of_lt, mod-add-mod, add-mod_right}
use native.Mathlib.Omega.{arith}
use lib.Pow.{pow_pos}
use lib.IntN.{ℤ, pos, negsuc, neg_ℤ, nat_abs, ◌+ℤ◌, ◌-ℤ◌, -ℤ-+ℤ_cancel, +ℤ_idl}
use lib.Signed.{lt_z, nat_abs-le}
use mir.Syntax.{Width}
use mir.Val.{bits, hbits, Fits, SFits, to_z, of_z}
use mir.ValLaws.{pow-bits, half_full, to_z-of_z, to_z-Fits, of_z-to_z}
use Rattle.laws.proofs.Held.{held, is_held, tested, from_zero, below_zero}
use Rattle.signed.specs.Signed.{mod_z, absolute, wrap}
use Rattle.signed.proofs.ModZ.{below, mod-add}

-- the bits are the number modulo 2 ^ width
pub of_z-mod : (w : Width) (a : ℤ) → SFits w a → of_z w a ≡ mod_z a (2 ^ bits w)
of_z-mod w (pos n) f = sym (mod-eq_of_lt (half_full w f.sfits))
of_z-mod w (negsuc n) f = ap (λ k. 2 ^ bits w - suc k) (sym (mod-eq_of_lt (half_full w f.sfits)))

mod_of : {w : Width} {a : ℤ} → SFits w a → of_z w (held w a) ≡ mod_z a (2 ^ bits w)
mod_of {w} {a} f = ap (of_z w) (is_held f) ∙ of_z-mod w a f

-- r added to k gives the same modulo m as s does: r and s are one number
pub cancel : (m k r s : ℕ) → 0 < m → k < m → r < m → s < m → (r + k) % m ≡ (s + k) % m → r ≡ s
cancel m k r s p hk hr hs e = sym (home r hr) ∙ ap (λ n. (n + (m - k)) % m) e ∙ home s hs
  where
    home : (n : ℕ) → n < m → ((n + k) % m + (m - k)) % m ≡ n
    home n h = mod-add-mod (n + k) m (m - k) ∙ ap (λ x. x % m) (omega arith) ∙ add-mod_right n m ∙ mod-eq_of_lt h

module _ (w : Width) where
  pub full : 0 < 2 ^ bits w
  full = pow_pos (bits w)

  pub low_bits : (z : ℤ) → Fits w (mod_z z (2 ^ bits w))
  low_bits z = record { fits = below (2 ^ bits w) full z }

  pub in_range : (z : ℤ) → SFits w (wrap w z)
  unfolding wrap
  in_range z = to_z-Fits w (mod_z z (2 ^ bits w)) (low_bits z)

  pub wrap_fits : (z : ℤ) → SFits w z → wrap w z ≡ z
  unfolding wrap
  wrap_fits z f = ap (to_z w) (sym (of_z-mod w z f)) ∙ to_z-of_z w z f

  pub wrap_bits : (z : ℤ) → of_z w (wrap w z) ≡ mod_z z (2 ^ bits w)
  unfolding wrap
  wrap_bits z = of_z-to_z w (mod_z z (2 ^ bits w)) (low_bits z)

  -- numbers that agree modulo 2 ^ width wrap to one
  pub wrap_same : (x y : ℤ) → mod_z x (2 ^ bits w) ≡ mod_z y (2 ^ bits w) → wrap w x ≡ wrap w y
  unfolding wrap
  wrap_same x y e = ap (to_z w) e

  pub mod_wrap : (z : ℤ) → mod_z (wrap w z) (2 ^ bits w) ≡ mod_z z (2 ^ bits w)
  mod_wrap z = sym (of_z-mod w (wrap w z) (in_range z)) ∙ wrap_bits z

  -- a part of a wrapped sum may be wrapped before
  pub wrap_part : (x y : ℤ) → wrap w (x +ℤ wrap w y) ≡ wrap w (x +ℤ y)
  wrap_part x y =
      wrap_same (x +ℤ wrap w y) (x +ℤ y)
      (mod-add (2 ^ bits w) full x (wrap w y) ∙ ap (λ n. (mod_z x (2 ^ bits w) + n) % 2 ^ bits w) (mod_wrap y) ∙ sym (mod-add (2 ^ bits w) full x y))

  pub wrap_held : (z : ℤ) → held w (wrap w z) ≡ wrap w z
  wrap_held z = is_held (in_range z)

  pub wrap_above : (a : ℤ) → SFits w a → lt_z a (pos 0) ≡ false → wrap w (absolute a) ≡ a
  wrap_above a f e = ap (wrap w) (sym (from_zero a e)) ∙ wrap_fits a f

-- ---- sums and differences of the bits x of a and y of b: the result has the bits n

module _ {w : Width} {a b r : ℤ} {x y n : ℕ} (fa : SFits w a) (fb : SFits w b) (ex : x ≡ of_z w (held w a)) (ey : y ≡ of_z w (held w b)) (er : r ≡ to_z w n) where
  pub wraps_sum : n ≡ (x + y) % 2 ^ bits w → held w r ≡ wrap w (a +ℤ b)
  unfolding wrap
  wraps_sum en = ap (held w) (er ∙ ap (to_z w) bits_of) ∙ wrap_held w (a +ℤ b)
    where
      bits_of : n ≡ mod_z (a +ℤ b) (2 ^ bits w)
      bits_of =
          en ∙ ap (λ k. (k + y) % 2 ^ bits w) (ex ∙ mod_of fa) ∙ ap (λ k. (mod_z a (2 ^ bits w) + k) % 2 ^ bits w) (ey ∙ mod_of fb)
          ∙ sym (mod-add (2 ^ bits w) (full w) a b)

  pub wraps_difference : Fits w n → (n + y) % 2 ^ bits w ≡ x → held w r ≡ wrap w (a -ℤ b)
  unfolding wrap
  wraps_difference f en = ap (held w) (er ∙ ap (to_z w) bits_of) ∙ wrap_held w (a -ℤ b)
    where
      bits_of : n ≡ mod_z (a -ℤ b) (2 ^ bits w)
      bits_of =
          cancel (2 ^ bits w) (mod_z b (2 ^ bits w)) n (mod_z (a -ℤ b) (2 ^ bits w)) (full w) (below _ (full w) b) f.fits (below _ (full w) (a -ℤ b))
          (ap (λ k. (n + k) % 2 ^ bits w) (sym (ey ∙ mod_of fb)) ∙ en ∙ ex ∙ mod_of fa
          ∙ ap (λ z. mod_z z (2 ^ bits w)) (sym (-ℤ-+ℤ_cancel a b)) ∙ mod-add (2 ^ bits w) (full w) (a -ℤ b) b)

-- ---- what the other wrapping forms make of these

module _ {w : Width} {a : ℤ} (fa : SFits w a) where
  pub negated : {r : ℤ} → r ≡ wrap w (pos 0 -ℤ held w a) → held w r ≡ wrap w (neg_ℤ a)
  negated e =
      ap (held w) (e ∙ ap (λ z. wrap w (pos 0 -ℤ z)) (is_held fa) ∙ ap (wrap w) (+ℤ_idl (neg_ℤ a))) ∙ wrap_held w (neg_ℤ a)

  pub abs_below : {r : ℤ} → lt_z (held w a) (pos 0) ≡ true → r ≡ wrap w (neg_ℤ (held w a)) → held w r ≡ wrap w (absolute a)
  abs_below t e =
      ap (held w) (e ∙ ap (λ z. wrap w (neg_ℤ z)) (is_held fa ∙ below_zero a (tested fa t)) ∙ ap (λ z. wrap w (absolute z)) (sym (below_zero a (tested fa t))))
      ∙ wrap_held w (absolute a)

  pub abs_above : lt_z (held w a) (pos 0) ≡ false → held w a ≡ wrap w (absolute a)
  abs_above t = is_held fa ∙ sym (ap (wrap w) (sym (from_zero a (tested fa t))) ∙ wrap_fits w a fa)

  -- |a| fits the unsigned width, so its wrapped number has its bits
  pub abs_bits : {r : ℤ} {n : ℕ} → r ≡ wrap w (absolute (held w a)) → n ≡ of_z w (held w r) → n ≡ nat_abs a
  abs_bits {r} er en =
      en ∙ ap (λ z. of_z w (held w z)) (er ∙ ap (λ z. wrap w (absolute z)) (is_held fa))
      ∙ ap (of_z w) (wrap_held w (absolute a)) ∙ wrap_bits w (absolute a)
      ∙ mod-eq_of_lt (omega (arith, nat_abs-le a fa.sfits, pow_pos (hbits w), pow-bits w))
