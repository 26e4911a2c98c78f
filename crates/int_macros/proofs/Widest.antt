-- Numbers of a width of at most 64 bits, worked out in the widest type: what that wraps, the width wraps alike. Assumes nothing.
use mathlib.Core.Path.{◌≡◌, refl, sym, ap, ◌∙◌}
use Prim.Native.Nat.{ℕ, ◌%◌, ◌^◌, ◌≤◌, ◌<◌}
use native.Mathlib.Nat.{mod-eq_of_lt}
use native.Mathlib.Omega.{arith}
use lib.Pow.{pow_mono}
use lib.IntN.{ℤ, pos, negsuc, neg_ℤ, ◌+ℤ◌, ◌-ℤ◌}
use mir.Syntax.{Width, w8, w16, w32, w64, w128}
use mir.Val.{bits, SFits, to_z}
use Rattle.std.specs.Int.{int_wrap, int_wrapping_add, int_wrapping_sub, int_wrapping_neg}
use Rattle.std.proofs.lemmas.Int.{wrapping_add_is, wrapping_sub_is, wrapping_neg_is}
use Rattle.signed.specs.Signed.{mod_z, wrap}
use Rattle.signed.proofs.Wrap.{wrap_same, mod_wrap}

-- the low bits of a number are those of its 64 bits
low : (w : Width) (z : ℤ) → bits w ≤ 64 → mod_z z (2 ^ bits w) ≡ mod_z z (2 ^ bits w64) % 2 ^ bits w
low w8 (pos n) h = omega arith
low w8 (negsuc n) h = omega arith
low w16 (pos n) h = omega arith
low w16 (negsuc n) h = omega arith
low w32 (pos n) h = omega arith
low w32 (negsuc n) h = omega arith
low w64 (pos n) h = omega arith
low w64 (negsuc n) h = omega arith
low w128 z h = absurd (omega (arith, h))

-- the library's word is the contracts'
same : (z : ℤ) → int_wrap w64 z ≡ wrap w64 z
unfolding int_wrap wrap
same (pos n) = refl
same (negsuc n) = ap (to_z w64) (omega arith)

module _ (w : Width) where
  again : (z : ℤ) → bits w ≤ 64 → wrap w (wrap w64 z) ≡ wrap w z
  again z h = wrap_same w (wrap w64 z) z (low w (wrap w64 z) h ∙ ap (λ n. n % 2 ^ bits w) (mod_wrap w64 z) ∙ sym (low w z h))

  pub wraps_sum : (a b : ℤ) → bits w ≤ 64 → SFits w64 a → SFits w64 b → wrap w (int_wrapping_add w64 a b) ≡ wrap w (a +ℤ b)
  wraps_sum a b h fa fb = ap (wrap w) (wrapping_add_is w64 a b fa fb ∙ same (a +ℤ b)) ∙ again (a +ℤ b) h

  pub wraps_difference : (a b : ℤ) → bits w ≤ 64 → SFits w64 a → SFits w64 b → wrap w (int_wrapping_sub w64 a b) ≡ wrap w (a -ℤ b)
  wraps_difference a b h fa fb = ap (wrap w) (wrapping_sub_is w64 a b fa fb ∙ same (a -ℤ b)) ∙ again (a -ℤ b) h

  pub wraps_negation : (a : ℤ) → bits w ≤ 64 → SFits w64 a → wrap w (int_wrapping_neg w64 a) ≡ wrap w (neg_ℤ a)
  wraps_negation a h fa = ap (wrap w) (wrapping_neg_is w64 a fa ∙ same (neg_ℤ a)) ∙ again (neg_ℤ a) h

-- the low bits n, made a number of 64 bits and wrapped
pub wraps_bits : (w : Width) (n : ℕ) → bits w ≤ 64 → n < 2 ^ bits w → wrap w (to_z w64 n) ≡ to_z w n
unfolding wrap
wraps_bits w n h l =
    let f : n < 2 ^ bits w64 = omega (arith, pow_mono h, l) in
    ap (λ k. wrap w (to_z w64 k)) (sym (mod-eq_of_lt f)) ∙ again w (pos n) h ∙ ap (to_z w) (mod-eq_of_lt l)
