-- A number of the widest type, wrapped to a narrower one: the low of its bits are the bits of what is left. Assumes nothing.
use mathlib.Core.Path.{◌≡◌, sym, ap, ◌∙◌}
use Prim.Native.Nat.{ℕ, ◌%◌, ◌^◌}
use native.Mathlib.Omega.{arith}
use lib.IntN.{ℤ, pos, negsuc}
use mir.Syntax.{Width, w8, w16, w32, w64}
use mir.Val.{bits, SFits, to_z, of_z}
use Rattle.laws.proofs.Held.{held, is_held}
use Rattle.signed.specs.Signed.{mod_z, wrap}
use Rattle.signed.proofs.Wrap.{of_z-mod, wrap_held}

-- what is left of a number is left of its 64 bits
abbrev Twice : Width → ℤ → Type 0
Twice w z = mod_z z (2 ^ bits w) ≡ mod_z z (2 ^ bits w64) % 2 ^ bits w

twice8 : (z : ℤ) → Twice w8 z
twice8 (pos n) = omega arith
twice8 (negsuc n) = omega arith

twice16 : (z : ℤ) → Twice w16 z
twice16 (pos n) = omega arith
twice16 (negsuc n) = omega arith

twice32 : (z : ℤ) → Twice w32 z
twice32 (pos n) = omega arith
twice32 (negsuc n) = omega arith

-- what has the low bits is the number wrapped
narrowed : (w : Width) {z r : ℤ} {n : ℕ} → Twice w z → SFits w64 z → n ≡ of_z w64 (held w64 z) → r ≡ to_z w (n % 2 ^ bits w) → held w r ≡ wrap w z
unfolding wrap
narrowed w {z} {r} {n} t f en er =
    ap (held w) (er ∙ ap (to_z w) (ap (λ x. x % 2 ^ bits w) (en ∙ ap (of_z w64) (is_held f) ∙ of_z-mod w64 z f) ∙ sym t)) ∙ wrap_held w z

pub narrowed8 : {z r : ℤ} {n : ℕ} → SFits w64 z → n ≡ of_z w64 (held w64 z) → r ≡ to_z w8 (n % 2 ^ 8) → held w8 r ≡ wrap w8 z
narrowed8 {z} = narrowed w8 (twice8 z)

pub narrowed16 : {z r : ℤ} {n : ℕ} → SFits w64 z → n ≡ of_z w64 (held w64 z) → r ≡ to_z w16 (n % 2 ^ 16) → held w16 r ≡ wrap w16 z
narrowed16 {z} = narrowed w16 (twice16 z)

pub narrowed32 : {z r : ℤ} {n : ℕ} → SFits w64 z → n ≡ of_z w64 (held w64 z) → r ≡ to_z w32 (n % 2 ^ 32) → held w32 r ≡ wrap w32 z
narrowed32 {z} = narrowed w32 (twice32 z)
