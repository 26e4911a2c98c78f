-- Cases by the order of two naturals, and a difference of naturals as a whole number by those cases. Assumes nothing.
use mathlib.Core.Path.{◌≡◌, refl, ap}
use mathlib.Core.Bool.{Bool, true, false, not, cond}
use Prim.Native.Nat.{ℕ, zero, suc, ◌+◌, ◌-◌, ◌≤◌, ◌<◌}
use native.Mathlib.Omega.{arith}
use lib.Dec.{T, ltb, ltb→lt, nltb→le}
use lib.IntN.{ℤ, pos, negsuc, sub_ℕ, ◌-ℤ◌}

pub by_order {ℓ} : {P : Type ℓ} (x y : ℕ) → (x < y → P) → (y ≤ x → P) → P
by_order {P} x y f g = by (ltb x y) (λ t. f (ltb→lt x y t)) (λ t. g (nltb→le x y t))
  where
    by : (b : Bool) → (T b → P) → (T (not b) → P) → P
    by true k l = k tt
    by false k l = l tt

-- x − y, by their order
pub sub_cases : (P : ℤ → Type 0) (x y : ℕ) → (x < y → P (negsuc (y - suc x))) → (y ≤ x → P (pos (x - y))) → P (sub_ℕ x y)
sub_cases P x y f g = by (ltb x y) (negsuc (y - suc x)) (pos (x - y)) (λ t. f (ltb→lt x y t)) (λ t. g (nltb→le x y t))
  where
    by : (b : Bool) (u v : ℤ) → (T b → P u) → (T (not b) → P v) → P (cond b u v)
    by true u v k l = k tt
    by false u v k l = l tt

pub pos-minus : (x y : ℕ) → pos x -ℤ pos y ≡ sub_ℕ x y
pos-minus x zero = sub_cases (λ z. pos (x + 0) ≡ z) x zero (λ h. absurd (omega arith)) (λ h. ap pos (omega arith))
pos-minus x (suc y) = refl
