-- A difference that wraps round a modulus M, and its repair: numbers below M, added and cut to below M again.
use mathlib.Core.Path.{◌≡◌}
use mathlib.Core.Logic.{◌⊎◌, inl, inr, ⊎_elim}
use Prim.Native.Nat.{ℕ, ◌+◌, ◌-◌, ◌%◌, ◌≤◌, ◌<◌}
use native.Mathlib.Nat.{mod-lt, mod-eq_of_lt, mod-eq-sub-mod}
use native.Mathlib.Omega.{arith}
use Rattle.laws.proofs.Order.{by_order}

-- a sum of two numbers below M, cut to below M, is the sum or lacks M of it
pub cut : (M n : ℕ) → n < M + M → (n % M ≡ n) ⊎ (n % M + M ≡ n)
cut M n h = by_order n M (λ f. inl (mod-eq_of_lt f)) (λ g. inr (let e : n - M < M = omega arith in omega (arith, mod-eq-sub-mod g, mod-eq_of_lt e)))

module _ {M x y t : ℕ} (hy : y < M) (ht : t < M) (e : (t + y) % M ≡ x) where
  -- t is x - y, wrapped: exact where nothing is borrowed
  pub unwrapped : y ≤ x → t ≡ x - y
  unwrapped h = ⊎_elim (λ g. omega arith) (λ g. omega arith) (cut M (t + y) (omega arith))

  -- where it borrows, d added to it and wrapped again is the exact x + d - y
  pub repaired : {d r : ℕ} → d < M → x < y → y ≤ x + d → r ≡ (t + d) % M → r + y ≡ x + d
  repaired {d} {r} hd h near f =
      let r-lt = mod-lt (t + d) {m = M} (omega arith) in
      ⊎_elim (λ g. omega arith) (λ g. ⊎_elim (λ i. omega arith) (λ i. omega arith) (cut M (t + d) (omega arith))) (cut M (t + y) (omega arith))
