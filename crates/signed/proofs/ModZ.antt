-- Whole numbers modulo m > 0: `mod_z a m` is below m and a is it plus a multiple of m (`mod_split`), and it alone is (`mod_only`);
-- sums go by remainders (`mod-add`). Assumes nothing.
use mathlib.Core.Path.{◌≡◌, sym, ap, ◌∙◌}
use Prim.Native.Nat.{ℕ, zero, suc, ◌+◌, ◌-◌, ◌*◌, ◌/◌, ◌%◌, ◌≤◌, ◌<◌}
use native.Mathlib.Nat.{mod-lt, mod-eq_of_lt, add-mod_right, mod-eq-sub-mod, mod-add-div', suc-mul}
use native.Mathlib.Omega.{arith}
use lib.IntN.{ℤ, pos, negsuc, neg_ℤ, ◌+ℤ◌, ◌-ℤ◌, ◌*ℤ◌, suc_ℤ, pred_ℤ, +ℤ_assoc, +ℤ_comm, +ℤ_idr, -ℤ-+ℤ_cancel, zero-*ℤ, suc_ℤ-*ℤ, pred_ℤ-*ℤ}
use Rattle.laws.proofs.Order.{sub_cases, pos-minus}
use Rattle.signed.specs.Signed.{mod_z}

regroup : (x u y v : ℤ) → (x +ℤ u) +ℤ (y +ℤ v) ≡ ((x +ℤ y) +ℤ u) +ℤ v
regroup x u y v =
    sym (+ℤ_assoc (x +ℤ u) y v)
    ∙ ap (λ z. z +ℤ v) (+ℤ_assoc x u y ∙ ap (λ z. x +ℤ z) (+ℤ_comm u y) ∙ sym (+ℤ_assoc x y u))

module _ (m : ℕ) (some : 0 < m) where
  pub below : (a : ℤ) → mod_z a m < m
  below (pos n) = mod-lt n some
  below (negsuc n) = omega arith

  step : (a : ℤ) → mod_z (a +ℤ pos m) m ≡ mod_z a m
  step (pos n) = add-mod_right n m
  step (negsuc n) =
      sub_cases (λ y. mod_z y m ≡ mod_z (negsuc n) m) m (suc n)
      (λ h. ap (λ k. m - suc k) (ap (λ k. k % m) (less n m) ∙ sym (mod-eq-sub-mod (fewer n m h))))
      (λ h. mod-eq_of_lt (gap n m h) ∙ ap (λ k. m - suc k) (sym (mod-eq_of_lt h)))
    where
      less : (n m : ℕ) → suc n - suc m ≡ n - m
      less n m = omega arith

      fewer : (n m : ℕ) → m < suc n → m ≤ n
      fewer n m h = omega arith

      gap : (n m : ℕ) → suc n ≤ m → m - suc n < m
      gap n m h = omega arith

  back : (a : ℤ) → mod_z (a -ℤ pos m) m ≡ mod_z a m
  back a = sym (step (a -ℤ pos m)) ∙ ap (λ x. mod_z x m) (-ℤ-+ℤ_cancel a (pos m))

  up : (a q : ℤ) → mod_z (a +ℤ q *ℤ pos m) m ≡ mod_z a m → mod_z (a +ℤ suc_ℤ q *ℤ pos m) m ≡ mod_z a m
  up a q h =
      ap (λ x. mod_z x m) (ap (λ x. a +ℤ x) (suc_ℤ-*ℤ q (pos m)) ∙ sym (+ℤ_assoc a (q *ℤ pos m) (pos m)))
      ∙ step (a +ℤ q *ℤ pos m) ∙ h

  down : (a q : ℤ) → mod_z (a +ℤ q *ℤ pos m) m ≡ mod_z a m → mod_z (a +ℤ pred_ℤ q *ℤ pos m) m ≡ mod_z a m
  down a q h =
      ap (λ x. mod_z x m) (ap (λ x. a +ℤ x) (pred_ℤ-*ℤ q (pos m)) ∙ sym (+ℤ_assoc a (q *ℤ pos m) (neg_ℤ (pos m))))
      ∙ back (a +ℤ q *ℤ pos m) ∙ h

  none : (a : ℤ) → mod_z (a +ℤ pos zero *ℤ pos m) m ≡ mod_z a m
  none a = ap (λ x. mod_z (a +ℤ x) m) (zero-*ℤ (pos m)) ∙ ap (λ x. mod_z x m) (+ℤ_idr a)

  -- a multiple of m does not change the remainder
  pub mod_shift : (a q : ℤ) → mod_z (a +ℤ q *ℤ pos m) m ≡ mod_z a m
  mod_shift a (pos zero) = none a
  mod_shift a (pos (suc n)) = up a (pos n) (mod_shift a (pos n))
  mod_shift a (negsuc zero) = down a (pos zero) (none a)
  mod_shift a (negsuc (suc n)) = down a (negsuc n) (mod_shift a (negsuc n))

  pub mod_split : (a : ℤ) → (q : ℤ) × (a ≡ pos (mod_z a m) +ℤ q *ℤ pos m)
  mod_split (pos n) = (pos (n / m), sym (ap pos (mod-add-div' n m)))
  mod_split (negsuc n) = (
    negsuc (n / m),
    sub_cases (λ y. negsuc n ≡ y) (m - suc (n % m)) (suc (n / m) * m)
        (λ h. ap negsuc (omega (arith, mod-add-div' n m, mod-lt n some, suc-mul (n / m) m)))
        (λ h. absurd (omega (arith, mod-lt n some, suc-mul (n / m) m)))
        ∙ sym (pos-minus (m - suc (n % m)) (suc (n / m) * m)),
  )

  pub mod_only : (a q : ℤ) (r : ℕ) → r < m → a ≡ pos r +ℤ q *ℤ pos m → mod_z a m ≡ r
  mod_only a q r h e = ap (λ x. mod_z x m) e ∙ mod_shift (pos r) q ∙ mod-eq_of_lt h

  pub mod-add : (a b : ℤ) → mod_z (a +ℤ b) m ≡ (mod_z a m + mod_z b m) % m
  mod-add a b =
      let (p, ep) = mod_split a in
      let (q, eq) = mod_split b in
      ap (λ x. mod_z x m)
      (ap (λ x. x +ℤ b) ep ∙ ap (λ x. (pos (mod_z a m) +ℤ p *ℤ pos m) +ℤ x) eq ∙ regroup (pos (mod_z a m)) (p *ℤ pos m) (pos (mod_z b m)) (q *ℤ pos m))
      ∙ mod_shift (pos (mod_z a m + mod_z b m) +ℤ p *ℤ pos m) q ∙ mod_shift (pos (mod_z a m + mod_z b m)) p
