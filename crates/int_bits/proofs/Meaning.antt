-- Gather and scatter are what document 01 says bit by bit, and nothing else is. Assumes nothing.
use mathlib.Core.Path.{◌≡◌, refl, sym, ◌∙◌}
use Prim.Native.Nat.{ℕ, ◌^◌, ◌≤◌, ◌<◌}
use native.Mathlib.Omega.{arith}
use Rattle.laws.proofs.Order.{by_order}
use Rattle.int_bits.specs.Gather.{gather, scatter, bit, count}
use Rattle.int_bits.specs.Meaning.{One, Gathered, Scattered}
use Rattle.int_bits.proofs.Bit.{by_bit, bit_lt, bit_high, same}
use Rattle.int_bits.proofs.Count.{count_lt, nth}
use Rattle.int_bits.proofs.Recursion.{gather_lt, gather_at, scatter_lt, scatter_at}

pub one_at : {m p : ℕ} → bit m p ≡ 1 → One m (count m p) p
one_at e = record { one = e; below = refl }

module _ (w m : ℕ) (hm : m < 2 ^ w) where
  -- a one of m lies below the width, and has fewer ones below it than m has
  pub inside : {j p : ℕ} → One m j p → p < w
  inside {j} {p} o = by_order p w (λ l. l) (λ l. absurd (omega (arith, o.one, bit_high {j = p} hm l)))

  pub fewer : {j p : ℕ} → One m j p → j < count m w
  fewer {j} {p} o = rw (← o.below) (count_lt m p w (inside o) o.one)

  -- m has a (j+1)-th one, or has no more than j
  pub by_place : (P : Type 0) (j : ℕ) → ((p : ℕ) → One m j p → P) → (count m w ≤ j → P) → P
  by_place P j f g = by_order j (count m w) (λ l. let (p, q, o) = nth m w j l in f p o) g

  none_past : {j : ℕ} → count m w ≤ j → (p : ℕ) → One m j p → ⊥
  none_past h p o = omega (arith, fewer o)

  -- ---- gather and scatter are what 01 says

  pub gather_is : (x : ℕ) → Gathered x m (gather w x m)
  gather_is x = record {
    at = λ j p o. rw (← o.below) (gather_at w x m p (inside o) o.one);
    rest = λ j none. by_place _ j (λ p o. absurd (none p o)) (bit_high (gather_lt w x m));
  }

  pub scatter_is : (x : ℕ) → Scattered x m (scatter w x m)
  scatter_is x = record {
    at = λ i p o. scatter_at w x m p (inside o) ∙ rw (o.one, o.below) (omega (arith, bit_lt x i));
    rest = λ p e. by_order p w (λ l. scatter_at w x m p l ∙ rw e (omega arith)) (bit_high (scatter_lt w x m));
  }

  -- ---- and no other number is

  pub gather_only : {x r : ℕ} → Gathered x m r → gather w x m ≡ r
  gather_only {x} {r} g =
      same _ _ (λ j.
      by_place _ j (λ p o. (gather_is x).at j p o ∙ sym (g.at j p o)) (λ h. (gather_is x).rest j (none_past h) ∙ sym (g.rest j (none_past h))))

  pub scatter_only : {x r : ℕ} → Scattered x m r → scatter w x m ≡ r
  scatter_only {x} {r} s =
      same _ _ (λ p.
      by_bit _ (bit m p) (bit_lt m p)
      (λ e. (scatter_is x).rest p e ∙ sym (s.rest p e)) (λ e. (scatter_is x).at _ p (one_at e) ∙ sym (s.at _ p (one_at e))))
