-- The stages of deposit, over the width, read off at the places where the ones of the mask stand. Assumes nothing.
use mathlib.Core.Path.{◌≡◌, refl, sym, ap, ◌∙◌}
use mathlib.Core.List.{List}
use Prim.Native.Nat.{ℕ, zero, suc, ◌+◌, ◌-◌, ◌*◌, ◌%◌, ◌^◌, ◌≤◌, ◌<◌, min}
use native.Mathlib.Nat.{lt_of_le_of_lt, le_of_eq}
use native.Mathlib.Omega.{arith}
use lib.ListN.{get_or}
use lib.Bits.{bit_and, bit_xor}
use Rattle.laws.proofs.Order.{by_order}
use Rattle.int_bits.specs.Gather.{scatter, bit, count}
use Rattle.int_bits.specs.Meaning.{Scattered}
use Rattle.int_bits.specs.Stages.{Width, flip, stage_mask, stage_masks, moved_up, deposit_stages}
use Rattle.int_bits.proofs.Bit.{by_bit, bit_lt, bit-and, bit-xor, bit-shl, bit_shl_low}
use Rattle.int_bits.proofs.Masks.{mask_of}
use Rattle.int_bits.proofs.Meaning.{inside, scatter_only}
use Rattle.int_bits.proofs.Places.{pos, pos_next, room, pos_le, mask_at, mask_below, pos_last, pos_first}

-- ---- one stage

module _ (w n mask r p : ℕ) (l : p < w) where
  up_bit : bit (moved_up w n mask r) p ≡ ((bit r p + min (bit r p) (bit mask p)) % 2 + bit ((bit_and r mask * 2 ^ n) % 2 ^ w) p) % 2
  unfolding moved_up
  up_bit = simp (bit-xor, bit-and)

  shl_at : n ≤ p → bit ((bit_and r mask * 2 ^ n) % 2 ^ w) p ≡ min (bit r (p - n)) (bit mask (p - n))
  shl_at h =
      ap (bit ((bit_and r mask * 2 ^ n) % 2 ^ w)) {x = p} {y = n + (p - n)} (omega arith)
      ∙ bit-shl (bit_and r mask) n w (p - n) (omega arith) ∙ bit-and r mask (p - n)

  -- a bit off the mask, with none on it n below, stays; one on it, as the bit n below is, is that bit
  up_stays : bit mask p ≡ 0 → (n ≤ p → bit mask (p - n) ≡ 0) → bit (moved_up w n mask r) p ≡ bit r p
  up_stays e h =
      up_bit
      ∙ by_order p n
      (λ b. omega (arith, bit_lt r p, bit_shl_low (bit_and r mask) n w p b l))
      (λ b. omega (arith, bit_lt r p, shl_at b, h b))

  up_comes : n ≤ p → bit mask p ≡ 1 → bit mask (p - n) ≡ 1 → bit (moved_up w n mask r) p ≡ bit r (p - n)
  up_comes h e d = up_bit ∙ omega (arith, bit_lt r p, bit_lt r (p - n), shl_at h)

-- ---- all stages

module _ (w x m : ℕ) (hm : m < 2 ^ w) where
  -- before the stages below k: the bit for each one of m stands where these stages take it from
  abbrev Up : ℕ → ℕ → Type 0
  Up k r = (i : ℕ) → i < w → bit m i ≡ 1 → bit r (pos (flip w m) k i) ≡ bit x (count m i)

  up_next : (k r : ℕ) → Up (suc k) r → Up k (moved_up w (2 ^ k) (stage_mask w m k) r)
  up_next k r h i l one = by_bit _ (bit (count z i) k) (bit_lt (count z i) k) stays comes
    where
      z : ℕ
      z = flip w m

      p : ℕ
      p = pos z k i

      up : ℕ
      up = moved_up w (2 ^ k) (stage_mask w m k) r

      lp : p < w
      lp = lt_of_le_of_lt (pos_le z k i) l

      from : (b : ℕ) → bit (count z i) k ≡ b → bit r (p - b * 2 ^ k) ≡ bit x (count m i)
      from b e = ap (bit r) (ap (λ (b : ℕ). p - b * 2 ^ k) (sym e) ∙ sym (pos_next z k i)) ∙ h i l one

      stays : bit (count z i) k ≡ 0 → bit up p ≡ bit x (count m i)
      stays e =
          up_stays w (2 ^ k) (stage_mask w m k) r p lp (mask_at w m hm i l k one ∙ e) (λ a. mask_below w m hm i l k a ∙ e)
          ∙ ap (bit r) (omega arith) ∙ from 0 e

      comes : bit (count z i) k ≡ 1 → bit up p ≡ bit x (count m i)
      comes e =
          let a = room z k i e in
          up_comes w (2 ^ k) (stage_mask w m k) r p lp a (mask_at w m hm i l k one ∙ e) (mask_below w m hm i l k a ∙ e)
          ∙ ap (bit r) (omega arith) ∙ from 1 e

  up_all : (masks : List ℕ) (k r : ℕ) → ((j : ℕ) → j < k → get_or masks j 0 ≡ stage_mask w m j) → Up k r
      → (i : ℕ) → i < w → bit m i ≡ 1 → bit (deposit_stages w k masks r) i ≡ bit x (count m i)
  unfolding deposit_stages
  up_all masks zero r is h = λ i l one. ap (bit r) (sym (pos_first (flip w m) i)) ∙ h i l one
  up_all masks (suc k) r is h = up_all masks k _ (λ j l. is j (omega arith)) (rw (is k (omega arith)) (up_next k r h))

  -- over the masks of m the stages are scatter
  pub deposit-scatter : (s : ℕ) → w ≤ 2 ^ s → bit_and (deposit_stages w s (stage_masks w m s) x) m ≡ scatter w x m
  deposit-scatter s hs = sym (scatter_only w m hm is)
    where
      r : ℕ
      r = deposit_stages w s (stage_masks w m s) x

      stands : (i : ℕ) → i < w → bit m i ≡ 1 → bit r i ≡ bit x (count m i)
      stands = up_all (stage_masks w m s) s x (mask_of w m s) (λ i l one. ap (bit x) (pos_last w m hm i l s hs))

      is : Scattered x m (bit_and r m)
      is = record {
        at = λ i p o.
            bit-and r m p ∙ rw (o.one, stands p (inside w m hm o) o.one, o.below) (omega (arith, bit_lt x i));
        rest = λ p e. bit-and r m p ∙ rw e (omega arith);
      }

-- ---- the loop, in the code's shape: the stages that are left give the result

pub record Depositing (w s : ℕ) (masks : List ℕ) (x₀ x stage : ℕ) : Type 0 where
  pub most : stage ≤ s
  pub left : deposit_stages w stage masks x ≡ deposit_stages w s masks x₀

pub depositing_start : {w s x₀ : ℕ} {masks : List ℕ} → Depositing w s masks x₀ x₀ s
depositing_start = record { most = omega arith; left = refl }

pub depositing_next : {w s x₀ x stage n mask q y d r : ℕ} {masks : List ℕ} → 0 < stage → Depositing w s masks x₀ x stage → n ≡ 2 ^ (stage - 1)
    → mask ≡ get_or masks (stage - 1) 0 → q ≡ bit_and x mask → y ≡ bit_xor x q → d ≡ (q * 2 ^ n) % 2 ^ w → r ≡ bit_xor y d
    → Depositing w s masks x₀ r (stage - 1)
unfolding deposit_stages moved_up
depositing_next {stage = stage} h inv en em eq ey ed er =
    let e : suc (stage - 1) ≡ stage = omega arith in
    record { most = omega arith; left = rw (er, ey, ed, eq, em, en) (rw (← e) at inv.left) }

pub depositing_end : {w s x₀ x stage r : ℕ} {masks : List ℕ} (m : ℕ) → stage ≤ 0 → Depositing w s masks x₀ x stage → r ≡ bit_and x m
    → r ≡ bit_and (deposit_stages w s masks x₀) m
unfolding deposit_stages
depositing_end {stage = stage} m h inv er =
    let e : stage ≡ 0 = omega arith in
    er ∙ ap (λ (x : ℕ). bit_and x m) (rw e at inv.left)

-- what `scatter` makes of `prepare` and `deposit_impl`
pub deposited : {w s m r : ℕ} {masks : List ℕ} → Width w s → (x : ℕ) → m < 2 ^ w → masks ≡ stage_masks w m s
    → r ≡ bit_and (deposit_stages w s masks x) m → r ≡ scatter w x m
deposited {w} {s} {m} wd x hm e d = d ∙ rw e (deposit-scatter w x m hm s (le_of_eq wd.power))
