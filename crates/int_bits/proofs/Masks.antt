-- The masks of the stages, bit by bit, and each of the list. Assumes nothing.
use mathlib.Core.Path.{◌≡◌, refl, ap, ◌∙◌}
use mathlib.Core.List.{[]}
use Prim.Native.Nat.{ℕ, zero, suc, ◌+◌, ◌^◌, ◌<◌}
use native.Mathlib.Numerals.{add-one}
use native.Mathlib.Omega.{arith}
use lib.ListN.{get_or, length, length-append, get_or-append}
use lib.Seq.{get_or_at}
use Rattle.laws.proofs.Order.{by_order}
use Rattle.int_bits.specs.Gather.{bit, count}
use Rattle.int_bits.specs.Stages.{flip, stage_mask, stage_masks}
use Rattle.int_bits.proofs.Bit.{bit_lt, bit_from, from_lt}

module _ (w m k : ℕ) where
  pub mask_bit : (j : ℕ) → j < w → bit (stage_mask w m k) j ≡ bit (count (flip w m) (j + 2 ^ k)) k
  unfolding stage_mask
  mask_bit j h = bit_from _ (λ j. bit_lt (count (flip w m) (j + 2 ^ k)) k) w j h

  pub mask_lt : stage_mask w m k < 2 ^ w
  unfolding stage_mask
  mask_lt = from_lt _ (λ j. bit_lt (count (flip w m) (j + 2 ^ k)) k) w

masks-length : (w m s : ℕ) → length (stage_masks w m s) ≡ s
unfolding stage_masks
masks-length w m zero = refl
masks-length w m (suc s) = length-append (stage_masks w m s) _ ∙ ap (λ (l : ℕ). l + 1) (masks-length w m s) ∙ add-one s

pub mask_of : (w m s k : ℕ) → k < s → get_or (stage_masks w m s) k 0 ≡ stage_mask w m k
unfolding stage_masks
mask_of w m zero k h = absurd (omega arith)
mask_of w m (suc s) k h =
    by_order k s
    (λ l. get_or-append (stage_masks w m s) _ 0 k (omega (arith, masks-length w m s)) ∙ mask_of w m s k l)
    (λ l. let e : k ≡ s = omega arith in rw e (get_or_at (stage_masks w m s) _ [] 0 s (masks-length w m s)))
