-- Where each one of the mask stands after k stages, and what the masks say there, over the width. Assumes nothing.
use mathlib.Core.Path.{◌≡◌, ap, ◌∙◌}
use Prim.Native.Nat.{ℕ, suc, ◌+◌, ◌-◌, ◌*◌, ◌/◌, ◌%◌, ◌^◌, ◌≤◌, ◌<◌}
use native.Mathlib.Nat.{mod-one, mod-lt, mod-le, mod-eq_of_lt, div-eq_of_lt-le, div-add-mod', lt_of_le_of_lt, lt_of_lt_of_le}
use native.Mathlib.Omega.{arith}
use lib.Pow.{pow_pos}
use Rattle.int_bits.specs.Gather.{bit, count}
use Rattle.int_bits.specs.Stages.{flip, stage_mask}
use Rattle.int_bits.proofs.Bit.{bit_not, low-suc}
use Rattle.int_bits.proofs.Count.{count-suc, count_le, count_between, count_both}
use Rattle.int_bits.proofs.Masks.{mask_bit}

-- after k stages bit i has moved down by the count of zeros z below it, modulo 2^k
pub pos : ℕ → ℕ → ℕ → ℕ
pos z k i = i - count z i % 2 ^ k

same_group : (n c d : ℕ) → c - c % n ≤ d → d < (c - c % n) + n → d / n ≡ c / n
same_group n c d h l = div-eq_of_lt-le n (omega (arith, div-add-mod' c n)) (omega (arith, div-add-mod' c n))

module _ (z k i : ℕ) where
  -- no group of 2^k zeros ends between where a bit has come to and where it was
  group_at : count z (pos z k i) / 2 ^ k ≡ count z i / 2 ^ k
  unfolding pos
  group_at =
      let c = count z i in
      let s : c % 2 ^ k ≤ c = mod-le c (2 ^ k) in
      let e : pos z k i + c % 2 ^ k ≡ i = omega (arith, count_le z i) in
      let l = mod-lt c (pow_pos k) in
      let b = count_between z (pos z k i) (c % 2 ^ k) in
      same_group (2 ^ k) c (count z (pos z k i)) (omega (arith, ap (count z) e)) (omega (arith, ap (count z) e))

  -- nor, if the bit is no zero, up to 2^k bits above that
  group_above : bit z i ≡ 0 → count z (pos z k i + 2 ^ k) / 2 ^ k ≡ count z i / 2 ^ k
  unfolding pos
  group_above one =
      let c = count z i in
      let s : c % 2 ^ k ≤ c = mod-le c (2 ^ k) in
      let l = mod-lt c (pow_pos k) in
      let t = (2 ^ k - 1) - c % 2 ^ k in
      let e : suc i + t ≡ pos z k i + 2 ^ k = omega (arith, count_le z i) in
      let b = count_between z (suc i) t in
      same_group (2 ^ k) c (count z (pos z k i + 2 ^ k)) (omega (arith, count-suc z i, ap (count z) e)) (omega (arith, count-suc z i, ap (count z) e))

  pub pos_le : pos z k i ≤ i
  unfolding pos
  pos_le = omega arith

  -- the next stage moves it by 2^k if bit k of its count is set
  pub pos_next : pos z (suc k) i ≡ pos z k i - bit (count z i) k * 2 ^ k
  unfolding pos
  pos_next = ap (λ (q : ℕ). i - q) (low-suc (count z i) k) ∙ omega arith

  pub room : bit (count z i) k ≡ 1 → 2 ^ k ≤ pos z k i
  unfolding pos
  room h = omega (arith, count_le z i, mod-le (count z i) (2 ^ suc k), low-suc (count z i) k, ap (λ (b : ℕ). b * 2 ^ k) h)

pub pos_first : (z i : ℕ) → pos z 0 i ≡ i
unfolding pos
pos_first z i = ap (λ (q : ℕ). i - q) (mod-one (count z i)) ∙ omega arith

module _ (w m : ℕ) (hm : m < 2 ^ w) (i : ℕ) (hi : i < w) where
  -- after all stages each one has come down by its whole count
  pub pos_last : (s : ℕ) → w ≤ 2 ^ s → pos (flip w m) s i ≡ count m i
  unfolding pos
  pos_last s hs =
      ap (λ (q : ℕ). i - q) (mod-eq_of_lt (lt_of_le_of_lt (count_le (flip w m) i) (lt_of_lt_of_le hi hs)))
      ∙ omega (arith, count_both w m i hm (omega arith))

  -- the mask of stage k, where a one stands and 2^k below, is bit k of its count
  module _ (k : ℕ) where
    pub mask_at : bit m i ≡ 1 → bit (stage_mask w m k) (pos (flip w m) k i) ≡ bit (count (flip w m) i) k
    unfolding bit
    mask_at one =
        mask_bit w m k (pos (flip w m) k i) (lt_of_le_of_lt (pos_le (flip w m) k i) hi)
        ∙ ap (λ (q : ℕ). q % 2) (group_above (flip w m) k i (omega (arith, bit_not w m i hm hi)))

    pub mask_below : 2 ^ k ≤ pos (flip w m) k i → bit (stage_mask w m k) (pos (flip w m) k i - 2 ^ k) ≡ bit (count (flip w m) i) k
    unfolding bit
    mask_below h =
        mask_bit w m k (pos (flip w m) k i - 2 ^ k) (omega (arith, pos_le (flip w m) k i))
        ∙ ap (λ (q : ℕ). q % 2) (ap (λ (q : ℕ). count (flip w m) q / 2 ^ k) (omega arith) ∙ group_at (flip w m) k i)
