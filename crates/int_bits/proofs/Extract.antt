-- The stages of extract, over the width. A stage is linear over XOR, so it is enough to follow one bit. Assumes nothing.
use mathlib.Core.Path.{◌≡◌, refl, sym, ap, ap₂, ◌∙◌}
use mathlib.Core.List.{List}
use Prim.Native.Nat.{ℕ, zero, suc, ◌+◌, ◌-◌, ◌*◌, ◌/◌, ◌%◌, ◌^◌, ◌≤◌, ◌<◌, min}
use native.Mathlib.Nat.{mod-one, mod-lt, mod-eq_of_lt, mod-add-mod, add-mod-mod, one-mul, zero-mul, zero-div, sub-zero, lt_of_le_of_lt, le_of_eq}
use native.Mathlib.Numerals.{add-one}
use native.Mathlib.Omega.{arith}
use lib.ListN.{get_or}
use lib.Pow.{pow_pos, pow-add, shl-shr}
use lib.Bits.{bit_and, bit_xor, xor_zero_r, xor_self, xor_shifted, and_le_r}
use Rattle.std.proofs.lemmas.Nat.{and_comm}
use Rattle.std.proofs.lemmas.Nat.Bits.{and_pow as bit_at_pow}
use Rattle.int_bits.specs.Gather.{gather, bit, count}
use Rattle.int_bits.specs.Stages.{Width, flip, stage_mask, stage_masks, moved_down, extract_stages}
use Rattle.int_bits.proofs.Bit.{by_bit, bit_lt, bit-and, bit-xor, bit-shr, low-suc, same}
use Rattle.int_bits.proofs.Recursion.{gather_none, gather_top, gather_lt}
use Rattle.int_bits.proofs.Masks.{mask_of}
use Rattle.int_bits.proofs.Places.{pos, pos_next, room, mask_at, pos_last, pos_first}

-- ---- one stage is linear, and takes a single bit to a single bit

min_sum : (a b p : ℕ) → a < 2 → b < 2 → p < 2 → min ((a + b) % 2) p ≡ (min a p + min b p) % 2
min_sum a b p ha hb hp = by_bit _ p hp (λ e. omega arith) (λ e. omega arith)

and_pow : (p m : ℕ) → bit_and (2 ^ p) m ≡ bit m p * 2 ^ p
unfolding bit
and_pow p m = and_comm (2 ^ p) m ∙ bit_at_pow m p

pow-shr : (p n : ℕ) → n ≤ p → 2 ^ p / 2 ^ n ≡ 2 ^ (p - n)
pow-shr p n h =
    ap (λ (q : ℕ). 2 ^ q / 2 ^ n) {y = (p - n) + n} (omega arith)
    ∙ ap (λ (q : ℕ). q / 2 ^ n) (pow-add 2 (p - n) n) ∙ shl-shr (2 ^ (p - n)) n

module _ (n mask : ℕ) where
  down_bit : (x j : ℕ)
      → bit (moved_down n mask x) j ≡ ((bit x j + min (bit x j) (bit mask j)) % 2 + min (bit x (n + j)) (bit mask (n + j))) % 2
  unfolding moved_down
  down_bit x j = simp (bit-xor, bit-shr, bit-and)

  down_xor : (a b : ℕ) → moved_down n mask (bit_xor a b) ≡ bit_xor (moved_down n mask a) (moved_down n mask b)
  down_xor a b = same _ _ (λ j.
      simp (bit-xor, down_bit)
      (rw (min_sum _ _ _ (bit_lt a j) (bit_lt b j) (bit_lt mask j), min_sum _ _ _ (bit_lt a (n + j)) (bit_lt b (n + j)) (bit_lt mask (n + j)))
      (simp (mod-add-mod, add-mod-mod) (ap (λ (s : ℕ). s % 2) (omega arith)))))

  down_pow : (p : ℕ) → (bit mask p ≡ 1 → n ≤ p) → moved_down n mask (2 ^ p) ≡ 2 ^ (p - bit mask p * n)
  unfolding moved_down
  down_pow p h =
      rw (and_pow p mask)
      (by_bit _ (bit mask p) (bit_lt mask p)
      (λ e. simp (e, zero-mul, zero-div, xor_zero_r, sub-zero))
      (λ e. simp (e, one-mul, xor_self) (pow-shr p n (h e))))

-- ---- a number as the XOR of its bits, each at its place

spread : (ℕ → ℕ) → ℕ → ℕ → ℕ
spread at y zero = 0
spread at y (suc w) = bit_xor (bit y w * 2 ^ at w) (spread at y w)

-- what is linear, and takes each bit of y from one place to another, takes the whole there
spread-map : (F : ℕ → ℕ) → ((a b : ℕ) → F (bit_xor a b) ≡ bit_xor (F a) (F b)) → (at to : ℕ → ℕ) (y w : ℕ)
    → ((i : ℕ) → i < w → bit y i ≡ 1 → F (2 ^ at i) ≡ 2 ^ to i) → F (spread at y w) ≡ spread to y w
unfolding spread
spread-map F lin at to y zero h = lin 0 0 ∙ xor_self (F 0)
spread-map F lin at to y (suc w) h =
    lin (bit y w * 2 ^ at w) (spread at y w) ∙ ap₂ bit_xor first (spread-map F lin at to y w (λ i l. h i (omega arith)))
  where
    first : F (bit y w * 2 ^ at w) ≡ bit y w * 2 ^ to w
    first =
        by_bit _ (bit y w) (bit_lt y w)
        (λ e. simp (e, zero-mul) (lin 0 0 ∙ xor_self (F 0))) (λ e. simp (e, one-mul) (h w (omega arith) e))

spread_same : (at to : ℕ → ℕ) (y w : ℕ) → ((i : ℕ) → i < w → bit y i ≡ 1 → at i ≡ to i) → spread at y w ≡ spread to y w
spread_same at to y w h = spread-map (λ a. a) (λ a b. refl) at to y w (λ i l e. ap (λ (q : ℕ). 2 ^ q) (h i l e))

-- a number is its bits where they are; a gathered one is the bits under the mask, each at the count of ones below it
spread_self : (y w : ℕ) → y % 2 ^ w ≡ spread (λ i. i) y w
unfolding spread
spread_self y zero = mod-one y
spread_self y (suc w) = low-suc y w ∙ sym (xor_shifted (bit y w) w (y % 2 ^ w) (mod-lt y (pow_pos w))) ∙ ap (bit_xor (bit y w * 2 ^ w)) (spread_self y w)

spread-gather : (w x m : ℕ) → gather w x m ≡ spread (count m) (bit_and x m) w
unfolding spread
spread-gather zero x m = gather_none x m
spread-gather (suc w) x m =
    gather_top w x m ∙ ap (λ (b : ℕ). b * 2 ^ count m w + gather w x m) (sym (bit-and x m w))
    ∙ sym (xor_shifted (bit (bit_and x m) w) (count m w) (gather w x m) (gather_lt w x m))
    ∙ ap (bit_xor (bit (bit_and x m) w * 2 ^ count m w)) (spread-gather w x m)

-- ---- all stages

module _ (w x m : ℕ) (hm : m < 2 ^ w) where
  one_of : (i : ℕ) → bit (bit_and x m) i ≡ 1 → bit m i ≡ 1
  one_of i e = omega (arith, bit-and x m i, bit_lt m i)

  -- after k stages each bit of x AND m stands where these stages take it
  down_all : (masks : List ℕ) (k : ℕ) → ((j : ℕ) → j < k → get_or masks j 0 ≡ stage_mask w m j)
      → extract_stages k masks (bit_and x m) ≡ spread (pos (flip w m) k) (bit_and x m) w
  unfolding extract_stages
  down_all masks zero is =
      sym (mod-eq_of_lt (lt_of_le_of_lt (and_le_r x m) hm)) ∙ spread_self (bit_and x m) w
      ∙ spread_same _ _ (bit_and x m) w (λ i l e. sym (pos_first (flip w m) i))
  down_all masks (suc k) is =
      ap₂ (moved_down (2 ^ k)) (is k (omega arith)) (down_all masks k (λ j l. is j (omega arith)))
      ∙ spread-map (moved_down (2 ^ k) (stage_mask w m k)) (down_xor (2 ^ k) (stage_mask w m k)) _ _ (bit_and x m) w
      (λ i l e.
      let a = mask_at w m hm i l k (one_of i e) in
      down_pow (2 ^ k) (stage_mask w m k) (pos (flip w m) k i) (λ h. room (flip w m) k i (sym a ∙ h))
      ∙ ap (λ (q : ℕ). 2 ^ q) (ap (λ (c : ℕ). pos (flip w m) k i - c * 2 ^ k) a ∙ sym (pos_next (flip w m) k i)))

  -- over the masks of m the stages are gather
  pub extract-gather : (s : ℕ) → w ≤ 2 ^ s → extract_stages s (stage_masks w m s) (bit_and x m) ≡ gather w x m
  extract-gather s hs =
      down_all (stage_masks w m s) s (mask_of w m s)
      ∙ spread_same _ _ (bit_and x m) w (λ i l e. pos_last w m hm i l s hs) ∙ sym (spread-gather w x m)

-- ---- the loop, in the code's shape

pub record Extracting (s : ℕ) (masks : List ℕ) (x₀ x stage : ℕ) : Type 0 where
  pub most : stage ≤ s
  pub done : x ≡ extract_stages stage masks x₀

pub extracting_start : {s x₀ : ℕ} {masks : List ℕ} → Extracting s masks x₀ x₀ 0
unfolding extract_stages
extracting_start = record { most = omega arith; done = refl }

pub extracting_next : {s x₀ x stage n mask q y d r : ℕ} {masks : List ℕ} → stage < s → Extracting s masks x₀ x stage → n ≡ 2 ^ stage
    → mask ≡ get_or masks stage 0 → q ≡ bit_and x mask → y ≡ bit_xor x q → d ≡ q / 2 ^ n → r ≡ bit_xor y d
    → Extracting s masks x₀ r (stage + 1)
unfolding extract_stages moved_down
extracting_next {stage = stage} h inv en em eq ey ed er =
    record { most = omega arith; done = rw (er, ey, ed, eq, em, en, add-one stage, inv.done) }

pub extracting_end : {s x₀ x stage : ℕ} {masks : List ℕ} → s ≤ stage → Extracting s masks x₀ x stage → x ≡ extract_stages s masks x₀
extracting_end {s} {stage = stage} h inv = let e : stage ≡ s = omega arith in rw e at inv.done

-- what `gather` makes of `prepare` and `extract_impl`
pub extracted : {w s m r : ℕ} {masks : List ℕ} → Width w s → (x : ℕ) → m < 2 ^ w → masks ≡ stage_masks w m s
    → r ≡ extract_stages s masks (bit_and x m) → r ≡ gather w x m
extracted {w} {s} {m} wd x hm e d = d ∙ rw e (extract-gather w x m hm s (le_of_eq wd.power))
