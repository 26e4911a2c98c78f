-- What the loops of `prepare` keep true, over the width. Assumes nothing.
-- z is the flipped mask, so `count z` counts the mask's zeros. At stage k bit j of `zeros` says whether the count of whole groups of 2^k
-- zeros changes from position j to position j + 2^k, modulo 2; bit j of `parity` becomes that count at j + 2^k, modulo 2.
use mathlib.Core.Path.{◌≡◌, refl, sym, ap, ap₂, ◌∙◌}
use mathlib.Core.List.{List, [], ◌∷◌, ◌++◌}
use Prim.Native.Nat.{ℕ, suc, ◌+◌, ◌-◌, ◌*◌, ◌/◌, ◌%◌, ◌^◌, ◌≤◌, ◌<◌, min}
use native.Mathlib.Nat.{pow-suc, div-eq_of_lt, lt_of_le_of_lt, mod-lt, le_trans, le_of_eq, add-div_right}
use native.Mathlib.Numerals.{add-one}
use native.Mathlib.Omega.{arith}
use lib.ListN.{set, length, take, length-set}
use lib.Seq.{take-suc-set, take_all}
use lib.Pow.{pow_pos, shr-shr, shr_mono, shr_le, ones_sub-lt}
use lib.Bits.{bit_and, bit_xor, and_le_l, xor_lt}
use Rattle.laws.proofs.Order.{by_order}
use Rattle.int_bits.specs.Gather.{bit, count}
use Rattle.int_bits.specs.Stages.{flip, stage_mask, stage_masks}
use Rattle.int_bits.proofs.Bit.{by_bit, bit_lt, bit-and, bit-xor, bit-shr, bit_not, bit_high, bit-shl, bit_shl_low, same}
use Rattle.int_bits.proofs.Count.{count-suc, count_le, count_between, count_past}
use Rattle.int_bits.proofs.Masks.{mask_bit, mask_lt}

-- whole groups of 2^k zeros below p: none below 2^k, and at most one more over 2^k bits
pub group : ℕ → ℕ → ℕ → ℕ
group z k p = count z p / 2 ^ k

module _ (z k : ℕ) where
  group_start : (p : ℕ) → p < 2 ^ k → group z k p ≡ 0
  unfolding group
  group_start p h = div-eq_of_lt (lt_of_le_of_lt (count_le z p) h)

  group_grows : (p : ℕ) → (group z k p ≤ group z k (p + 2 ^ k)) × (group z k (p + 2 ^ k) ≤ suc (group z k p))
  unfolding group
  group_grows p = (
    shr_mono k (count_between z p (2 ^ k)).0,
    le_trans (shr_mono k (count_between z p (2 ^ k)).1) (le_of_eq (add-div_right (count z p) (pow_pos k) ∙ add-one _)),
  )

  group_half : (p : ℕ) → group z k p / 2 ≡ group z (suc k) p
  unfolding group
  group_half p = shr-shr (count z p) k 1 ∙ ap (λ (e : ℕ). count z p / 2 ^ e) (add-one k)

-- ---- the inner loop's step: each `parity ^= parity << len` doubles the reach len of the parity

abbrev Reach : ℕ → ℕ → ℕ → ℕ → ℕ → Type 0
Reach w z k len r = (j : ℕ) → j < w → bit r j ≡ (group z k (j + 2 ^ k) + group z k ((j + 2 ^ k) - len)) % 2

module _ (w z k len r : ℕ) (h : 2 ^ k ≤ len) (reach : Reach w z k len r) where
  reach_double : Reach w z k (len * 2) (bit_xor r ((r * 2 ^ len) % 2 ^ w))
  reach_double j hj =
      let n = 2 ^ k in
      bit-xor r ((r * 2 ^ len) % 2 ^ w) j
      ∙ by_order j len
      (λ l. omega (
        arith,
        bit_shl_low r len w j l hj,
        reach j hj,
        group_start z k ((j + n) - len) (omega (arith, pow_pos k)),
        group_start z k ((j + n) - len * 2) (omega (arith, pow_pos k)),
      ))
      (λ l. omega (
        arith,
        reach j hj,
        ap (bit ((r * 2 ^ len) % 2 ^ w)) {x = len + (j - len)} {y = j} (omega arith),
        bit-shl r len w (j - len) (omega arith),
        reach (j - len) (omega arith),
        ap (group z k) {x = (j - len) + n} {y = (j + n) - len} (omega arith),
        ap (group z k) {x = ((j - len) + n) - len} {y = (j + n) - len * 2} (omega arith),
      ))

-- with a reach of the whole width the parity is the mask
module _ (w m k : ℕ) where
  mask_group : (j : ℕ) → j < w → bit (stage_mask w m k) j ≡ group (flip w m) k (j + 2 ^ k) % 2
  unfolding bit group
  mask_group j h = mask_bit w m k j h

  reach_all : (len r : ℕ) → w ≤ len → r < 2 ^ w → Reach w (flip w m) k len r → r ≡ stage_mask w m k
  reach_all len r h hr reach =
      same r (stage_mask w m k) (λ j.
      by_order j w
      (λ l. omega (arith, reach j l, mask_group j l, group_start (flip w m) k ((j + 2 ^ k) - len) (omega (arith, pow_pos k))))
      (λ l. bit_high hr l ∙ sym (bit_high (mask_lt w m k) l)))

-- ---- the outer loop's step: `zeros` at the next stage

abbrev Change : ℕ → ℕ → ℕ → Type 0
Change z k r = (j : ℕ) → bit r j ≡ (group z k (j + 2 ^ k) + group z k j) % 2

change_start : (z : ℕ) → Change z 0 z
unfolding group
change_start z j = rw (add-one j, count-suc z j) (omega (arith, bit_lt z j))

-- a sum is even or odd by its summands
even_sum : (q r : ℕ) → r ≡ q → (r + q) % 2 ≡ 0
even_sum q r e = omega arith

odd_sum : (q r : ℕ) → r ≡ suc q → (r + q) % 2 ≡ 1
odd_sum q r e = omega arith

-- a count that grows by at most 1, halved, grows where the new count is even
half_change : (a b x y : ℕ) → a ≤ b → b ≤ suc a → x ≡ (b + a) % 2 → y + b % 2 ≡ 1 → min x y ≡ (b / 2 + a / 2) % 2
half_change a b x y h l ex ey =
    by_order a b
    (λ m. by_bit _ (a % 2) (omega arith)
    (λ e. let y0 : y ≡ 0 = omega arith in omega (arith, even_sum (a / 2) (b / 2) (omega arith)))
    (λ e. let y1 : y ≡ 1 = omega arith in omega (arith, odd_sum a b (omega arith), odd_sum (a / 2) (b / 2) (omega arith))))
    (λ m. omega (arith, even_sum a b (omega arith), even_sum (a / 2) (b / 2) (omega arith)))

module _ (w m k r : ℕ) (ch : Change (flip w m) k r) where
  abbrev z : ℕ
  z = flip w m

  abbrev left : ℕ
  left = bit_and r (flip w (stage_mask w m k))

  past : (j : ℕ) → w ≤ j → group z k (j + 2 ^ k) ≡ group z k j
  unfolding group
  past j l = ap (λ (c : ℕ). c / 2 ^ k) (count_past w z j (2 ^ k) (ones_sub-lt w m) l)

  -- the bits that are shifted into are off
  off : (j : ℕ) → bit left j ≡ (group z (suc k) (j + 2 ^ k) + group z (suc k) j) % 2
  off j =
      bit-and r (flip w (stage_mask w m k)) j
      ∙ by_order j w
      (λ l. half_change (group z k j) (group z k (j + 2 ^ k)) _ _ (group_grows z k j).0 (group_grows z k j).1 (ch j)
      (omega (arith, bit_not w (stage_mask w m k) j (mask_lt w m k) l, mask_group w m k j l)))
      (λ l. let e : group z k (j + 2 ^ k) ≡ group z k j = past j l in
      omega (arith, ch j, even_sum _ _ e, even_sum _ _ (ap (λ (g : ℕ). g / 2) e)))
      ∙ ap₂ (λ (b a : ℕ). (b + a) % 2) (group_half z k (j + 2 ^ k)) (group_half z k j)

  -- joined with their neighbours they are the change at the next stage
  change-suc : Change z (suc k) (bit_xor left (left / 2 ^ 2 ^ k))
  change-suc j =
      let n = 2 ^ k in
      omega (
        arith,
        bit-xor left (left / 2 ^ n) j,
        bit-shr left n j,
        off j,
        off (n + j),
        ap (group z (suc k)) {x = (n + j) + n} {y = j + 2 ^ suc k} (omega (arith, pow-suc 2 k)),
        ap (group z (suc k)) {x = n + j} {y = j + n} (omega arith),
      )

-- ---- what the two loops keep, and their steps in the code's shape

pub record Prepared (w s sparse zeros : ℕ) (masks : List ℕ) (stage : ℕ) : Type 0 where
  pub most : stage ≤ s
  pub whole : length masks ≡ s
  pub made : take stage masks ≡ stage_masks w sparse stage
  pub fits : zeros < 2 ^ w
  pub change : Change (flip w sparse) stage zeros

pub record Doubling (w sparse stage parity len : ℕ) : Type 0 where
  pub least : 2 ^ stage ≤ len
  pub fits : parity < 2 ^ w
  pub reach : Reach w (flip w sparse) stage len parity

pub doubling_start : {w s sparse zeros stage : ℕ} {masks : List ℕ} → Prepared w s sparse zeros masks stage
    → Doubling w sparse stage zeros (2 ^ stage)
doubling_start {w} {sparse = sparse} {stage = stage} inv =
    let groups = group (flip w sparse) stage in
    record {
      least = omega arith;
      fits = inv.fits;
      reach = λ j l. inv.change j ∙ ap (λ (p : ℕ). (groups (j + 2 ^ stage) + groups p) % 2) (omega arith);
    }

module _ {w sparse stage parity len : ℕ} (inv : Doubling w sparse stage parity len) where
  pub doubling_next : {t r : ℕ} → t ≡ (parity * 2 ^ len) % 2 ^ w → r ≡ bit_xor parity t → Doubling w sparse stage r (len * 2)
  doubling_next et er =
      rw (er, et) (record {
        least = omega (arith, inv.least);
        fits = xor_lt w parity _ inv.fits (mod-lt (parity * 2 ^ len) (pow_pos w));
        reach = reach_double w (flip w sparse) stage len parity inv.least inv.reach;
      })

  pub doubling_less : len < w → w - len * 2 < w - len
  doubling_less h = omega (arith, inv.least, pow_pos stage)

-- the same with the length as the code has it, a power of 2
pub doubling_power : {w sparse stage parity n t r : ℕ} (k : ℕ) → Doubling w sparse stage parity (2 ^ k) → n ≡ 2 ^ k → t ≡ (parity * 2 ^ n) % 2 ^ w
    → r ≡ bit_xor parity t → Doubling w sparse stage r (2 ^ (k + 1))
doubling_power k inv en et er = rw (add-one k, pow-suc 2 k) (doubling_next inv (rw en at et) er)

pub prepared_start : {w s sparse zeros : ℕ} {masks : List ℕ} → length masks ≡ s → zeros ≡ flip w sparse → Prepared w s sparse zeros masks 0
unfolding stage_masks
prepared_start {w} {sparse = sparse} e ez =
    rw ez (record { most = omega arith; whole = e; made = refl; fits = ones_sub-lt w sparse; change = change_start (flip w sparse) })

pub prepared_next : {w s sparse zeros stage parity len n o l d r : ℕ} {masks masks' : List ℕ} → stage < s → w ≤ len
    → Prepared w s sparse zeros masks stage → Doubling w sparse stage parity len → n ≡ 2 ^ stage → masks' ≡ set masks stage parity
    → o ≡ flip w parity → l ≡ bit_and zeros o → d ≡ l / 2 ^ n → r ≡ bit_xor l d → Prepared w s sparse r masks' (stage + 1)
unfolding stage_masks
prepared_next {w} {sparse = sparse} {zeros} {stage} {parity} {len} {masks = masks} h whole inv inv2 en em eo el ed er =
    let mask = reach_all w sparse stage len parity whole inv2.fits inv2.reach in
    let hl = lt_of_le_of_lt (and_le_l zeros (flip w parity)) inv.fits in
    rw (em, er, ed, el, eo, en, add-one stage) (record {
      most = omega arith;
      whole = length-set masks stage parity ∙ inv.whole;
      made = take-suc-set masks stage parity (omega (arith, inv.whole)) ∙ ap₂ (λ (l : List ℕ) (p : ℕ). l ++ (p ∷ [])) inv.made mask;
      fits = xor_lt w _ _ hl (lt_of_le_of_lt (shr_le (bit_and zeros (flip w parity)) _) hl);
      change = rw mask (change-suc w sparse stage zeros inv.change);
    })

pub prepared_end : {w s sparse zeros stage : ℕ} {masks : List ℕ} → s ≤ stage → Prepared w s sparse zeros masks stage
    → masks ≡ stage_masks w sparse s
prepared_end {w} {s} {sparse} {stage = stage} {masks = masks} h inv =
    let e : stage ≡ s = omega arith in
    sym (take_all s masks (omega (arith, inv.whole))) ∙ (rw e at inv.made)
