-- How many ones a number has below a position. Assumes nothing.
use mathlib.Core.Path.{◌≡◌, refl, sym, ap, ◌∙◌}
use Prim.Native.Nat.{ℕ, zero, suc, ◌+◌, ◌-◌, ◌/◌, ◌%◌, ◌^◌, ◌≤◌, ◌<◌}
use native.Mathlib.Nat.{zero-add, add-zero, add-suc, pow-suc}
use native.Mathlib.Omega.{arith}
use lib.Count.{ones, ones_step}
use Rattle.laws.proofs.Order.{by_order}
use Rattle.int_bits.specs.Gather.{bit, count}
use Rattle.int_bits.specs.Meaning.{One}
use Rattle.int_bits.specs.Stages.{flip}
use Rattle.int_bits.proofs.Bit.{bit_lt, bit-zero, bit-suc, bit_high, bit_not}

pub count-zero : (m : ℕ) → count m 0 ≡ 0
unfolding count
count-zero m = refl

pub count-suc : (m p : ℕ) → count m (suc p) ≡ count m p + bit m p
unfolding count
count-suc m p = refl

pub count-cons : (m p : ℕ) → count m (suc p) ≡ m % 2 + count (m / 2) p
unfolding count
count-cons m zero = omega (arith, bit-zero m)
count-cons m (suc p) = omega (arith, count-cons m p, bit-suc m p)

pub count_even : (m p : ℕ) → m % 2 ≡ 0 → count m (suc p) ≡ count (m / 2) p
count_even m p e = omega (arith, count-cons m p)

pub count_odd : (m p : ℕ) → m % 2 ≡ 1 → count m (suc p) ≡ suc (count (m / 2) p)
count_odd m p e = omega (arith, count-cons m p)

-- over t bits the count grows by 0 to t
pub count_between : (m p t : ℕ) → (count m p ≤ count m (p + t)) × (count m (p + t) ≤ count m p + t)
unfolding count
count_between m p zero = simp add-zero (omega arith)
count_between m p (suc t) = rw (add-suc p t) (omega (arith, count_between m p t, bit_lt m (p + t)))

pub count_le : (m p : ℕ) → count m p ≤ p
count_le m p = omega (arith, count_between m 0 p, count-zero m, ap (count m) (zero-add p))

-- a one is counted from the next position on
pub count_lt : (m p w : ℕ) → p < w → bit m p ≡ 1 → count m p < count m w
count_lt m p w h one =
    omega (arith, count-suc m p, count_between m (suc p) (w - suc p), ap (count m) {x = suc p + (w - suc p)} {y = w} (omega arith))

-- where there is no one nothing is counted
pub count_none : (m p : ℕ) → ((q : ℕ) → q < p → bit m q ≡ 0) → count m p ≡ 0
count_none m zero h = count-zero m
count_none m (suc p) h = count-suc m p ∙ omega (arith, count_none m p (λ q l. h q (omega arith)), h p (omega arith))

-- past the width nothing is counted
pub count_past : (w m p t : ℕ) → m < 2 ^ w → w ≤ p → count m (p + t) ≡ count m p
unfolding count
count_past w m p zero hm h = ap (count m) (add-zero p)
count_past w m p (suc t) hm h = ap (count m) (add-suc p t) ∙ omega (arith, count_past w m p t hm h, bit_high {j = p + t} hm (omega arith))

-- ones and zeros below p are p in all
pub count_both : (w m p : ℕ) → m < 2 ^ w → p ≤ w → count (flip w m) p + count m p ≡ p
unfolding count
count_both w m zero hm h = refl
count_both w m (suc p) hm h = omega (arith, count_both w m p hm (omega arith), bit_not w m p hm h)

-- at the width the count is all the ones, as the machine's count_ones gives it
pub count_ones : (w m : ℕ) → m < 2 ^ w → count m w ≡ ones m
unfolding count ones
count_ones zero m h = ap ones {x = 0} {y = m} (omega arith)
count_ones (suc w) m h = count-cons m w ∙ ap (λ (c : ℕ). m % 2 + c) (count_ones w (m / 2) (omega (arith, pow-suc 2 w))) ∙ sym (ones_step m)

-- the one with j ones below it, if there are more than j
pub nth : (m w j : ℕ) → j < count m w → (p : ℕ) × (p < w) × One m j p
unfolding count
nth m zero j h = absurd (omega arith)
nth m (suc w) j h =
    by_order j (count m w)
    (λ l. let (p, q, o) = nth m w j l in (p, omega arith, o))
    (λ l. (w, omega arith, record { one = omega (arith, bit_lt m w); below = omega (arith, bit_lt m w) }))
