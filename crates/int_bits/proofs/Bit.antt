-- The bits of a number: under the operations of the machine, and that they determine it. Assumes nothing.
use mathlib.Core.Path.{◌≡◌, refl, sym, ap, ◌∙◌}
use Prim.Native.Nat.{ℕ, zero, suc, ◌+◌, ◌-◌, ◌*◌, ◌/◌, ◌%◌, ◌^◌, ◌≤◌, ◌<◌, min}
use native.Mathlib.Nat.{add-zero, pow-suc, pow-succ', mod-eq_of_lt}
use native.Mathlib.Omega.{arith}
use lib.Arith.{digits_lt}
use lib.Pow.{pow_pos, shr-shr, shl-shr, field, high, mod-pow-add, mod-mod-pow}
use lib.Bits.{bit_and, bit_xor}
use lib.Count.{count_trailing_zeros, trailing_le}
use Rattle.std.proofs.lemmas.Nat.Bits.{bit_at-lt, bit_at_lowest, bit_at-suc, bit_at_and, bit_at_xor, bit_at_above, bit_at-zero, bit_at_cat_low, same_from_bits}
use Rattle.laws.proofs.Order.{by_order}
use Rattle.int_bits.specs.Gather.{bit}
use Rattle.int_bits.specs.Stages.{from_bits}

-- what holds of a 0 and of a 1 holds of any bit
pub by_bit : (P : Type 0) (b : ℕ) → b < 2 → (b ≡ 0 → P) → (b ≡ 1 → P) → P
by_bit P zero h f g = f refl
by_bit P (suc zero) h f g = g refl
by_bit P (suc (suc b)) h f g = absurd (omega arith)

-- ---- a bit under the machine's operations

pub bit_lt : (x j : ℕ) → bit x j < 2
unfolding bit
bit_lt = bit_at-lt

pub bit-zero : (x : ℕ) → bit x 0 ≡ x % 2
unfolding bit
bit-zero = bit_at_lowest

pub bit-suc : (x j : ℕ) → bit x (suc j) ≡ bit (x / 2) j
unfolding bit
bit-suc = bit_at-suc

pub bit-shr : (x n j : ℕ) → bit (x / 2 ^ n) j ≡ bit x (n + j)
unfolding bit
bit-shr x n j = ap (λ (y : ℕ). y % 2) (shr-shr x n j)

pub bit-and : (a b j : ℕ) → bit (bit_and a b) j ≡ min (bit a j) (bit b j)
unfolding bit
bit-and = bit_at_and

pub bit-xor : (a b j : ℕ) → bit (bit_xor a b) j ≡ (bit a j + bit b j) % 2
unfolding bit
bit-xor = bit_at_xor

-- the i + 1 low bits are bit i and the i low ones
pub low-suc : (x i : ℕ) → x % 2 ^ suc i ≡ bit x i * 2 ^ i + x % 2 ^ i
unfolding bit
low-suc x i = ap (λ (e : ℕ). x % 2 ^ e) (omega arith) ∙ mod-pow-add x 1 i

pub bit_high : {a w j : ℕ} → a < 2 ^ w → w ≤ j → bit a j ≡ 0
unfolding bit
bit_high {a} {w} {j} = bit_at_above a w j

pub bit_none : (j : ℕ) → bit 0 j ≡ 0
unfolding bit
bit_none = bit_at-zero

pub bit_not : (w a j : ℕ) → a < 2 ^ w → j < w → bit ((2 ^ w - 1) - a) j + bit a j ≡ 1
bit_not zero a j ha h = absurd (omega arith)
bit_not (suc w) a zero ha h = omega (arith, bit-zero ((2 ^ suc w - 1) - a), bit-zero a, pow_pos w, pow-suc 2 w)
bit_not (suc w) a (suc j) ha h =
    let e : ((2 ^ suc w - 1) - a) / 2 ≡ (2 ^ w - 1) - a / 2 = omega (arith, pow_pos w, pow-suc 2 w) in
    omega (arith, bit-suc ((2 ^ suc w - 1) - a) j, ap (λ (y : ℕ). bit y j) e, bit-suc a j, bit_not w (a / 2) j (omega (arith, pow-suc 2 w)) (omega arith))

pub bit-mod : (a w j : ℕ) → j < w → bit (a % 2 ^ w) j ≡ bit a j
unfolding bit
bit-mod a w j h =
    let e : w ≡ ((w - suc j) + 1) + j = omega arith in
    ap (λ (v : ℕ). a % 2 ^ v / 2 ^ j % 2) e ∙ ap (λ (y : ℕ). y % 2) (field a ((w - suc j) + 1) j) ∙ mod-mod-pow (a / 2 ^ j) (w - suc j) 1

-- ---- a bit b put on top of the c bits of g

pub bit_top : (b c g : ℕ) → b < 2 → g < 2 ^ c → bit (b * 2 ^ c + g) c ≡ b
unfolding bit
bit_top b c g hb hg = ap (λ (y : ℕ). y % 2) (high b c hg) ∙ mod-eq_of_lt hb

pub bit_under : (b c g j : ℕ) → j < c → bit (b * 2 ^ c + g) j ≡ bit g j
unfolding bit
bit_under = bit_at_cat_low

-- ---- a shift to the left by n, whole and at width w

pub bit_up_low : (a n j : ℕ) → j < n → bit (a * 2 ^ n) j ≡ 0
bit_up_low a n j h = ap (λ (y : ℕ). bit y j) (sym (add-zero (a * 2 ^ n))) ∙ bit_under a n 0 j h ∙ bit_none j

pub bit_up : (a n j : ℕ) → bit (a * 2 ^ n) (n + j) ≡ bit a j
bit_up a n j = sym (bit-shr (a * 2 ^ n) n j) ∙ ap (λ (y : ℕ). bit y j) (shl-shr a n)

pub bit_shl_low : (a n w j : ℕ) → j < n → j < w → bit ((a * 2 ^ n) % 2 ^ w) j ≡ 0
bit_shl_low a n w j h hw = bit-mod (a * 2 ^ n) w j hw ∙ bit_up_low a n j h

pub bit-shl : (a n w j : ℕ) → n + j < w → bit ((a * 2 ^ n) % 2 ^ w) (n + j) ≡ bit a j
bit-shl a n w j h = bit-mod (a * 2 ^ n) w (n + j) h ∙ bit_up a n j

-- ---- a number made of its bits

module _ (f : ℕ → ℕ) (hf : (j : ℕ) → f j < 2) where
  pub from_lt : (w : ℕ) → from_bits w f < 2 ^ w
  unfolding from_bits
  from_lt zero = omega arith
  from_lt (suc w) = let ih = from_lt w in rw (pow-succ' 2 w) (digits_lt (hf w) ih)

  pub bit_from : (w j : ℕ) → j < w → bit (from_bits w f) j ≡ f j
  unfolding from_bits
  bit_from zero j h = absurd (omega arith)
  bit_from (suc w) j h =
      by_order j w
      (λ l. bit_under (f w) w (from_bits w f) j l ∙ bit_from w j l)
      (λ l. let e : j ≡ w = omega arith in rw e (bit_top (f w) w (from_bits w f) (hf w) (from_lt w)))

-- ---- the zeros below the lowest one, as the machine's trailing_zeros counts them

module _ (k n : ℕ) where
  trailing_even : n % 2 ≡ 0 → count_trailing_zeros (suc k) n ≡ suc (count_trailing_zeros k (n / 2))
  unfolding count_trailing_zeros
  trailing_even e = rw e

  trailing_odd : n % 2 ≡ 1 → count_trailing_zeros (suc k) n ≡ 0
  unfolding count_trailing_zeros
  trailing_odd e = rw e

pub trailing_zero : (k n j : ℕ) → j < count_trailing_zeros k n → bit n j ≡ 0
trailing_zero zero n j h = absurd (omega (arith, trailing_le 0 n))
trailing_zero (suc k) n zero h =
    by_bit _ (n % 2) (omega arith) (λ e. bit-zero n ∙ e) (λ e. absurd (omega (arith, trailing_odd k n e)))
trailing_zero (suc k) n (suc j) h =
    by_bit _ (n % 2) (omega arith)
    (λ e. bit-suc n j ∙ trailing_zero k (n / 2) j (omega (arith, trailing_even k n e)))
    (λ e. absurd (omega (arith, trailing_odd k n e)))

pub trailing_one : (k n : ℕ) → count_trailing_zeros k n < k → bit n (count_trailing_zeros k n) ≡ 1
trailing_one zero n h = absurd (omega arith)
trailing_one (suc k) n h =
    by_bit _ (n % 2) (omega arith)
    (λ e. rw (trailing_even k n e) (bit-suc n (count_trailing_zeros k (n / 2)) ∙ trailing_one k (n / 2) (omega (arith, trailing_even k n e))))
    (λ e. rw (trailing_odd k n e) (bit-zero n ∙ e))

-- ---- numbers with the same bits are the same

pub lt_pow : (n : ℕ) → n < 2 ^ n
lt_pow zero = omega arith
lt_pow (suc n) = omega (arith, lt_pow n, pow-suc 2 n)

pub same : (a b : ℕ) → ((j : ℕ) → bit a j ≡ bit b j) → a ≡ b
unfolding bit
same = same_from_bits
