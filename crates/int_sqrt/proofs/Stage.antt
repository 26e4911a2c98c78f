-- The stages' code at words of four digits of k bits, worked out in words of w bits, over k and w: each shift and mask is the product,
-- quotient or remainder of `Karatsuba.antt` at the digit 2 ^ k. So the root that a stage first computes is close, every sum and product
-- on the way fits, and the two wraps of a borrow give the exact remainder.
use Rattle.std.specs.Bool.{FalseIff}
use Rattle.std.proofs.Common.{◌≡◌, ℕ, zero, suc, ◌+◌, ◌-◌, ◌*◌, ◌/◌, ◌%◌, ◌^◌, ◌<◌, ◌≤◌, Bool, true, false, sym, ap, ◌∙◌, lt_of_lt_of_le, mul-le-mul_right, mod-lt, mod-eq_of_lt, mul_comm, mul-le-mul, pow-suc, le-div_iff_mul-le, arith, pow_pos, pow_mono, pow-add, shl_exact, shr_lt}
use Rattle.std.proofs.Math.Pow.{pow-lt}
use lib.Pow.{split}
use lib.Bits.{bit_and, bit_or, and_mask, or_shifted}
use Rattle.laws.proofs.Wrap.{unwrapped, repaired}
use Rattle.int_sqrt.specs.Root.{Root, Remainder}
use Rattle.int_sqrt.specs.Word.{IsNormalized}
use Rattle.int_sqrt.proofs.Root.{remainder_root, square_lt, root_above}
use Rattle.int_sqrt.proofs.Karatsuba.{Close, close, quotient_le, kept, fixed, root_kept, root_fixed}

-- `1 << k`
abbrev one : ℕ → ℕ → ℕ
one w k = 1 * 2 ^ k % 2 ^ w

-- what the code computes from n and its upper half's root s and remainder r, a half having h bits and a quarter k
abbrev lo : ℕ → ℕ → ℕ → ℕ
lo w h n = bit_and n (one w h - 1)

abbrev numerator : ℕ → ℕ → ℕ → ℕ → ℕ → ℕ
numerator w h k n r = bit_or (r * 2 ^ k % 2 ^ w) (lo w h n / 2 ^ k)

abbrev denominator : ℕ → ℕ → ℕ
denominator w s = s * 2 % 2 ^ w

abbrev quotient : ℕ → ℕ → ℕ → ℕ → ℕ → ℕ → ℕ
quotient w h k n s r = numerator w h k n r / denominator w s

abbrev guess : ℕ → ℕ → ℕ → ℕ → ℕ → ℕ → ℕ
guess w h k n s r = s * 2 ^ k % 2 ^ w + quotient w h k n s r

abbrev rest : ℕ → ℕ → ℕ → ℕ → ℕ → ℕ → ℕ
rest w h k n s r = bit_or (numerator w h k n r % denominator w s * 2 ^ k % 2 ^ w) (bit_and (lo w h n) (one w k - 1))

-- what holds of it
pub record Stage (w h k n s r : ℕ) : Type 0 where
  pub fits : n < 2 ^ h * 2 ^ h
  pub divisor : zero < denominator w s
  pub square_le : quotient w h k n s r * quotient w h k n s r ≤ 2 ^ h
  pub guess_le : guess w h k n s r ≤ 2 ^ h
  pub room : 2 * 2 ^ h < 2 ^ w
  pub whole : 2 ^ h * 2 ^ h ≤ 2 ^ w
  pub top : one w h ≡ 2 ^ h
  pub near : Close n (guess w h k n s r) (rest w h k n s r) (quotient w h k n s r * quotient w h k n s r)

one_is : (w k : ℕ) → k < w → one w k ≡ 2 ^ k
one_is w k h = let e : 1 * 2 ^ k ≡ 2 ^ k = omega arith in ap (λ (x : ℕ). x % 2 ^ w) e ∙ mod-eq_of_lt (pow-lt h)

-- a number shifted left by k, with k lower bits put in
joined : (w k v a c : ℕ) → v + k ≤ w → a < 2 ^ v → c < 2 ^ k → bit_or (a * 2 ^ k % 2 ^ w) c ≡ a * 2 ^ k + c
joined w k v a c h ha hc = rw (shl_exact {a = a} v k w ha h) (or_shifted a k c hc)

module _ (w j k n s r : ℕ) (half : 2 ^ k ≡ 2 ^ j * 2) (digit : zero < k) (wide : k + k + (k + k) ≤ w) (norm : 2 ^ (j + j + (k + k)) ≤ n) (fits : n < 2 ^ (k + k + (k + k))) (p : Remainder (n / 2 ^ (k + k)) s r) where
  -- the upper half, and the two digits of the lower one
  top_lt : n / 2 ^ (k + k) < 2 ^ (k + k)
  top_lt = shr_lt (k + k) (k + k) fits

  a_lt : n % 2 ^ (k + k) / 2 ^ k < 2 ^ k
  a_lt = shr_lt k k (mod-lt n (pow_pos (k + k)))

  c_lt : n % 2 ^ (k + k) % 2 ^ k < 2 ^ k
  c_lt = mod-lt (n % 2 ^ (k + k)) (pow_pos k)

  digits : n / 2 ^ (k + k) * (2 ^ k * 2 ^ k) + n % 2 ^ (k + k) / 2 ^ k * 2 ^ k + n % 2 ^ (k + k) % 2 ^ k ≡ n
  digits = omega (arith, split n (k + k), split (n % 2 ^ (k + k)) k, ap (λ (x : ℕ). n / 2 ^ (k + k) * x) (pow-add 2 k k))

  -- the upper half is at least a quarter of its range, so its root is at least half of its own
  root_lt : s < 2 ^ k
  root_lt = square_lt (omega (arith, p, top_lt, pow-add 2 k k))

  normal : 2 ^ k ≤ 2 * s
  normal =
      let quarter : 2 ^ j * 2 ^ j * 2 ^ (k + k) ≤ n = rw (pow-add 2 (j + j) (k + k), pow-add 2 j j) at norm in
      let h : 2 ^ j ≤ s = root_above ((le-div_iff_mul-le (pow_pos (k + k))).1 quarter) (remainder_root p) in
      omega arith

  rest_lt : r < 2 ^ (k + k)
  rest_lt = omega (arith, p, top_lt)

  two : 2 ≤ 2 ^ k
  two = omega (arith, pow_pos j)

  four : 4 ≤ 2 ^ (k + k)
  four = rw (pow-add 2 k k) (mul-le-mul two two)

  whole : 2 ^ (k + k) * 2 ^ (k + k) ≤ 2 ^ w
  whole = rw (← pow-add 2 (k + k) (k + k)) (pow_mono wide)

  twice_lt : 2 * s < 2 ^ (k + k)
  twice_lt = omega (arith, root_lt, pow-add 2 k k, mul-le-mul_right (2 ^ k) two)

  -- what the code's terms are
  half_is : one w (k + k) ≡ 2 ^ (k + k)
  half_is = one_is w (k + k) (omega arith)

  lo_is : lo w (k + k) n ≡ n % 2 ^ (k + k)
  lo_is = rw half_is (and_mask n (k + k))

  lowest_is : bit_and (lo w (k + k) n) (one w k - 1) ≡ n % 2 ^ (k + k) % 2 ^ k
  lowest_is = rw (one_is w k (omega arith), lo_is) (and_mask (n % 2 ^ (k + k)) k)

  numerator_is : numerator w (k + k) k n r ≡ r * 2 ^ k + n % 2 ^ (k + k) / 2 ^ k
  numerator_is = rw lo_is (joined w k (k + k) r (n % 2 ^ (k + k) / 2 ^ k) (omega arith) rest_lt a_lt)

  denominator_is : denominator w s ≡ 2 * s
  denominator_is = rw (mul_comm s 2) (mod-eq_of_lt (lt_of_lt_of_le twice_lt (pow_mono (omega arith))))

  shifted_is : s * 2 ^ k % 2 ^ w ≡ s * 2 ^ k
  shifted_is = shl_exact {a = s} k k w root_lt (omega arith)

  rest_is : rest w (k + k) k n s r ≡ (r * 2 ^ k + n % 2 ^ (k + k) / 2 ^ k) % (2 * s) * 2 ^ k + n % 2 ^ (k + k) % 2 ^ k
  rest_is =
      let u-lt = mod-lt (r * 2 ^ k + n % 2 ^ (k + k) / 2 ^ k) {m = 2 * s} (omega (arith, normal, pow_pos k)) in
      rw (numerator_is, denominator_is, lowest_is) (joined w k (k + k) ((r * 2 ^ k + n % 2 ^ (k + k) / 2 ^ k) % (2 * s)) (n % 2 ^ (k + k) % 2 ^ k) (omega arith) (omega (arith, u-lt, twice_lt)) c_lt)

  q_le : (r * 2 ^ k + n % 2 ^ (k + k) / 2 ^ k) / (2 * s) ≤ 2 ^ k
  q_le = quotient_le (2 ^ k) (n / 2 ^ (k + k)) s r (n % 2 ^ (k + k) / 2 ^ k) (n % 2 ^ (k + k) % 2 ^ k) p (pow_pos k) normal a_lt c_lt

  stage_of : Stage w (k + k) k n s r
  stage_of = record {
    fits = rw pow-add at fits;
    divisor = rw denominator_is (omega (arith, normal, pow_pos k));
    square_le = rw (numerator_is, denominator_is) (omega (arith, mul-le-mul q_le q_le, pow-add 2 k k));
    guess_le = rw (numerator_is, denominator_is, shifted_is) (omega (arith, q_le, pow-add 2 k k, mul-le-mul_right (2 ^ k) root_lt));
    room = omega (arith, pow_pos (k + k), whole, mul-le-mul_right (2 ^ (k + k)) four);
    whole = whole;
    top = half_is;
    near = rw (rest_is, numerator_is, denominator_is, shifted_is) (rw digits at (close (2 ^ k) (n / 2 ^ (k + k)) s r (n % 2 ^ (k + k) / 2 ^ k) (n % 2 ^ (k + k) % 2 ^ k) p (pow_pos k) normal a_lt c_lt));
  }

-- at a word of four digits of j + 1 bits
stage_at : (j : ℕ) {b h n s r : ℕ} → b ≡ suc j + suc j + (suc j + suc j) → h ≡ suc j + suc j → b ≤ 64 → 2 ^ (b - 2) ≤ n → n < 2 ^ b → Remainder (n / 2 ^ h) s r → Stage 64 h (suc j) n s r
stage_at j {b} {h} {n} {s} {r} eb eh most low high p =
    let e : b - 2 ≡ j + j + (suc j + suc j) = omega arith in
    rw eh (stage_of 64 j (suc j) n s r (pow-suc 2 j) (omega arith) (rw eb at most) (rw e at low) (rw eb at high) (rw eh at p))

-- at what the stages are given: a normalised word, and the root and remainder of its upper half
pub stage : {b n s r : ℕ} → IsNormalized b n → s * s + r ≡ n / 2 ^ (b / 2) → r ≤ 2 * s → Stage 64 (b / 2) (b / 4) n s r
stage {b} {n} {s} {r} g e small = at (b / 4) g.word.quarters
  where
    p : Remainder (n / 2 ^ (b / 2)) s r
    p = record { exact = sym e; small = small }

    at : (k : ℕ) → b ≡ 4 * k → Stage 64 (b / 2) k n s r
    at zero z = absurd (omega (arith, rw z at g.low, rw z at g.high))
    at (suc j) z = stage_at j (omega arith) (omega arith) g.word.most g.low g.high p

module _ {w h k n s r : ℕ} (g : Stage w h k n s r) where
  -- a middle stage: t is the wrapped difference, and p the wrapped repair
  module _ {t : ℕ} (ht : t < 2 ^ w) (e : (t + quotient w h k n s r * quotient w h k n s r) % 2 ^ w ≡ rest w h k n s r) where
    pub middle_kept : quotient w h k n s r * quotient w h k n s r ≤ rest w h k n s r → Remainder n (guess w h k n s r) t
    middle_kept f = rw (unwrapped (omega (arith, g)) ht e f) (kept g.near f)

    pub middle_fixed : {p : ℕ} → rest w h k n s r < quotient w h k n s r * quotient w h k n s r → p ≡ (t + (2 * guess w h k n s r - 1)) % 2 ^ w → Remainder n (guess w h k n s r - 1) p
    middle_fixed f d = fixed g.near f (repaired (omega (arith, g)) ht e (omega (arith, g)) f (omega (arith, g)) d)

    -- the same of what the stage gives, told by the flag whether the difference borrows
    module _ {s' r' : ℕ} {borrows : Bool} (told : FalseIff borrows (quotient w h k n s r * quotient w h k n s r ≤ rest w h k n s r)) where
      pub given_kept : borrows ≡ false → s' ≡ guess w h k n s r → r' ≡ t → Remainder n s' r'
      given_kept b es er = rw (es, er) (middle_kept (rw b at told))

      pub given_fixed : borrows ≡ true → s' ≡ guess w h k n s r - 1 → r' ≡ (t + (2 * guess w h k n s r - 1)) % 2 ^ w → Remainder n s' r'
      given_fixed b es er = rw es (middle_fixed (omega (arith, rw b at told)) er)

  -- the last stage: the only guess whose square does not fit is 2 ^ h, and that is too large
  pub last_top : guess w h k n s r ≡ one w h → Root n (guess w h k n s r - 1)
  last_top e = root_fixed g.near (omega (arith, g.fits, ap (λ (x : ℕ). x * x) (e ∙ g.top)))

  pub last_fits : (guess w h k n s r ≡ one w h → ⊥) → guess w h k n s r * guess w h k n s r < 2 ^ w
  last_fits f = let l : guess w h k n s r + 1 ≤ 2 ^ h = omega (arith, g.guess_le, g.top) in omega (arith, g.whole, mul-le-mul l l)

  pub last_fixed : n < guess w h k n s r * guess w h k n s r → Root n (guess w h k n s r - 1)
  last_fixed f = root_fixed g.near f

  pub last_kept : guess w h k n s r * guess w h k n s r ≤ n → Root n (guess w h k n s r)
  last_kept f = root_kept g.near f

  -- the same, told by the wrapped square and the flag whether it wraps
  module _ {square : ℕ} {wraps : Bool} (e : square ≡ guess w h k n s r * guess w h k n s r % 2 ^ w) (told : FalseIff wraps (guess w h k n s r * guess w h k n s r < 2 ^ w)) where
    pub wrapped_fixed : wraps ≡ true → Root n (guess w h k n s r - 1)
    wrapped_fixed b = last_fixed (omega (arith, g.fits, g.whole, rw b at told))

    square_is : wraps ≡ false → square ≡ guess w h k n s r * guess w h k n s r
    square_is b = e ∙ mod-eq_of_lt (rw b at told)

    pub above_fixed : wraps ≡ false → n < square → Root n (guess w h k n s r - 1)
    above_fixed b f = last_fixed (rw (square_is b) at f)

    pub below_kept : wraps ≡ false → square ≤ n → Root n (guess w h k n s r)
    below_kept b f = last_kept (rw (square_is b) at f)
