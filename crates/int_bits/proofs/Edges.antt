-- The test of `run_start`, over the width: it holds exactly where the ones of the mask are adjacent, and then the lowest edge is the lowest one.
-- Assumes nothing.
use Rattle.std.proofs.Common.{◌≡◌, ℕ, zero, suc, ◌+◌, ◌-◌, ◌*◌, ◌/◌, ◌%◌, ◌^◌, ◌<◌, ◌≤◌, min, sym, refl, ap, ◌∙◌, add-zero, add-suc, mod-lt, mod-eq_of_lt, arith, pow_pos}
use native.Mathlib.Nat.{mod_self, min-zero}
use lib.Bits.{bit_and, bit_xor, xor_lt}
use lib.Count.{count_trailing_zeros, trailing_le}
use lib.Pow.{split, high, low, mod-mod-pow, ones_sub-lt}
use Rattle.laws.proofs.Order.{by_order}
use Rattle.int_bits.specs.Gather.{bit}
use Rattle.int_bits.specs.Stages.{flip}
use Rattle.int_bits.specs.Meaning.{One}
use Rattle.int_bits.specs.Run.{Adjacent, Run, Starts}
use Rattle.int_bits.proofs.Bit.{by_bit, bit_lt, bit-zero, bit-suc, bit-and, bit-xor, bit_high, bit_none, bit_not, bit-mod, bit-shl, bit_shl_low, low-suc, trailing_zero, trailing_one, same}
use Rattle.int_bits.proofs.Count.{count_none}
use Rattle.int_bits.proofs.Run.{run_adjacent, adjacent_run, empty_run}

-- a number without ones above bit 0 is one bit
small : (n : ℕ) → ((j : ℕ) → bit n (suc j) ≡ 0) → n < 2
small n h = omega (arith, same (n / 2) 0 (λ j. sym (bit-suc n j) ∙ h j ∙ sym (bit_none j)))

-- ---- ones below a position

some_one : (m j : ℕ) → 0 < m % 2 ^ j → (i : ℕ) × (i < j) × (bit m i ≡ 1)
some_one m zero h = absurd (omega arith)
some_one m (suc j) h =
    by_bit _ (bit m j) (bit_lt m j)
    (λ e. let (i, l, o) = some_one m j (omega (arith, low-suc m j, ap (λ (b : ℕ). b * 2 ^ j) e)) in (i, omega arith, o))
    (λ e. (j, omega arith, e))

below_one : (m i j : ℕ) → i < j → bit m i ≡ 1 → 0 < m % 2 ^ j
below_one m i j h e =
    by_order 0 (m % 2 ^ j) (λ l. l)
    (λ l. let z : m % 2 ^ j ≡ 0 = omega arith in absurd (omega (arith, bit-mod m j i h, ap (λ (y : ℕ). bit y i) z, bit_none i)))

-- ---- a number and the next: a bit stays where there is a one below it in the next, and turns over where there is none

module _ (n j : ℕ) where
  by_next : (P : Type 0) → (((n + 1) % 2 ^ j ≡ n % 2 ^ j + 1) → ((n + 1) / 2 ^ j ≡ n / 2 ^ j) → P)
      → (((n + 1) % 2 ^ j ≡ 0) → ((n + 1) / 2 ^ j ≡ n / 2 ^ j + 1) → P) → P
  by_next P f g =
      by_order (n % 2 ^ j + 1) (2 ^ j)
      (λ l.
      let e : n + 1 ≡ n / 2 ^ j * 2 ^ j + (n % 2 ^ j + 1) = omega (arith, split n j) in
      f (ap (λ (y : ℕ). y % 2 ^ j) e ∙ low (n / 2 ^ j) j l) (ap (λ (y : ℕ). y / 2 ^ j) e ∙ high (n / 2 ^ j) j l))
      (λ l.
      let e : n + 1 ≡ (n / 2 ^ j + 1) * 2 ^ j + 0 = omega (arith, split n j, mod-lt n (pow_pos j)) in
      g (ap (λ (y : ℕ). y % 2 ^ j) e ∙ low (n / 2 ^ j + 1) j (pow_pos j)) (ap (λ (y : ℕ). y / 2 ^ j) e ∙ high (n / 2 ^ j + 1) j (pow_pos j)))

  next_stays : 0 < (n + 1) % 2 ^ j → bit n j ≡ bit (n + 1) j
  unfolding bit
  next_stays h = by_next _ (λ l e. ap (λ (y : ℕ). y % 2) (sym e)) (λ l e. absurd (omega arith))

  next_turns : (n + 1) % 2 ^ j ≡ 0 → bit n j + bit (n + 1) j ≡ 1
  unfolding bit
  next_turns h = by_next _ (λ l e. absurd (omega arith)) (λ l e. omega arith)

-- ---- the mask less 1, wrapping: a bit with a one of the mask below it is the mask's, and else the other one

module _ (w m a : ℕ) (ha : (a + 1) % 2 ^ w ≡ m) (j : ℕ) (h : j < w) where
  next_low : (a + 1) % 2 ^ j ≡ m % 2 ^ j
  next_low =
      sym (mod-mod-pow (a + 1) (w - j) j) ∙ ap (λ (v : ℕ). (a + 1) % 2 ^ v % 2 ^ j) {x = (w - j) + j} {y = w} (omega arith) ∙ ap (λ (y : ℕ). y % 2 ^ j) ha

  next_bit : bit (a + 1) j ≡ bit m j
  next_bit = sym (bit-mod (a + 1) w j h) ∙ ap (λ (y : ℕ). bit y j) ha

  less_stays : 0 < m % 2 ^ j → bit a j ≡ bit m j
  less_stays o = next_stays a j (rw next_low o) ∙ next_bit

  less_turns : m % 2 ^ j ≡ 0 → bit a j + bit m j ≡ 1
  less_turns z = omega (arith, next_turns a j (next_low ∙ z), next_bit)

-- ---- the edges: where a bit of the mask differs from the one below it; at 0, where it is a zero

unfoldable pub edges : ℕ → ℕ → ℕ
edges w m = bit_xor (flip w m) ((flip w m * 2 ^ 1) % 2 ^ w)

module _ (w m : ℕ) (hm : m < 2 ^ w) where
  edge-zero : 0 < w → bit (edges w m) 0 + bit m 0 ≡ 1
  unfolding edges
  edge-zero h = omega (arith, bit-xor (flip w m) ((flip w m * 2 ^ 1) % 2 ^ w) 0, bit_shl_low (flip w m) 1 w 0 (omega arith) h, bit_not w m 0 hm h)

  edge-suc : (j : ℕ) → suc j < w → bit (edges w m) (suc j) ≡ (bit m (suc j) + bit m j) % 2
  unfolding edges
  edge-suc j h =
      omega (
        arith,
        bit-xor (flip w m) ((flip w m * 2 ^ 1) % 2 ^ w) (suc j),
        ap (bit ((flip w m * 2 ^ 1) % 2 ^ w)) {x = suc j} {y = 1 + j} (omega arith),
        bit-shl (flip w m) 1 w j (omega arith),
        bit_not w m j hm (omega arith),
        bit_not w m (suc j) hm h,
      )

  edge_lt : edges w m < 2 ^ w
  unfolding edges
  edge_lt = xor_lt w _ _ (ones_sub-lt w m) (mod-lt _ (pow_pos w))

-- ---- the test is exact

module _ (w m a : ℕ) (hm : m < 2 ^ w) (ha : (a + 1) % 2 ^ w ≡ m) where
  steady : bit_and a (edges w m) < 2 → (i j : ℕ) → i ≤ j → bit m i ≡ 1 → bit m (suc j) ≡ 1 → bit m j ≡ 1
  steady t i j h o e =
      let l : suc j < w = by_order (suc j) w (λ l. l) (λ l. absurd (omega (arith, bit_high hm l))) in
      omega (
        arith,
        bit_high {w = 1} {j = suc j} t (omega arith),
        bit-and a (edges w m) (suc j),
        less_stays w m a ha (suc j) l (below_one m i (suc j) (omega arith) o),
        edge-suc w m hm j l,
        bit_lt m j,
      )

  pub test_adjacent : bit_and a (edges w m) < 2 → Adjacent m
  test_adjacent t = record { between = λ i j k h h' o e. down i j (k - j) h o (ap (bit m) (omega arith) ∙ e) }
    where
      down : (i j d : ℕ) → i < j → bit m i ≡ 1 → bit m (j + d) ≡ 1 → bit m j ≡ 1
      down i j zero h o e = ap (bit m) (sym (add-zero j)) ∙ e
      down i j (suc d) h o e = down i j d h o (steady t i (j + d) (omega arith) o (ap (bit m) (sym (add-suc j d)) ∙ e))

  pub adjacent_test : Adjacent m → bit_and a (edges w m) < 2
  adjacent_test adj = small (bit_and a (edges w m)) (λ j. bit-and a (edges w m) (suc j) ∙ by_order (suc j) w (apart j) (λ l. rw (bit_high (edge_lt w m hm) l) (min-zero _)))
    where
      none : (j : ℕ) → bit m (suc j) ≡ 1 → bit m j ≡ 0 → m % 2 ^ suc j ≡ 0
      none j e z = by_order 0 (m % 2 ^ suc j) (λ l. let (i, h, o) = some_one m (suc j) l in absurd (lower i h o)) (λ l. omega arith)
        where
          lower : (i : ℕ) → i < suc j → bit m i ≡ 1 → ⊥
          lower i h o =
              by_order i j (λ l. omega (arith, adj.between i j (suc j) l (omega arith) o e))
              (λ l. let s : i ≡ j = omega arith in omega (arith, ap (bit m) s))

      apart : (j : ℕ) → suc j < w → min (bit a (suc j)) (bit (edges w m) (suc j)) ≡ 0
      apart j l =
          by_bit _ (bit m j) (bit_lt m j)
          (λ z. by_bit _ (bit m (suc j)) (bit_lt m (suc j))
          (λ e. omega (arith, edge-suc w m hm j l))
          (λ e. omega (arith, less_turns w m a ha (suc j) l (none j e z))))
          (λ z. by_bit _ (bit m (suc j)) (bit_lt m (suc j))
          (λ e. omega (arith, less_stays w m a ha (suc j) l (below_one m j (suc j) (omega arith) z)))
          (λ e. omega (arith, edge-suc w m hm j l)))

-- ---- the lowest edge, with bit 0 turned over, is the lowest one

module _ (w m : ℕ) (hm : m < 2 ^ w) where
  turned_zero : 0 < w → bit (bit_xor (edges w m) 1) 0 ≡ bit m 0
  turned_zero h = omega (arith, bit-xor (edges w m) 1 0, edge-zero w m hm h, bit-zero 1)

  turned-suc : (j : ℕ) → suc j < w → bit (bit_xor (edges w m) 1) (suc j) ≡ (bit m (suc j) + bit m j) % 2
  turned-suc j h = omega (arith, bit-xor (edges w m) 1 (suc j), edge-suc w m hm j h, bit_high {a = 1} {w = 1} {j = suc j} (omega arith) (omega arith))

  -- where no edge is, no one is
  no_one : (k : ℕ) → k ≤ w → ((j : ℕ) → j < k → bit (bit_xor (edges w m) 1) j ≡ 0) → (j : ℕ) → j < k → bit m j ≡ 0
  no_one k l z zero h = sym (turned_zero (omega arith)) ∙ z 0 h
  no_one k l z (suc j) h = omega (arith, bit_lt m (suc j), turned-suc j (omega arith), z (suc j) h, no_one k l z j (omega arith))

  edge_one : (k : ℕ) → k < w → ((j : ℕ) → j < k → bit m j ≡ 0) → bit (bit_xor (edges w m) 1) k ≡ 1 → bit m k ≡ 1
  edge_one zero l z e = sym (turned_zero l) ∙ e
  edge_one (suc j) l z e = omega (arith, bit_lt m (suc j), turned-suc j l, z j (omega arith))

  lowest : ℕ
  lowest = count_trailing_zeros w (bit_xor (edges w m) 1)

  none_below : (j : ℕ) → j < lowest → bit m j ≡ 0
  unfolding lowest
  none_below = no_one (count_trailing_zeros w (bit_xor (edges w m) 1)) (trailing_le w _) (trailing_zero w (bit_xor (edges w m) 1))

  lowest_one : lowest < w → One m 0 lowest
  unfolding lowest
  lowest_one h = record { one = edge_one lowest h none_below (trailing_one w (bit_xor (edges w m) 1) h); below = count_none m lowest none_below }

  no_ones : w ≤ lowest → m ≡ 0
  no_ones h = same m 0 (λ j. by_order j w (λ l. none_below j (omega arith)) (λ l. bit_high hm l) ∙ sym (bit_none j))

-- ---- what `run_start` finds

module _ (w m a : ℕ) (hm : m < 2 ^ w) (ha : (a + 1) % 2 ^ w ≡ m) where
  pub starts : {r : ℕ} → 0 < w → bit_and a (edges w m) < 2 → r ≡ count_trailing_zeros w (bit_xor (edges w m) 1) % w → Starts w m r
  unfolding lowest
  starts {r} h t e =
      rw e (record {
        if_adjacent = λ adj. mod-lt _ h;
        only_if_adjacent = λ l. adj;
        if_apart = λ no. absurd (no adj);
        run = λ l. by_order k w one none;
        of_none = λ z. rw (last z) (mod_self w);
      })
    where
      adj : Adjacent m
      adj = test_adjacent w m a hm ha t

      k : ℕ
      k = lowest w m hm

      one : k < w → (length : ℕ) × Run m (k % w) length
      one l = rw (mod-eq_of_lt l) (adjacent_run w m k hm adj (lowest_one w m hm l))

      none : w ≤ k → (length : ℕ) × Run m (k % w) length
      none l = (0, empty_run (no_ones w m hm l) (k % w))

      last : m ≡ 0 → k ≡ w
      last z =
          by_order k w (λ l. absurd (omega (arith, (lowest_one w m hm l).one, ap (λ (y : ℕ). bit y k) z, bit_none k)))
          (λ l. omega (arith, trailing_le w (bit_xor (edges w m) 1)))

  pub starts_not : 2 ≤ bit_and a (edges w m) → Starts w m w
  starts_not t = record {
    if_adjacent = λ adj. absurd (omega (arith, adjacent_test w m a hm ha adj));
    only_if_adjacent = λ l. absurd (omega arith);
    if_apart = λ no. refl;
    run = λ l. absurd (omega arith);
    of_none = λ z. absurd (omega (arith, adjacent_test w m a hm ha (run_adjacent (empty_run z 0))));
  }
