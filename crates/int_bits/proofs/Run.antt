-- Masks that are one run of ones: what adjacent ones are, and gather and scatter under a run, a shift and a mask each. Assumes nothing.
use Rattle.std.proofs.Common.{Option, Some, None, refl, ◌≡◌, ℕ, zero, suc, ◌+◌, ◌-◌, ◌*◌, ◌/◌, ◌%◌, ◌^◌, ◌<◌, ◌≤◌, min, sym, ap, ◌∙◌, add-zero, add-suc, mod-lt, arith, pow_pos}
use native.Mathlib.Nat.{min-zero}
use lib.Bits.{bit_and}
use Rattle.laws.proofs.Order.{by_order}
use Rattle.int_bits.specs.Gather.{gather, scatter, bit, count}
use Rattle.int_bits.specs.Meaning.{One, Gathered, Scattered}
use Rattle.int_bits.specs.Run.{Adjacent, Run, Starts, Found}
use Rattle.int_bits.proofs.Bit.{by_bit, bit_lt, bit-shr, bit-and, bit_high, bit-mod, bit_none, bit_up, bit_up_low, bit-shl, same}
use Rattle.int_bits.proofs.Count.{count-suc, count_none, count_lt, nth}
use Rattle.int_bits.proofs.Meaning.{one_at, inside, fewer, gather_only, scatter_only}

-- ---- the ones of a run are adjacent, and adjacent ones are a run

one_within : {m s l p : ℕ} → Run m s l → bit m p ≡ 1 → (s ≤ p) × (p < s + l)
one_within {m} {s} {l} {p} r e = (
  by_order p s (λ q. absurd (omega (arith, r.below p q))) (λ q. q),
  by_order p (s + l) (λ q. q) (λ q. absurd (omega (arith, r.above p q))),
)

pub run_adjacent : {m s l : ℕ} → Run m s l → Adjacent m
run_adjacent {m} {s} {l} r = record {
  between = λ i j k h h' a b. r.inside j (omega (arith, one_within r a)) (omega (arith, one_within r b));
}

-- a run from the lowest one to the last
pub adjacent_run : (w m s : ℕ) → m < 2 ^ w → Adjacent m → One m 0 s → (l : ℕ) × Run m s l
adjacent_run w m s hm adj o = go (nth m w (count m w - 1) (omega (arith, fewer w m hm o)))
  where
    none : (p : ℕ) → p < s → bit m p ≡ 0
    none p h = by_bit _ (bit m p) (bit_lt m p) (λ e. e) (λ e. absurd (omega (arith, count_lt m p s h e, o.below)))

    go : (p : ℕ) × (p < w) × One m (count m w - 1) p → (l : ℕ) × Run m s l
    go (top, h, last) =
        let from : s ≤ top = by_order top s (λ q. absurd (omega (arith, none top q, last.one))) (λ q. q) in (
          suc top - s,
          record {
            below = none;
            inside = λ p l r.
                by_order s p (λ a. by_order p top (λ b. adj.between s p top a b o.one last.one) (λ b. ap (bit m) {x = p} {y = top} (omega arith) ∙ last.one))
                (λ a. ap (bit m) {x = p} {y = s} (omega arith) ∙ o.one);
            above = λ p l.
                by_bit _ (bit m p) (bit_lt m p) (λ e. e)
                (λ e. absurd (omega (arith, fewer w m hm (one_at e), count_lt m top p (omega arith) last.one, last.below)));
          },
        )

pub empty_run : {m : ℕ} → m ≡ 0 → (s : ℕ) → Run m s 0
empty_run {m} e s = record { below = λ p h. off p; inside = λ p h l. absurd (omega arith); above = λ p h. off p }
  where
    off : (p : ℕ) → bit m p ≡ 0
    off p = ap (λ (y : ℕ). bit y p) e ∙ bit_none p

-- ---- one answer keeps the promise of `run_start`

start_le : {m s l s' l' : ℕ} → 0 < m → Run m s l → Run m s' l' → s ≤ s'
start_le {m} {s} {l} {s'} {l'} h r r' =
    by_order 0 l' (λ q. (one_within r (r'.inside s' (omega arith) (omega arith))).0) (λ q. absurd (omega (arith, same m 0 (off q))))
  where
    off : l' ≤ 0 → (p : ℕ) → bit m p ≡ bit 0 p
    off q p = by_order p s' (r'.below p) (λ l. r'.above p (omega arith)) ∙ sym (bit_none p)

pub one_start : {w m r r' : ℕ} → Starts w m r → Starts w m r' → r ≡ r'
one_start {w} {m} {r} {r'} a b =
    by_order r w
    (λ l. by_order 0 m
    (λ h. let (_, x) = a.run l in let (_, y) = b.run (b.if_adjacent (a.only_if_adjacent l)) in omega (arith, start_le h x y, start_le h y x))
    (λ h. let z : m ≡ 0 = omega arith in a.of_none z ∙ sym (b.of_none z)))
    (λ l. let no : Adjacent m → ⊥ = λ adj. omega (arith, a.if_adjacent adj) in a.if_apart no ∙ sym (b.if_apart no))

pub one_found : (w m : ℕ) (a b : Option ℕ) → Found w m a → Found w m b → a ≡ b
one_found w m (Some r) (Some r') (h, a) (h', b) = ap Some (one_start a b)
one_found w m (Some r) None (h, a) b = absurd (omega (arith, one_start a b))
one_found w m None (Some r) a (h, b) = absurd (omega (arith, one_start a b))
one_found w m None None a b = refl

-- a start in a wider word is one within the mask's own width
pub found_below : {v w m r : ℕ} → 0 < w → m < 2 ^ w → (r < v) × Starts v m r → r < w
found_below {w = w} {m = m} {r = r} h hm (l, a) = by_order r w (λ q. q) (λ q. absurd (omega (arith, a.of_none (none q (a.run l).1))))
  where
    none : w ≤ r → {length : ℕ} → Run m r length → m ≡ 0
    none q x = same m 0 (λ p. by_order p r (x.below p) (λ k. bit_high hm (omega arith)) ∙ sym (bit_none p))

-- ---- where the ones of a run stand

module _ {m s l : ℕ} (r : Run m s l) where
  count_in : (t : ℕ) → t ≤ l → count m (s + t) ≡ t
  count_in zero h = ap (count m) (add-zero s) ∙ count_none m s r.below
  count_in (suc t) h = ap (count m) (add-suc s t) ∙ count-suc m (s + t) ∙ omega (arith, count_in t (omega arith), r.inside (s + t) (omega arith) (omega arith))

  -- the (j+1)-th one is j above the start, and there are no more than `length`
  one_in : (j : ℕ) → j < l → One m j (s + j)
  one_in j h = record { one = r.inside (s + j) (omega arith) (omega arith); below = count_in j (omega arith) }

  only_in : {j p : ℕ} → One m j p → (j < l) × (p ≡ s + j)
  only_in {j} {p} o =
      let (low, high) = one_within r o.one in
      let e : p ≡ s + (p - s) = omega arith in
      let c : j ≡ p - s = sym o.below ∙ ap (count m) e ∙ count_in (p - s) (omega arith) in
      (omega arith, omega arith)

  -- ---- what the document says of gather and scatter, under a run

  gathered_run : (x g : ℕ) → ((j : ℕ) → j < l → bit g j ≡ bit x (s + j)) → ((j : ℕ) → l ≤ j → bit g j ≡ 0) → Gathered x m g
  gathered_run x g low high = record {
    at = λ j p o. let (h, e) = only_in o in low j h ∙ ap (bit x) (sym e);
    rest = λ j none. by_order j l (λ h. absurd (none (s + j) (one_in j h))) (high j);
  }

  scattered_run : (x g : ℕ) → ((i : ℕ) → i < l → bit g (s + i) ≡ bit x i) → ((p : ℕ) → bit m p ≡ 0 → bit g p ≡ 0) → Scattered x m g
  scattered_run x g at off = record {
    at = λ i p o. let (h, e) = only_in o in ap (bit g) e ∙ at i h;
    rest = off;
  }

  module _ (w : ℕ) (hm : m < 2 ^ w) (x : ℕ) where
    -- gather under a run is (x / 2^start) mod 2^length
    pub gather-run : gather w x m ≡ x / 2 ^ s % 2 ^ l
    gather-run =
        gather_only w m hm
        (gathered_run x (x / 2 ^ s % 2 ^ l) (λ j h. bit-mod (x / 2 ^ s) l j h ∙ bit-shr x s j) (λ j h. bit_high (mod-lt _ (pow_pos l)) h))

    -- scatter under a run is (x mod 2^length) · 2^start
    pub scatter-run : scatter w x m ≡ x % 2 ^ l * 2 ^ s
    scatter-run = scatter_only w m hm (scattered_run x (x % 2 ^ l * 2 ^ s) (λ i h. bit_up (x % 2 ^ l) s i ∙ bit-mod x l i h) off)
      where
        past : (p : ℕ) → s + l ≤ p → bit (x % 2 ^ l * 2 ^ s) p ≡ 0
        past p h =
            ap (bit (x % 2 ^ l * 2 ^ s)) {x = p} {y = s + (p - s)} (omega arith) ∙ bit_up (x % 2 ^ l) s (p - s)
            ∙ bit_high (mod-lt x (pow_pos l)) (omega arith)

        off : (p : ℕ) → bit m p ≡ 0 → bit (x % 2 ^ l * 2 ^ s) p ≡ 0
        off p e = by_order p s (bit_up_low (x % 2 ^ l) s p) (λ h. by_order p (s + l) (λ k. absurd (omega (arith, r.inside p h k))) (past p))

    -- as the code has them: x AND m shifted down, and x shifted up AND m
    pub shifted_down : bit_and x m / 2 ^ s ≡ gather w x m
    shifted_down =
        sym (gather_only w m hm (gathered_run x (bit_and x m / 2 ^ s)
        (λ j h. at j ∙ rw (r.inside (s + j) (omega arith) (omega arith)) (omega (arith, bit_lt x (s + j))))
        (λ j h. at j ∙ rw (r.above (s + j) (omega arith)) (min-zero _))))
      where
        at : (j : ℕ) → bit (bit_and x m / 2 ^ s) j ≡ min (bit x (s + j)) (bit m (s + j))
        at j = bit-shr (bit_and x m) s j ∙ bit-and x m (s + j)

    pub shifted_up : bit_and ((x * 2 ^ s) % 2 ^ w) m ≡ scatter w x m
    shifted_up =
        sym (scatter_only w m hm (scattered_run x (bit_and ((x * 2 ^ s) % 2 ^ w) m)
        (λ i h. let o = one_in i h in at (s + i) ∙ rw (o.one, bit-shl x s w i (inside w m hm o)) (omega (arith, bit_lt x i)))
        (λ p e. at p ∙ rw e (min-zero _))))
      where
        at : (p : ℕ) → bit (bit_and ((x * 2 ^ s) % 2 ^ w) m) p ≡ min (bit ((x * 2 ^ s) % 2 ^ w) p) (bit m p)
        at p = bit-and ((x * 2 ^ s) % 2 ^ w) m p

-- ---- what `gather` and `scatter` make of the answer of `run_start`

module _ {v m start : ℕ} (w x : ℕ) (hm : m < 2 ^ w) (found : (start < v) × Starts v m start) where
  pub gathered_by_run : {a r : ℕ} → a ≡ bit_and x m → r ≡ a / 2 ^ start → r ≡ gather w x m
  gathered_by_run ea er = rw (er, ea) (shifted_down (found.1.run found.0).1 w hm x)

  pub scattered_by_run : {a r : ℕ} → a ≡ (x * 2 ^ start) % 2 ^ w → r ≡ bit_and a m → r ≡ scatter w x m
  scattered_by_run ea er = rw (er, ea) (shifted_up (found.1.run found.0).1 w hm x)
