-- A word with a number stored in a field: it fits, the field holds the number, and the other bits are the word's. Assumes nothing.
use mathlib.Core.Path.{◌≡◌, sym, ap, ◌∙◌}
use Prim.Native.Nat.{ℕ, ◌+◌, ◌-◌, ◌%◌, ◌^◌, ◌<◌, min}
use native.Mathlib.Nat.{lt_of_le_of_lt}
use native.Mathlib.Omega.{arith}
use lib.Bits.{bit_and, bit_xor, and_le_l, xor_lt, xor_add_and, xor_disjoint}
use lib.Count.{ones}
use Rattle.int_bits.specs.Gather.{gather, scatter, bit, count}
use Rattle.int_bits.specs.Meaning.{One, Gathered}
use Rattle.int_bits.specs.Stored.{stored}
use Rattle.int_bits.proofs.Bit.{by_bit, bit_lt, bit-and, bit-xor, bit_high, bit_none, same}
use Rattle.int_bits.proofs.Count.{count_ones}
use Rattle.int_bits.proofs.Recursion.{scatter_lt}
use Rattle.int_bits.proofs.Meaning.{one_at, by_place, gather_is, gather_only, scatter_is}
use Rattle.int_bits.proofs.Laws.{scatter-gather}

-- neither the difference nor the sum of `stored` carries: both are XOR

and_twice : (x m : ℕ) → bit_and x (bit_and x m) ≡ bit_and x m
and_twice x m = same _ _ (λ j. simp bit-and (omega arith))

without : (x m : ℕ) → x - bit_and x m ≡ bit_xor x (bit_and x m)
without x m = omega (arith, xor_add_and x (bit_and x m), and_twice x m)

module _ (w mask : ℕ) (hm : mask < 2 ^ w) (word new : ℕ) where
  apart : bit_and (bit_xor word (bit_and word mask)) (scatter w new mask) ≡ 0
  apart = same _ _ (λ j.
      simp (bit-and, bit-xor, bit_none)
      (by_bit _ (bit mask j) (bit_lt mask j)
      (λ e. omega (arith, (scatter_is w mask hm new).rest j e)) (λ e. omega (arith, bit_lt word j))))

  as_xor : stored w word mask new ≡ bit_xor (bit_xor word (bit_and word mask)) (scatter w new mask)
  unfolding stored
  as_xor = rw (without word mask) (sym (xor_disjoint _ _ apart))

  stored_bit : (p : ℕ) → bit (stored w word mask new) p ≡ ((bit word p + min (bit word p) (bit mask p)) % 2 + bit (scatter w new mask) p) % 2
  stored_bit p = rw as_xor (simp (bit-xor, bit-and))

  -- a bit off the mask is the word's
  pub stored_off : (p : ℕ) → bit mask p ≡ 0 → bit (stored w word mask new) p ≡ bit word p
  stored_off p e = omega (arith, stored_bit p, (scatter_is w mask hm new).rest p e, bit_lt word p)

  -- the bit at the (i+1)-th one of the mask is bit i of the number
  pub stored_at : (i p : ℕ) → One mask i p → bit (stored w word mask new) p ≡ bit new i
  stored_at i p o = omega (arith, o.one, stored_bit p, (scatter_is w mask hm new).at i p o, bit_lt word p, bit_lt new i)

  pub stored_lt : word < 2 ^ w → stored w word mask new < 2 ^ w
  stored_lt h = rw as_xor (xor_lt w _ _ (xor_lt w word _ h (lt_of_le_of_lt (and_le_l word mask) h)) (scatter_lt w new mask))

  -- the field holds the number, if the mask has ones enough for it
  pub gather-stored : new < 2 ^ ones mask → gather w (stored w word mask new) mask ≡ new
  gather-stored h = gather_only w mask hm is
    where
      is : Gathered (stored w word mask new) mask new
      is = record {
        at = λ j p o. sym (stored_at j p o);
        rest = λ j none. by_place w mask hm _ j (λ p o. absurd (none p o)) (bit_high (rw (← count_ones w mask hm) at h));
      }

  -- no other word holds the number in the field and has the word's bits off the mask
  pub stored_only : {other : ℕ} → gather w other mask ≡ new → ((p : ℕ) → bit mask p ≡ 0 → bit other p ≡ bit word p) → other ≡ stored w word mask new
  stored_only {other} e off =
      same _ _ (λ p.
      by_bit _ (bit mask p) (bit_lt mask p)
      (λ z. off p z ∙ sym (stored_off p z))
      (λ o. sym ((gather_is w mask hm other).at _ p (one_at o)) ∙ ap (λ n. bit n (count mask p)) e ∙ sym (stored_at _ p (one_at o))))

-- a word with its own field stored again is the same word
pub stored_same : (w mask : ℕ) → mask < 2 ^ w → (word : ℕ) → stored w word mask (gather w word mask) ≡ word
unfolding stored
stored_same w mask hm word = rw (scatter-gather w mask hm word) (omega (arith, and_le_l word mask))
