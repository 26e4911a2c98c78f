-- One undoes the other, and how wide a gathered number is. Each from what its bits are. Assumes nothing.
use mathlib.Core.Path.{◌≡◌, sym, ◌∙◌}
use Prim.Native.Nat.{ℕ, ◌%◌, ◌^◌, ◌<◌}
use native.Mathlib.Nat.{mod-lt, min-zero}
use native.Mathlib.Omega.{arith}
use lib.Bits.{bit_and}
use lib.Count.{ones}
use lib.Pow.{pow_pos}
use Rattle.int_bits.specs.Gather.{gather, scatter, bit, count}
use Rattle.int_bits.specs.Meaning.{Gathered, Scattered}
use Rattle.int_bits.proofs.Bit.{bit_lt, bit-and, bit_high, bit-mod}
use Rattle.int_bits.proofs.Count.{count_ones}
use Rattle.int_bits.proofs.Recursion.{gather_lt}
use Rattle.int_bits.proofs.Meaning.{fewer, by_place, gather_is, gather_only, scatter_is, scatter_only}

module _ (w m : ℕ) (hm : m < 2 ^ w) (x : ℕ) where
  -- a gathered number is below 2^(ones of m)
  pub gather_ones : gather w x m < 2 ^ ones m
  gather_ones = rw (count_ones w m hm) at (gather_lt w x m)

  -- the bits of x off m do not matter
  pub gather_under : gather w (bit_and x m) m ≡ gather w x m
  gather_under = gather_only w m hm is
    where
      is : Gathered (bit_and x m) m (gather w x m)
      is = record {
        at = λ j p o. (gather_is w m hm x).at j p o ∙ sym (bit-and x m p ∙ rw o.one (omega (arith, bit_lt x p)));
        rest = (gather_is w m hm x).rest;
      }

  -- scatter after gather is x AND m
  pub scatter-gather : scatter w (gather w x m) m ≡ bit_and x m
  scatter-gather = scatter_only w m hm is
    where
      is : Scattered (gather w x m) m (bit_and x m)
      is = record {
        at = λ i p o. bit-and x m p ∙ rw o.one (omega (arith, bit_lt x p)) ∙ sym ((gather_is w m hm x).at i p o);
        rest = λ p e. bit-and x m p ∙ rw e (min-zero (bit x p));
      }

  -- gather after scatter keeps the lowest bits of x, as many as m has ones
  pub gather-scatter : gather w (scatter w x m) m ≡ x % 2 ^ ones m
  gather-scatter = gather_only w m hm (rw (← count_ones w m hm) is)
    where
      is : Gathered (scatter w x m) m (x % 2 ^ count m w)
      is = record {
        at = λ j p o. bit-mod x (count m w) j (fewer w m hm o) ∙ sym ((scatter_is w m hm x).at j p o);
        rest = λ j none. by_place w m hm _ j (λ p o. absurd (none p o)) (bit_high (mod-lt x (pow_pos (count m w))));
      }

  -- a scattered number has no bits but under m
  pub scatter_under : bit_and (scatter w x m) m ≡ scatter w x m
  scatter_under = sym (scatter_only w m hm is)
    where
      is : Scattered x m (bit_and (scatter w x m) m)
      is = record {
        at = λ i p o. bit-and (scatter w x m) m p ∙ rw (o.one, (scatter_is w m hm x).at i p o) (omega (arith, bit_lt x i));
        rest = λ p e. bit-and (scatter w x m) m p ∙ rw e (min-zero _);
      }
