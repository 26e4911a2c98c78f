-- The stages of the code, of which stage k moves bits by 2^k: the mask of each, and what the stages do under any masks.
use Rattle.std.specs.Prelude.{◌≡◌, List, [], ◌∷◌, ◌++◌, ℕ, zero, suc, ◌+◌, ◌-◌, ◌*◌, ◌/◌, ◌%◌, ◌^◌, ◌≤◌, get_or}
use Rattle.std.specs.Int.Bits.{bit_and, bit_xor}
use Rattle.int_bits.specs.Gather.{bit, count}

-- w bits take s stages: one for each power of 2 below w
pub record Width (w s : ℕ) : Type 0 where
  pub power : w ≡ 2 ^ s
  pub small : w ≤ 64

-- the number whose bits below w are f 0, f 1, f 2 and so on
unfoldable pub from_bits : ℕ → (ℕ → ℕ) → ℕ
from_bits zero f = 0
from_bits (suc w) f = f w * 2 ^ w + from_bits w f

-- the w bits of m, each turned over
abbrev pub flip : ℕ → ℕ → ℕ
flip w m = (2 ^ w - 1) - m

-- the mask of stage k: bit j is bit k of the count of zeros below j + 2^k among the w bits of m
unfoldable pub stage_mask : ℕ → ℕ → ℕ → ℕ
stage_mask w m k = from_bits w (λ j. bit (count (flip w m) (j + 2 ^ k)) k)

-- the masks of the stages below s
unfoldable pub stage_masks : ℕ → ℕ → ℕ → List ℕ
stage_masks w m zero = []
stage_masks w m (suc s) = stage_masks w m s ++ (stage_mask w m s ∷ [])

-- the bits of x under the mask moved down by n, and up by n within the width
unfoldable pub moved_down : ℕ → ℕ → ℕ → ℕ
moved_down n mask x = bit_xor (bit_xor x (bit_and x mask)) (bit_and x mask / 2 ^ n)

unfoldable pub moved_up : ℕ → ℕ → ℕ → ℕ → ℕ
moved_up w n mask x = bit_xor (bit_xor x (bit_and x mask)) ((bit_and x mask * 2 ^ n) % 2 ^ w)

-- x after the stages below s: bits go down from the first stage to the last, and up from the last to the first
unfoldable pub extract_stages : ℕ → List ℕ → ℕ → ℕ
extract_stages zero masks x = x
extract_stages (suc s) masks x = moved_down (2 ^ s) (get_or masks s 0) (extract_stages s masks x)

unfoldable pub deposit_stages : ℕ → ℕ → List ℕ → ℕ → ℕ
deposit_stages w zero masks x = x
deposit_stages w (suc s) masks x = deposit_stages w s masks (moved_up w (2 ^ s) (get_or masks s 0) x)
