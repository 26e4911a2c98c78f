-- A word with a number stored in a field of it: document 01's guarded write.
use Rattle.std.specs.Prelude.{ℕ, ◌+◌, ◌-◌}
use Rattle.std.specs.Int.Bits.{bit_and}
use Rattle.int_bits.specs.Gather.{scatter}

-- the word without the mask's bits, plus the new number scattered under the mask
unfoldable pub stored : ℕ → ℕ → ℕ → ℕ → ℕ
stored w word mask new = (word - bit_and word mask) + scatter w new mask
