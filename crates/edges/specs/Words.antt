-- The words of entries and of the slices that are lent to calls.
use Rattle.std.specs.Prelude.{◌≡◌, ℕ, ◌+◌, ◌*◌, ◌/◌, ◌%◌, ◌^◌, ◌<◌, cond, List, length, take, drop, nat_lt, slice_index}
use Rattle.fields.specs.Fields.{number}

-- the word of an entry at an index: eight of its bytes; 0 where there are none
unfoldable pub word_at : List ℕ → ℕ → ℕ
word_at words i = cond (nat_lt i (length words / 8)) (number (take 8 (drop (8 * i) words)) % 2 ^ 64) 0

-- the word at an index of a slice that is made from a seed: each is a step above the one before
unfoldable pub made_at : ℕ → ℕ → ℕ
made_at seed i = (seed + i * 0x9E37_79B9_7F4A_7C15) % 2 ^ 64

-- every word is that of a rule
pub record Each (f : ℕ → ℕ) (words : List ℕ) : Type 0 where
  pub at : (i : ℕ) → i < length words → slice_index words i ≡ f i
