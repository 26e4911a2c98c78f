-- The guarded card table: what a read and a write reply, what a write leaves, and the promises of a field's methods.
use Rattle.std.specs.Prelude.{◌≡◌, Bool, not, List, [], ◌∷◌, ◌++◌, ℕ, ◌^◌, leb, ltb, eqb, length, get_or, set}
use Rattle.std.specs.Int.Count.{ones}
use Rattle.answers.specs.Reply.{Reply, gives, Row, row, unless, leaves}
use Rattle.answers.specs.Answers.{Answer, means}
use Rattle.int_bits.specs.Gather.{gather}
use Rattle.int_bits.specs.Stored.{stored}

-- the words of a table, one for each card
abbrev pub Table : Type 0
Table = List ℕ

-- how many cards a table has
abbrev pub cards : Table → ℕ
cards t = length t

-- the word that holds a card's fields
abbrev pub field_word : Table → ℕ → ℕ
field_word t card = get_or t card 0

-- what a read gives and a write expects: the number in a card's field
abbrev pub Seen : Type 0
Seen = ℕ

abbrev pub seen : Table → ℕ → ℕ → Seen
seen t card mask = gather 64 (field_word t card) mask

-- what is there is not what was expected
abbrev pub differs : Seen → Seen → Bool
differs a b = not (eqb a b)

-- a number is 2^(ones of the mask) or more
abbrev pub too_wide : ℕ → ℕ → Bool
too_wide number mask = leb (2 ^ ones mask) number

-- the refusals of every call on one card's field
unfoldable pub card_rows : Table → ℕ → ℕ → List Row
card_rows t card mask = row 5 (ltb 4096 (length t)) ∷ row 6 (leb (cards t) card) ∷ row 7 (eqb mask 0) ∷ []

-- the further ones of a guarded write: by its numbers' widths, and by what is in the field
abbrev pub field_rows : Table → ℕ → ℕ → Seen → List Row
field_rows t card mask expected = row 9 (differs (seen t card mask) expected) ∷ []

unfoldable pub guard_rows : Table → ℕ → ℕ → Seen → ℕ → List Row
guard_rows t card mask expected new = row 8 (too_wide expected mask) ∷ row 8 (too_wide new mask) ∷ field_rows t card mask expected

abbrev pub write_rows : Table → ℕ → ℕ → Seen → ℕ → List Row
write_rows t card mask expected new = card_rows t card mask ++ guard_rows t card mask expected new

-- the table with a number in a card's field
unfoldable pub updated : Table → ℕ → ℕ → ℕ → Table
updated t card mask new = set t card (stored 64 (field_word t card) mask new)

unfoldable pub read_reply : Table → ℕ → ℕ → Reply Seen
read_reply t card mask = unless (card_rows t card mask) (gives (seen t card mask))

unfoldable pub write_reply : Table → ℕ → ℕ → Seen → ℕ → Reply Unit
write_reply t card mask expected new = unless (write_rows t card mask expected new) (gives tt)

-- the table after a guarded write
abbrev pub written : Table → ℕ → ℕ → Seen → ℕ → Table
written t card mask expected new = leaves (write_reply t card mask expected new) (updated t card mask new) t

-- the promise of `Field::check`: its answer r on the table t
pub record ChecksCard (t : Table) (card mask : ℕ) (r : Answer Unit) : Type 0 where
  pub replies : means r ≡ unless (card_rows t card mask) (gives tt)

-- the promise of `Field::guard_check`
pub record ChecksGuard (t : Table) (card mask : ℕ) (expected : Seen) (new : ℕ) (r : Answer Unit) : Type 0 where
  pub replies : means r ≡ unless (guard_rows t card mask expected new) (gives tt)

-- the promise of `Field::write_check`
pub record ChecksWrite (t : Table) (card mask : ℕ) (expected : Seen) (new : ℕ) (r : Answer Unit) : Type 0 where
  pub replies : means r ≡ write_reply t card mask expected new

-- the promise of `Field::read`
pub record Reads (t : Table) (card mask : ℕ) (r : Answer ℕ) : Type 0 where
  pub replies : means r ≡ read_reply t card mask

-- the promise of `Field::write`: its answer r on the table t, and the table t' that it leaves
pub record Writes (t : Table) (card mask : ℕ) (expected : Seen) (new : ℕ) (r : Answer Unit) (t' : Table) : Type 0 where
  pub replies : means r ≡ write_reply t card mask expected new
  pub leaves_table : t' ≡ written t card mask expected new
