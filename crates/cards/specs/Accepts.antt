-- When a read and a guarded write are accepted, and what an accepted write changes, in plain facts.
use Rattle.std.specs.Prelude.{◌≡◌, ℕ, ◌^◌, ◌≤◌, ◌<◌, length, get_or}
use Rattle.std.specs.Int.Count.{ones}
use Rattle.int_bits.specs.Gather.{bit}
use Rattle.cards.specs.Table.{Table, cards, field_word, Seen, seen}

-- none of the refusals 5, 6 and 7 applies
pub record Readable (t : Table) (card mask : ℕ) : Type 0 where
  pub short : length t ≤ 4096
  pub there : card < cards t
  pub masked : mask ≡ 0 → ⊥

-- none of the refusals 5 to 9 applies
pub record Writable (t : Table) (card mask : ℕ) (expected : Seen) (new : ℕ) : Type 0 where
  pub readable : Readable t card mask
  pub narrow_expected : expected < 2 ^ ones mask
  pub narrow_new : new < 2 ^ ones mask
  pub unchanged : seen t card mask ≡ expected

-- t' differs from t in the card's field alone, which holds the new number
pub record Changed (t : Table) (card mask new : ℕ) (t' : Table) : Type 0 where
  pub new_number : seen t' card mask ≡ new
  pub other_bits : (i : ℕ) → bit mask i ≡ 0 → bit (field_word t' card) i ≡ bit (field_word t card) i
  pub other_words : (other : ℕ) → (other ≡ card → ⊥) → get_or t' other 0 ≡ get_or t other 0
  pub same_length : length t' ≡ length t
