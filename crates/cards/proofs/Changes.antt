-- What an accepted write changes, and two writes that are not refused: of the number that is there, and under a full mask of any number.
use mathlib.Core.Path.{◌≡◌, refl, ap, ◌∙◌}
use mathlib.Core.Bool.{false}
use Prim.Native.Nat.{ℕ, ◌-◌, ◌^◌, ◌<◌}
use lib.Count.{ones-ones}
use lib.ListN.{length, length-set}
use lib.Seq.{get_or-set_same, get_or-set_other}
use borrow.Author.Tests.{lt-leb}
use Rattle.std.specs.Prelude.{Ok}
use Rattle.answers.specs.Answers.{Answer}
use Rattle.int_bits.specs.Stored.{stored}
use Rattle.int_bits.proofs.Laws.{gather_ones}
use Rattle.int_bits.proofs.Stored.{gather-stored, stored_off}
use Rattle.cards.specs.Table.{Table, field_word, Seen, seen, too_wide, updated, Reads, Writes}
use Rattle.cards.specs.Accepts.{Readable, Changed}
use Rattle.cards.proofs.Accepts.{write_if, write_only_if, accepted_updates, read_if}

-- a mask has 64 bits
module _ {card mask : ℕ} (fits : mask < 2 ^ 64) {t : Table} where
  module _ {expected : Seen} {new : ℕ} {t' : Table} (p : Writes t card mask expected new (Ok tt) t') where
    -- an accepted write changes the masked bits alone
    pub changes : Changed t card mask new t'
    unfolding updated
    changes =
        let ok = write_only_if p in
        let old = field_word t card in
        let word = stored 64 old mask new in
        let e : t' ≡ updated t card mask new = accepted_updates p in
        let at : field_word (updated t card mask new) card ≡ word = get_or-set_same t card word 0 ok.readable.there in
        record {
          new_number = rw (e, at) (gather-stored 64 mask fits old new ok.narrow_new);
          other_bits = λ i off. rw (e, at) (stored_off 64 mask fits old new i off);
          other_words = λ other d. rw e (get_or-set_other t card other word 0 d);
          same_length = rw (e, length-set);
        }

    -- a read of the same field then gives the new number
    pub then_read : {r : Answer ℕ} → Reads t' card mask r → r ≡ Ok new
    then_read q =
        let ok = (write_only_if p).readable in
        let n : length t' ≡ length t = changes.same_length in
        read_if (record { short = rw n ok.short; there = rw n ok.there; masked = ok.masked }) q ∙ ap Ok changes.new_number

  -- the new number may equal the expected one
  pub same_number : {r : Answer Unit} {t' : Table} → Readable t card mask → Writes t card mask (seen t card mask) (seen t card mask) r t' → r ≡ Ok tt
  same_number ok p =
      let narrow = gather_ones 64 mask fits (field_word t card) in
      write_if (record { readable = ok; narrow_expected = narrow; narrow_new = narrow; unchanged = refl }) p

-- a full mask has 64 ones, and no number of 64 bits is too wide for it
pub full_mask : (number : ℕ) → number < 2 ^ 64 → too_wide number (2 ^ 64 - 1) ≡ false
full_mask number h = rw (ones-ones 64) (lt-leb (2 ^ 64) number h)
