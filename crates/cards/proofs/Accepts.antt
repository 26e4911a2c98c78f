-- A read and a guarded write are accepted exactly when none of their refusals applies; and what a check's answer says of the call.
use mathlib.Core.Path.{◌≡◌, refl, sym, ap, ◌∙◌}
use mathlib.Core.Bool.{false, not}
use Prim.Native.Nat.{ℕ, ◌^◌}
use lib.Count.{ones}
use lib.ListN.{length}
use borrow.Author.Tests.{ltb-false, leb-false, eqb-true, eqb-false, not-false, le-ltb, lt-leb, eq-eqb, ne_eqb}
use Rattle.std.specs.Prelude.{Ok, Err}
use Rattle.answers.specs.Reply.{gives, unless, leaves}
use Rattle.answers.specs.Answers.{Answer, means}
use Rattle.answers.specs.declared.Refusal.{Refusal}
use Rattle.answers.proofs.Rows.{Clear, accepted_if, accepted_only_if, in_order, passes_on}
use Rattle.answers.proofs.Once.{one_answer}
use Rattle.cards.specs.Table.{Table, cards, Seen, seen, differs, card_rows, guard_rows, updated, read_reply, write_reply, ChecksCard, ChecksGuard, ChecksWrite, Reads, Writes}
use Rattle.cards.specs.Accepts.{Readable, Writable}

same_seen : {a b : Seen} → differs a b ≡ false → a ≡ b
same_seen {a} {b} e = eqb-true a b (not-false _ e)

not_differs : {a b : Seen} → a ≡ b → differs a b ≡ false
not_differs {a} {b} e = ap not (eq-eqb a b e)

module _ {t : Table} {card mask : ℕ} where
  card_clear : Readable t card mask → Clear (card_rows t card mask)
  unfolding card_rows
  card_clear ok = (le-ltb 4096 (length t) ok.short, (lt-leb (cards t) card ok.there, (ne_eqb mask 0 ok.masked, tt)))

  clear_card : Clear (card_rows t card mask) → Readable t card mask
  unfolding card_rows
  clear_card c = record {
    short = ltb-false 4096 (length t) c.0;
    there = leb-false (cards t) card c.1.0;
    masked = eqb-false mask 0 c.1.1.0;
  }

  -- what the card's check says of a read: accepted, and refused
  pub readable : {r : Answer Unit} → ChecksCard t card mask r → r ≡ Ok tt → Readable t card mask
  readable p e = clear_card (accepted_only_if (card_rows t card mask) (sym p.replies ∙ ap means e)).0

  pub read_refused : {r : Answer Unit} {why : Refusal} → ChecksCard t card mask r → r ≡ Err why → Reads t card mask (Err why)
  unfolding read_reply
  read_refused p e = record {
    replies = passes_on (card_rows t card mask) (λ _. seen t card mask) (gives (seen t card mask)) (ap means (sym e) ∙ p.replies) tt;
  }

  pub read_accepted : {v : Seen} → Readable t card mask → v ≡ seen t card mask → Reads t card mask (Ok v)
  unfolding read_reply
  read_accepted ok e = record { replies = ap gives e ∙ sym (accepted_if (card_rows t card mask) (card_clear ok)) }

  -- a read is accepted exactly when none of 5, 6 and 7 applies, and then gives the number in the field
  pub read_if : {r : Answer ℕ} → Readable t card mask → Reads t card mask r → r ≡ Ok (seen t card mask)
  read_if ok p = one_answer p.replies (read_accepted ok refl).replies

  pub read_only_if : {v : Seen} → Reads t card mask (Ok v) → Readable t card mask
  unfolding read_reply
  read_only_if p = clear_card (accepted_only_if (card_rows t card mask) (sym p.replies)).0

  module _ {expected : Seen} {new : ℕ} where
    guard_clear : Writable t card mask expected new → Clear (guard_rows t card mask expected new)
    unfolding guard_rows
    guard_clear ok =
        (lt-leb (2 ^ ones mask) expected ok.narrow_expected, (lt-leb (2 ^ ones mask) new ok.narrow_new, (not_differs ok.unchanged, tt)))

    -- the card's rows stand first: where one applies it decides, and where none does the guard's rows decide
    pub check_refused : {r : Answer Unit} {why : Refusal} → ChecksCard t card mask r → r ≡ Err why → ChecksWrite t card mask expected new r
    unfolding write_reply
    check_refused p e = record {
      replies =
          ap means e ∙ passes_on (card_rows t card mask) (λ _. tt) (unless (guard_rows t card mask expected new) (gives tt)) (ap means (sym e) ∙ p.replies) tt
          ∙ sym (in_order (card_rows t card mask) (guard_rows t card mask expected new) (gives tt));
    }

    pub check_passed : {r : Answer Unit} → Readable t card mask → ChecksGuard t card mask expected new r → ChecksWrite t card mask expected new r
    unfolding write_reply
    check_passed ok p = record {
      replies = p.replies ∙ sym (in_order (card_rows t card mask) (guard_rows t card mask expected new) (gives tt) ∙ accepted_if (card_rows t card mask) (card_clear ok));
    }

    left_by : {r : Answer Unit} {t' : Table} → Writes t card mask expected new r t' → t' ≡ leaves (means r) (updated t card mask new) t
    left_by p = p.leaves_table ∙ ap (λ x. leaves x (updated t card mask new) t) (sym p.replies)

    -- a write is accepted exactly when none of 5 to 9 applies
    pub write_if : {r : Answer Unit} {t' : Table} → Writable t card mask expected new → Writes t card mask expected new r t' → r ≡ Ok tt
    write_if ok p = one_answer p.replies (check_passed {r = Ok tt} ok.readable (record { replies = sym (accepted_if (guard_rows t card mask expected new) (guard_clear ok)) })).replies

    pub write_only_if : {t' : Table} → Writes t card mask expected new (Ok tt) t' → Writable t card mask expected new
    unfolding write_reply guard_rows
    write_only_if p =
        let (front, rest) = accepted_only_if (card_rows t card mask) (sym (p.replies ∙ in_order (card_rows t card mask) (guard_rows t card mask expected new) (gives tt))) in
        let (guard, _) = accepted_only_if (guard_rows t card mask expected new) rest in
        record {
          readable = clear_card front;
          narrow_expected = leb-false (2 ^ ones mask) expected guard.0;
          narrow_new = leb-false (2 ^ ones mask) new guard.1.0;
          unchanged = same_seen guard.1.1.0;
        }

    -- refused, it leaves the table as it was; accepted, with the new number in the field
    pub refused_stays : {why : Refusal} {t' : Table} → Writes t card mask expected new (Err why) t' → t' ≡ t
    refused_stays p = left_by p

    pub accepted_updates : {t' : Table} → Writes t card mask expected new (Ok tt) t' → t' ≡ updated t card mask new
    accepted_updates p = left_by p

    -- where a write is accepted, a read at that moment gives the expected number
    pub read_at_write : {t' : Table} → Writes t card mask expected new (Ok tt) t' → Reads t card mask (Ok expected)
    read_at_write p = let ok = write_only_if p in read_accepted ok.readable (sym ok.unchanged)
