-- The promises leave no choice: two answers, and two tables, that one promise allows coincide.
use mathlib.Core.Path.{◌≡◌, sym, ◌∙◌}
use Prim.Native.Nat.{ℕ}
use Rattle.answers.specs.Answers.{Answer}
use Rattle.answers.proofs.Once.{one_answer}
use Rattle.cards.specs.Table.{Table, Seen, ChecksCard, ChecksWrite, Reads, Writes}

module _ {t : Table} {card mask : ℕ} where
  pub one_card_check : {r s : Answer Unit} → ChecksCard t card mask r → ChecksCard t card mask s → r ≡ s
  one_card_check p q = one_answer p.replies q.replies

  pub one_read : {r s : Answer ℕ} → Reads t card mask r → Reads t card mask s → r ≡ s
  one_read p q = one_answer p.replies q.replies

  module _ {expected : Seen} {new : ℕ} {r s : Answer Unit} where
    pub one_write_check : ChecksWrite t card mask expected new r → ChecksWrite t card mask expected new s → r ≡ s
    one_write_check p q = one_answer p.replies q.replies

    pub one_write : {t₁ t₂ : Table} → Writes t card mask expected new r t₁ → Writes t card mask expected new s t₂ → (r ≡ s) × (t₁ ≡ t₂)
    one_write p q = (one_answer p.replies q.replies, p.leaves_table ∙ sym q.leaves_table)
