-- A redemption's write, whichever call it is: what its answer says, and that it is answered in one way.
use mathlib.Core.Path.{◌≡◌}
use Rattle.std.specs.Prelude.{Ok, Err}
use Rattle.answers.specs.Answers.{Answer}
use Rattle.answers.specs.declared.Refusal.{Refusal}
use Rattle.cards.specs.Table.{Table, Seen, Reads, Writes}
use Rattle.cards.proofs.Accepts.{read_at_write}
use Rattle.cards.proofs.Accepts.{refused_stays as write-stays}
use Rattle.cards.proofs.Once.{one_write}
use Rattle.history.specs.History.{Call, Step, writing}
use Rattle.history.specs.Redemption.{Redemption, Own, plainly}

-- the promise that the write of r keeps, having read v
abbrev pub Does : Redemption → Seen → Answer Unit → Table → Table → Type 0
Does r v a t t' = Writes t r.card r.mask v (r.next v) a t'

pub does : {r : Redemption} {v : Seen} {a : Answer Unit} {call : Call} {t t' : Table} → Own r v a call → Step t call t' → Does r v a t t'
does plainly (writing w) = w

module _ (r : Redemption) {v : Seen} {t : Table} where
  -- accepted: a read at that moment gives what r read
  pub reads_again : {t' : Table} → Does r v (Ok tt) t t' → Reads t r.card r.mask (Ok v)
  reads_again d = read_at_write d

  -- refused: the table stays
  pub refused_stays : {why : Refusal} {t' : Table} → Does r v (Err why) t t' → t' ≡ t
  refused_stays d = write-stays d

  pub one_does : {a b : Answer Unit} {t₁ t₂ : Table} → Does r v a t t₁ → Does r v b t t₂ → (b ≡ a) × (t₂ ≡ t₁)
  one_does d e = one_write e d
