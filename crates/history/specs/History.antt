-- Histories of a card table: calls that come one at a time, with their answers, each of which keeps the promise that its function ensures.
use Rattle.std.specs.Prelude.{List, [], ◌∷◌, ℕ}
use Rattle.answers.specs.Answers.{Answer}
use Rattle.cards.specs.Table.{Table, Seen, Reads, Writes}

-- a call that was made: its arguments and its answer
pub data Call : Type 0 where
  reads : (card mask : ℕ) → Answer ℕ → Call
  writes : (card mask : ℕ) (expected : Seen) (new : ℕ) → Answer Unit → Call

-- `Step t call t'`: made on the table t, the call keeps its function's promise and leaves t'; a read is lent the table as `&`, so it stays
pub data Step : Table → Call → Table → Type 0 where
  reading : {t : Table} {card mask : ℕ} {a : Answer ℕ} → Reads t card mask a → Step t (reads card mask a) t
  writing : {t t' : Table} {card mask : ℕ} {expected : Seen} {new : ℕ} {a : Answer Unit} →
      Writes t card mask expected new a t' → Step t (writes card mask expected new a) t'

-- `History t calls t'`: the calls lead from t to t', and nothing else writes the table
pub data History : Table → List Call → Table → Type 0 where
  none : {t : Table} → History t [] t
  after : {t t₁ t' : Table} {call : Call} {calls : List Call} → Step t call t₁ → History t₁ calls t' → History t (call ∷ calls) t'
