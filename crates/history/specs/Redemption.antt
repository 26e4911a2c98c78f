-- Demand 3's terms: redemptions, the calls that are theirs in any interleaving, redemptions that run whole, and what is claimed.
use Rattle.std.specs.Prelude.{◌≡◌, List, [], ◌∷◌, ◌++◌, ℕ, Ok, Err}
use Rattle.answers.specs.Answers.{Answer}
use Rattle.answers.specs.declared.Refusal.{Refusal}
use Rattle.cards.specs.Table.{Table, Seen}
use Rattle.history.specs.History.{Call, reads, writes, History}

-- one card, one mask, and the new number as a fixed function of what was read; the redemption's own arguments are within that function
pub record Redemption : Type 0 where
  pub card : ℕ
  pub mask : ℕ
  pub next : Seen → ℕ

-- a redemption, and what it read
pub data Holding : Type 0 where
  holds : Redemption → Seen → Holding

-- `Own r v a call`: the call is the write of r, which read v; it expects v, and is answered a
pub data Own (r : Redemption) (v : Seen) (a : Answer Unit) : Call → Type 0 where
  plainly : Own r v a (writes r.card r.mask v (r.next v) a)

-- with the redemption in front whose write was answered so, if it was accepted
abbrev pub taken : Answer Unit → Holding → List Holding → List Holding
taken (Ok tt) h done = h ∷ done
taken (Err why) h done = done

-- `Interleaved waiting calls done`: the calls are redemptions' own, in any order. Those that wait have read and not yet written; `done`
-- are those whose writes are accepted, in the order of these writes, each with what it read.
pub data Interleaved : List Holding → List Call → List Holding → Type 0 where
  -- no more calls; those that still wait never write
  stop : {waiting : List Holding} → Interleaved waiting [] []
  -- a read that starts no redemption, as each one that is refused
  look : {waiting done : List Holding} {calls : List Call} {card mask : ℕ} {a : Answer ℕ} →
      Interleaved waiting calls done → Interleaved waiting (reads card mask a ∷ calls) done
  -- a read that starts the redemption r, which then waits and holds the number read
  start : {waiting done : List Holding} {calls : List Call} {r : Redemption} {v : Seen} →
      Interleaved (holds r v ∷ waiting) calls done → Interleaved waiting (reads r.card r.mask (Ok v) ∷ calls) done
  -- the one write of a redemption that waits; however it is answered, the redemption waits no more
  finish : (before after : List Holding) {done : List Holding} {call : Call} {calls : List Call} (r : Redemption) (v : Seen) (a : Answer Unit) →
      Own r v a call → Interleaved (before ++ after) calls done →
      Interleaved (before ++ holds r v ∷ after) (call ∷ calls) (taken a (holds r v) done)

-- `Runs redemptions calls done`: the redemptions run whole, one after the other, by these calls: each reads, and writes at once if it is
-- given a number. `done` are those whose writes are accepted, each with what it read.
pub data Runs : List Redemption → List Call → List Holding → Type 0 where
  nobody : Runs [] [] []
  turned_away : {r : Redemption} {rest : List Redemption} {calls : List Call} {done : List Holding} {why : Refusal} →
      Runs rest calls done → Runs (r ∷ rest) (reads r.card r.mask (Err why) ∷ calls) done
  redeems : {r : Redemption} {rest : List Redemption} {call : Call} {calls : List Call} {done : List Holding} {v : Seen} (a : Answer Unit) →
      Own r v a call → Runs rest calls done →
      Runs (r ∷ rest) (reads r.card r.mask (Ok v) ∷ call ∷ calls) (taken a (holds r v) done)

abbrev pub redemptions : List Holding → List Redemption
redemptions [] = []
redemptions (holds r v ∷ rest) = r ∷ redemptions rest

-- `Whole t rs done t'`: the redemptions rs can run whole from the table t with this outcome: `done` are accepted, and t' is left
pub record Whole (t : Table) (rs : List Redemption) (done : List Holding) (t' : Table) : Type 0 where
  pub calls : List Call
  pub runs : Runs rs calls done
  pub leads : History t calls t'

-- what demand 3 claims of a table t, the accepted redemptions and the table t' that is left: run whole from t they leave t', and each
-- reads what it read before and is accepted, for `done` is the same list; and that run has no other outcome
pub record Serial (t : Table) (done : List Holding) (t' : Table) : Type 0 where
  pub again : Whole t (redemptions done) done t'
  pub only : (done'' : List Holding) (t'' : Table) → Whole t (redemptions done) done'' t'' → (done'' ≡ done) × (t'' ≡ t')
