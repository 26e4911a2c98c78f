-- Demand 3: whatever the interleaving, the table is the one that the accepted redemptions leave, run whole in the order of their writes;
-- in that run each reads the same number and is accepted.
use mathlib.Core.Path.{◌≡◌, refl}
use mathlib.Core.List.{List, []}
use Prim.Native.Nat.{ℕ}
use native.Mathlib.Omega.{arith}
use Rattle.std.specs.Prelude.{Ok, Err}
use Rattle.answers.specs.Answers.{Answer}
use Rattle.answers.specs.declared.Refusal.{Refusal}
use Rattle.cards.specs.Table.{Table, Seen, Reads}
use Rattle.cards.proofs.Once.{one_read}
use Rattle.history.specs.History.{Call, History, none, after, reading}
use Rattle.history.specs.Redemption.{Redemption, Holding, holds, taken, Interleaved, stop, look, start, finish, Runs, nobody, turned_away, redeems, redemptions, Whole, Serial}
use Rattle.history.proofs.Steps.{Does, does, reads_again, refused_stays, one_does}

-- calls that start on an equal table
from : {calls : List Call} {t t₁ t' : Table} → t₁ ≡ t → History t₁ calls t' → History t calls t'
from same h = rw same at h

-- an accepted write is a whole redemption made at that moment, and a refused one is nothing
again : {waiting done : List Holding} {calls : List Call} {t t' : Table} → Interleaved waiting calls done → History t calls t' → Whole t (redemptions done) done t'
again stop none = record { calls = []; runs = nobody; leads = none }
again (look i) (after (reading r) h) = again i h
again (start i) (after (reading r) h) = again i h
again (finish before past r v (Ok tt) own i) (after s h) =
    let more = again i h in
    record { calls = _; runs = redeems (Ok tt) own more.runs; leads = after (reading (reads_again r (does own s))) (after s more.leads) }
again (finish before past r v (Err why) own i) (after s h) = again i (from (refused_stays r (does own s)) h)

-- what a read gives leaves no choice
one_number : {t : Table} {card mask : ℕ} {u v : Seen} → Reads t card mask (Ok u) → Reads t card mask (Ok v) → v ≡ u
one_number p q = let e = one_read p q in cc

not_both : {t : Table} {card mask : ℕ} {v : Seen} {why : Refusal} → Reads t card mask (Ok v) → Reads t card mask (Err why) → ⊥
not_both p q = let e = one_read p q in let z : ◌≡◌ {A = ℕ} 0 1 = cc in omega arith

-- after equal reads, the writes are answered alike and leave the same table
one_redeems : (r : Redemption) {u v : Seen} {a b : Answer Unit} {t t₁ t₂ : Table} → v ≡ u → Does r u a t t₁ → Does r v b t t₂ → (b ≡ a) × (t₂ ≡ t₁)
one_redeems r e d d₂ = one_does r d (rw e at d₂)

joined : (r : Redemption) {u v : Seen} {a b : Answer Unit} {done done₂ : List Holding} {t t₂ : Table} → v ≡ u → b ≡ a → (done₂ ≡ done) × (t₂ ≡ t) →
    (taken b (holds r v) done₂ ≡ taken a (holds r u) done) × (t₂ ≡ t)
joined r e f more = (rw (e, f, more.0), more.1)

-- redemptions that run whole from one table have one outcome
one_run : {rs : List Redemption} {calls others : List Call} {done done₂ : List Holding} {t t' t'' : Table} →
    Runs rs calls done → History t calls t' → Runs rs others done₂ → History t others t'' → (done₂ ≡ done) × (t'' ≡ t')
one_run nobody none nobody none = (refl, refl)
one_run (turned_away x) (after (reading p) h) (turned_away y) (after (reading q) g) = one_run x h y g
one_run (turned_away x) (after (reading p) h) (redeems b own₂ y) (after (reading q) g) = absurd (not_both q p)
one_run (redeems a own x) (after (reading p) h) (turned_away y) (after (reading q) g) = absurd (not_both p q)
one_run (redeems {r} a own x) (after (reading p) (after s h)) (redeems b own₂ y) (after (reading q) (after s₂ g)) =
    let e = one_number p q in
    let (same, left) = one_redeems r e (does own s) (does own₂ s₂) in
    joined r e same (one_run x h y (from left g))

pub one_outcome : {t : Table} {rs : List Redemption} {done done₂ : List Holding} {t' t'' : Table} → Whole t rs done t' → Whole t rs done₂ t'' → (done₂ ≡ done) × (t'' ≡ t')
one_outcome w x = one_run w.runs w.leads x.runs x.leads

-- with no redemption under way at the start
pub demand_3 : (t : Table) (calls : List Call) (t' : Table) (done : List Holding) → History t calls t' → Interleaved [] calls done → Serial t done t'
demand_3 t calls t' done h i = let w = again i h in record { again = w; only = λ done'' t'' x. one_outcome w x }

-- a whole run is one of the interleavings
pub whole_interleaves : {rs : List Redemption} {calls : List Call} {done : List Holding} → Runs rs calls done → Interleaved [] calls done
whole_interleaves nobody = stop
whole_interleaves (turned_away x) = look (whole_interleaves x)
whole_interleaves (redeems {r} {v = v} a own x) = start (finish [] [] r v a own (whole_interleaves x))
