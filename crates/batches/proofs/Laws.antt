-- Laws of batches: accepted exactly when the results fit, what then stands where, and that the promises leave no choice.
use mathlib.Core.Path.{◌≡◌, refl, sym, ap, ◌∙◌}
use mathlib.Core.List.{List, map}
use Prim.Native.Nat.{ℕ, ◌-◌}
use native.Mathlib.Omega.{arith}
use lib.ListN.{length, length-map}
use borrow.Author.Tests.{ltb-false, le-ltb}
use Rattle.std.specs.Prelude.{Ok, Err}
use Rattle.std.proofs.lemmas.List.{get_or-map}
use Rattle.laws.specs.Placed.{InPlace}
use Rattle.laws.proofs.Placed.{placed_is, one_placed}
use Rattle.answers.specs.Reply.{leaves}
use Rattle.answers.specs.Answers.{Answer, means}
use Rattle.answers.specs.declared.Refusal.{Refusal}
use Rattle.answers.proofs.Rows.{accepted_if, accepted_only_if}
use Rattle.answers.proofs.Once.{one_answer}
use Rattle.batches.specs.Batch.{room_rows, room_reply, placed, ChecksRoom, Batches, Room, Stands}

-- ---- the check: accepted exactly where there is room

module _ {count size place : ℕ} where
  pub room : {r : Answer Unit} → ChecksRoom count size place r → r ≡ Ok tt → Room count size place
  unfolding room_reply
  room p e =
      let (c, _) = accepted_only_if (room_rows count size place) (sym p.replies ∙ ap means e) in
      record { inside = ltb-false size place c.0; enough = ltb-false (size - place) count c.1.0 }

  pub room_accepted : Room count size place → ChecksRoom count size place (Ok tt)
  unfolding room_reply
  room_accepted ok = record { replies = sym (accepted_if (room_rows count size place) (le-ltb size place ok.inside, (le-ltb (size - place) count ok.enough, tt))) }

  pub one_check : {r s : Answer Unit} → ChecksRoom count size place r → ChecksRoom count size place s → r ≡ s
  one_check p q = one_answer p.replies q.replies

-- an empty source fits at the very end
pub empty_at_end : (size : ℕ) → Room 0 size size
empty_at_end size = record { inside = omega arith; enough = omega arith }

-- ---- a batch

module _ {f : ℕ → ℕ} {source destination : List ℕ} {place : ℕ} where
  checked : {r : Answer Unit} {after : List ℕ} → Batches f source destination place r after → ChecksRoom (length source) (length destination) place r
  checked p = record { replies = p.replies }

  left_by : {r : Answer Unit} {after : List ℕ} → Batches f source destination place r after → after ≡ leaves (means r) (placed (map f source) destination place) destination
  left_by p = p.leaves_destination ∙ ap (λ x. leaves x (placed (map f source) destination place) destination) (sym p.replies)

  -- accepted exactly when the place is inside and the source no longer than what remains
  pub batch_if : {r : Answer Unit} {after : List ℕ} → Room (length source) (length destination) place → Batches f source destination place r after → r ≡ Ok tt
  batch_if ok p = one_check (checked p) (room_accepted ok)

  pub batch_only_if : {after : List ℕ} → Batches f source destination place (Ok tt) after → Room (length source) (length destination) place
  batch_only_if p = room (checked p) refl

  -- refused, it changes nothing
  pub refused_stays : {why : Refusal} {after : List ℕ} → Batches f source destination place (Err why) after → after ≡ destination
  refused_stays p = left_by p

  pub one_batch : {r s : Answer Unit} {one two : List ℕ} → Batches f source destination place r one → Batches f source destination place s two → (r ≡ s) × (one ≡ two)
  one_batch p q = (one_answer p.replies q.replies, p.leaves_destination ∙ sym q.leaves_destination)

-- ---- what an accepted batch leaves, word by word

-- the words of a batch in their place are its results in their place
module _ {f : ℕ → ℕ} {source destination : List ℕ} {place : ℕ} {after : List ℕ} where
  results_placed : Stands f source destination place after → InPlace (map f source) destination place after
  results_placed s =
      let m : length (map f source) ≡ length source = length-map source f in
      record { within = λ i h. s.results i (omega arith) ∙ sym (get_or-map f source i 0 0 (omega arith)); before = s.before; behind = λ i h. s.behind i (omega arith); same_length = s.same_length }

  placed_results : InPlace (map f source) destination place after → Stands f source destination place after
  placed_results p =
      let m : length (map f source) ≡ length source = length-map source f in
      record { results = λ i h. p.within i (omega arith) ∙ get_or-map f source i 0 0 h; before = p.before; behind = λ i h. p.behind i (omega arith); same_length = p.same_length }

there : (f : ℕ → ℕ) (source destination : List ℕ) (place : ℕ) → Room (length source) (length destination) place → InPlace (map f source) destination place (placed (map f source) destination place)
there f source destination place ok = placed_is (map f source) destination place (rw (length-map source f) (omega (arith, ok.inside, ok.enough)))

pub stands : {f : ℕ → ℕ} {source destination : List ℕ} {place : ℕ} {after : List ℕ} → Batches f source destination place (Ok tt) after → Stands f source destination place after
stands {f} {source} {destination} {place} p = rw (left_by p) (placed_results (there f source destination place (batch_only_if p)))

-- what stands where determines the destination: nothing but the batch's results in their place stands so
pub stands_only : {f : ℕ → ℕ} {source destination : List ℕ} {place : ℕ} {after : List ℕ} → Room (length source) (length destination) place →
    Stands f source destination place after → after ≡ placed (map f source) destination place
stands_only {f} {source} {destination} {place} ok s = one_placed (results_placed s) (there f source destination place ok)
