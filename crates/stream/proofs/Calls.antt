-- What `feed` and `end` promise, from the check of the count and what `records::many` promises of the answers.
use mathlib.Core.Path.{◌≡◌, refl, sym, ap, ◌∙◌, subst}
use mathlib.Core.Bool.{Bool, true, false, cond}
use mathlib.Core.List.{List, [], ◌∷◌, ◌++◌}
use Prim.Native.Nat.{ℕ, ◌≤◌}
use borrow.Author.Tests.{le-ltb, ltb-false}
use lib.Dec.{ltb}
use Rattle.std.specs.Prelude.{Err}
use Rattle.answers.specs.Reply.{Reply, gives, refused, row, unless, leaves}
use Rattle.answers.specs.Answers.{Answer, number_of, means}
use Rattle.answers.specs.declared.Refusal.{Refusal}
use Rattle.answers.proofs.Rows.{Clear, clash}
use Rattle.records.specs.Records.{many_reply, Many}
use Rattle.stream.specs.declared.Stream.{Stream}
use Rattle.stream.specs.Stream.{outcome, kept, kept_reply, keeping, whole, rest, in_front, take_rows, take_reply, Takes, Feeds, Ends}

-- the count is at most 16, and there is room for answers of a size
pub record Free (count size room : ℕ) : Type 0 where
  pub short : count ≤ 16
  pub enough : size ≤ room

module _ {count size room : ℕ} where
  pub rows_clear : Free count size room → Clear (take_rows count size room)
  rows_clear ok = (le-ltb 16 count ok.short, (le-ltb room size ok.enough, tt))

  pub clear_rows : Clear (take_rows count size room) → Free count size room
  clear_rows c = record { short = ltb-false 16 count c.0; enough = ltb-false room size c.1.0 }

module _ (s : Stream) where
  -- accepted, the count is at most 16, and these are its bytes
  pub counted : {b : List ℕ} → gives b ≡ kept_reply s → (ltb 16 s.count ≡ false) × (b ≡ kept s)
  counted {b} e = go (ltb 16 s.count) e
    where
      go : (t : Bool) → gives b ≡ cond t (refused 13) (gives (kept s)) → (t ≡ false) × (b ≡ kept s)
      go true e = absurd (clash (sym e))
      go false e = (refl, (let same : b ≡ kept s = cc in same))

  -- refused, it is refused whatever follows
  miscounted : {k : ℕ} {B : Type 0} (q : Reply B) → refused k ≡ kept_reply s → refused k ≡ unless (row 13 (ltb 16 s.count) ∷ []) q
  miscounted {k} q e = go (ltb 16 s.count) e
    where
      go : (t : Bool) → refused k ≡ cond t (refused 13) (gives (kept s)) → refused k ≡ cond t (refused 13) q
      go true e = let same : k ≡ 13 = cc in ap refused same
      go false e = absurd (clash e)

-- a call acts by its reply
acts : {s : Stream} {input left output : List ℕ} {r : Answer ℕ} {next : Stream} {output' : List ℕ} → means r ≡ take_reply s input output →
    next ≡ leaves (means r) (keeping left) s → output' ≡ leaves (means r) (in_front input output) output → Takes s input left output (outcome next r) output'
acts {s} {input} {left} {output} e f g = record {
  replies = e;
  next_state = f ∙ ap (λ m. leaves m (keeping left) s) e;
  leaves_output = g ∙ ap (λ m. leaves m (in_front input output) output) e;
}

-- where the count is refused the call is
pub count_refused : {s : Stream} {input left output : List ℕ} {why : Refusal} → refused (number_of why) ≡ kept_reply s → Takes s input left output (outcome s (Err why)) output
unfolding take_reply
count_refused {s} {input} {output = output} e = acts (miscounted s (many_reply input output) e) refl refl

-- where it is accepted the call replies as the answers do
module _ {s : Stream} {b : List ℕ} (is : gives b ≡ kept_reply s) {output : List ℕ} {r : Answer ℕ} {next : Stream} {output' : List ℕ} where
  accepted : {input left : List ℕ} → Many input output r output' → next ≡ leaves (means r) (keeping left) s → Takes s input left output (outcome next r) output'
  unfolding take_reply
  accepted {input} p f =
      acts (p.replies ∙ sym (ap (λ t. cond t (refused 13) (many_reply input output)) (counted s is).0)) f
      (p.leaves_output ∙ ap (λ m. leaves m (in_front input output) output) (sym p.replies))

  pub feed_accepted : (fragment : List ℕ) {input : List ℕ} → input ≡ b ++ fragment → Many (whole input) output r output' →
      next ≡ leaves (means r) (keeping (rest input)) s → Feeds s fragment output (outcome next r) output'
  feed_accepted fragment e p f =
      subst (λ i. Takes s (whole i) (rest i) output (outcome next r) output') (e ∙ ap (λ l. l ++ fragment) (counted s is).1) (accepted p f)

  pub end_accepted : Many b output r output' → next ≡ leaves (means r) (keeping []) s → Ends s output (outcome next r) output'
  end_accepted p f = accepted (subst (λ l. Many l output r output') (counted s is).1 p) f
