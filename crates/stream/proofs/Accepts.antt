-- `feed` and `end` are accepted exactly when the count is at most 16 and there is room. What an accepted call leaves, that a
-- refused one changes nothing, and that the promise leaves no choice.
use mathlib.Core.Path.{◌≡◌, refl, sym, ap, ap₂, ◌∙◌}
use mathlib.Core.Logic.{◌⊎◌, inl, inr}
use mathlib.Core.List.{List, [], ◌++◌}
use Prim.Native.Nat.{ℕ, ◌*◌, ◌/◌, ◌≤◌, ◌<◌}
use native.Mathlib.Omega.{arith}
use borrow.Author.Tests.{lt-ltb, le-ltb}
use lib.ListN.{length, take, drop, length-append}
use lib.Seq.{take_at}
use Rattle.std.specs.Prelude.{Ok, Err}
use Rattle.laws.proofs.Order.{by_order}
use Rattle.answers.specs.Reply.{refused, natural, leaves}
use Rattle.answers.specs.Answers.{Answer, means}
use Rattle.answers.specs.declared.Refusal.{Refusal}
use Rattle.answers.proofs.Rows.{accepted_if, accepted_only_if}
use Rattle.answers.proofs.Once.{one_answer}
use Rattle.records.specs.Records.{answer_bytes, answers_to, answers}
use Rattle.records.proofs.Answers.{answers-tail}
use Rattle.stream.specs.declared.Stream.{Stream}
use Rattle.stream.specs.Stream.{Fed, outcome, kept, keeping, whole, in_front, take_rows, take_reply, Takes, Feeds, Ends, Feedable, Endable}
use Rattle.stream.specs.Cuttings.{wrote}
use Rattle.stream.proofs.Calls.{Free, rows_clear, clear_rows}
use Rattle.stream.proofs.Whole.{whole_answers, tail_room, room_tail, kept_short, keeping_short}

-- an answer is a number or a refusal, and has one of them
number_or_refusal : {a : Answer ℕ} {n : ℕ} {why : Refusal} → a ≡ Ok n → a ≡ Err why → ⊥
number_or_refusal e f = let z : ◌≡◌ {A = ℕ} 0 1 = cc in omega arith

same : {a : Answer ℕ} {k l : Refusal} → a ≡ Err k → a ≡ Err l → k ≡ l
same e f = cc

apart : Refusal.WrongLength ≡ Refusal.NoRoom → ⊥
apart e = let z : ◌≡◌ {A = ℕ} 0 1 = cc in omega arith

module _ {s : Stream} {input left output : List ℕ} {r : Fed} {output' : List ℕ} (p : Takes s input left output r output') where
  abbrev Ready : Type 0
  Ready = Free s.count (length (answers input)) (length output)

  pub state_by : {a : Answer ℕ} → r.reply ≡ a → r.state ≡ leaves (means a) (keeping left) s
  state_by e = p.next_state ∙ ap (λ m. leaves m (keeping left) s) (sym p.replies ∙ ap means e)

  output_by : {a : Answer ℕ} → r.reply ≡ a → output' ≡ leaves (means a) (in_front input output) output
  output_by e = p.leaves_output ∙ ap (λ m. leaves m (in_front input output) output) (sym p.replies ∙ ap means e)

  -- accepted exactly when the count is at most 16 and there is room
  pub accepted_when : Ready → r.reply ≡ Ok (length (answers input))
  unfolding take_reply
  accepted_when ok = one_answer p.replies (sym (accepted_if (take_rows s.count (length (answers input)) (length output)) (rows_clear ok)))

  pub only_when : {n : ℕ} → r.reply ≡ Ok n → Ready
  unfolding take_reply
  only_when e = clear_rows (accepted_only_if (take_rows s.count (length (answers input)) (length output)) (sym p.replies ∙ ap means e)).0

  -- refused with 13 exactly where the count is above 16, with 10 exactly where it is not and room is lacking, and with no other number
  pub refused_13 : 16 < s.count → r.reply ≡ Err Refusal.WrongLength
  unfolding take_reply
  refused_13 h = one_answer p.replies (sym (rw (lt-ltb 16 s.count h)))

  pub refused_10 : s.count ≤ 16 → length output < length (answers input) → r.reply ≡ Err Refusal.NoRoom
  unfolding take_reply
  refused_10 h k = one_answer p.replies (sym (rw (le-ltb 16 s.count h, lt-ltb (length output) (length (answers input)) k)))

  by_reason : {P : Type 0} → (16 < s.count → r.reply ≡ Err Refusal.WrongLength → P) →
      (s.count ≤ 16 → length output < length (answers input) → r.reply ≡ Err Refusal.NoRoom → P) →
      (r.reply ≡ Ok (length (answers input)) → P) → P
  by_reason f g k =
      by_order 16 s.count (λ h. f h (refused_13 h))
      (λ h. by_order (length output) (length (answers input)) (λ l. g h l (refused_10 h l)) (λ l. k (accepted_when (record { short = h; enough = l }))))

  pub only_13 : r.reply ≡ Err Refusal.WrongLength → 16 < s.count
  only_13 e = by_reason (λ h f. h) (λ h l f. absurd (apart (same e f))) (λ f. absurd (number_or_refusal f e))

  pub only_10 : r.reply ≡ Err Refusal.NoRoom → (s.count ≤ 16) × (length output < length (answers input))
  only_10 e = by_reason (λ h f. absurd (apart (same f e))) (λ h l f. (h, l)) (λ f. absurd (number_or_refusal f e))

  pub no_other : {why : Refusal} → r.reply ≡ Err why → (why ≡ Refusal.WrongLength) ⊎ (why ≡ Refusal.NoRoom)
  no_other e = by_reason (λ h f. inl (same e f)) (λ h l f. inr (same e f)) (λ f. absurd (number_or_refusal f e))

  -- refused, it changes nothing
  pub stays : {why : Refusal} → r.reply ≡ Err why → (r.state ≡ s) × (output' ≡ output)
  stays e = (state_by e, output_by e)

  -- accepted, it keeps what is left, and wrote the answers
  pub keeps_left : Ready → r.state ≡ keeping left
  keeps_left ok = state_by (accepted_when ok)

  pub wrote_answers : Ready → wrote r output' ≡ answers input
  wrote_answers ok =
      ap (λ a. take (natural (means a)) output') (accepted_when ok) ∙ ap (take (length (answers input))) (output_by (accepted_when ok))
      ∙ take_at (answers input) (drop (length (answers input)) output) (length (answers input)) refl

  -- from a count of at most 16 it leaves one, accepted or refused
  pub leaves_short : length left ≤ 16 → s.count ≤ 16 → r.state.count ≤ 16
  leaves_short h k = by r.reply refl
    where
      by : (a : Answer ℕ) → r.reply ≡ a → r.state.count ≤ 16
      by (Ok n) e = rw (state_by e) (keeping_short left h)
      by (Err why) e = rw (state_by e) k

  -- what it says that it wrote lies within the output
  pub within : natural (means r.reply) ≤ length output'
  within = by r.reply refl
    where
      by : (a : Answer ℕ) → r.reply ≡ a → natural (means r.reply) ≤ length output'
      by (Ok n) e =
          let long = ap length (output_by e) ∙ length-append (answers input) (drop (length (answers input)) output) in
          let size : Ok n ≡ Ok (length (answers input)) = sym e ∙ accepted_when (only_when e) in
          rw e (omega (arith, ap (λ a. natural (means a)) size))
      by (Err why) e = rw e (omega arith)

-- one outcome
pub one_outcome : {s : Stream} {input left output x y : List ℕ} {r q : Fed} → Takes s input left output r x → Takes s input left output q y → (r ≡ q) × (x ≡ y)
one_outcome p q = (ap₂ outcome (p.next_state ∙ sym q.next_state) (one_answer p.replies q.replies), p.leaves_output ∙ sym q.leaves_output)

-- ---- `feed` and `end` in plain facts

module _ {s : Stream} {fragment output : List ℕ} where
  pub feed_free : Feedable s fragment output → Free s.count (length (answers (whole (kept s ++ fragment)))) (length output)
  feed_free ok = record { short = ok.short; enough = rw (whole_answers (kept s ++ fragment)) ok.room }

  module _ {r : Fed} {output' : List ℕ} (p : Feeds s fragment output r output') where
    pub feed_if : Feedable s fragment output → r.reply ≡ Ok (9 * (length (kept s ++ fragment) / 17))
    feed_if ok = accepted_when p (feed_free ok) ∙ ap Ok (whole_answers (kept s ++ fragment))

    pub feed_only_if : {n : ℕ} → r.reply ≡ Ok n → Feedable s fragment output
    feed_only_if e = let ok = only_when p e in record { short = ok.short; room = rw (whole_answers (kept s ++ fragment)) at ok.enough }

module _ {s : Stream} {output : List ℕ} where
  pub end_free : Endable s output → Free s.count (length (answers (kept s))) (length output)
  end_free ok = record { short = ok.short; enough = tail_room (kept s) (length output) (kept_short s ok.short) ok.room }

  module _ {r : Fed} {output' : List ℕ} (p : Ends s output r output') where
    pub end_if : Endable s output → r.reply ≡ Ok (length (answers (kept s)))
    end_if ok = accepted_when p (end_free ok)

    -- bytes that are left over are answered as a short tail is, and where none are nothing is written
    pub end_left_over : Endable s output → 0 < length (kept s) → wrote r output' ≡ answer_bytes (refused 13)
    end_left_over ok h = wrote_answers p (end_free ok) ∙ answers-tail (kept s) h (omega (arith, kept_short s ok.short))

    pub end_none_left : Endable s output → kept s ≡ [] → wrote r output' ≡ []
    unfolding answers_to
    end_none_left ok e = wrote_answers p (end_free ok) ∙ ap answers e

    pub end_only_if : {n : ℕ} → r.reply ≡ Ok n → Endable s output
    end_only_if e = let ok = only_when p e in record { short = ok.short; room = room_tail (kept s) (length output) ok.enough }
