-- The loop of `many`: the answers so far stand in front of the output.
use mathlib.Core.Path.{◌≡◌, refl, sym, ap, ◌∙◌}
use mathlib.Core.List.{List, [], ◌∷◌, ◌++◌, append_assoc}
use Prim.Native.Nat.{ℕ, ◌+◌, ◌-◌, ◌*◌, ◌<◌, ◌≤◌, min}
use native.Mathlib.Decide.{dec_le}
use native.Mathlib.Nat.{le_antisymm}
use native.Mathlib.Numerals.{add-one}
use native.Mathlib.Omega.{arith}
use borrow.Author.Tests.{lt-ltb, le-ltb}
use borrow.Rule.Slice.PartMut.{put_mid}
use lib.Dec.{ltb}
use lib.ListN.{length, take, drop, length-append, length-drop, drop_of_length-le}
use lib.Seq.{take_all, take_at, drop_at, drop-drop, take-length, drop-length}
use Rattle.std.specs.Int.{div_ceil}
use Rattle.answers.specs.Reply.{gives, refused, row, leaves}
use Rattle.answers.specs.Answers.{Answer, means}
use Rattle.answers.proofs.Rows.{accepted_only_if}
use Rattle.records.specs.Records.{answers_to, records, answers, reply_to, answer_bytes, Responds, many_reply, Many}
use Rattle.records.proofs.Answers.{length-answers, answers_next}

pub record Answered (input output₀ output : List ℕ) (i : ℕ) : Type 0 where
  pub within : i ≤ records input
  pub room : 9 * records input ≤ length output₀
  pub same : length output ≡ length output₀
  pub is : output ≡ answers_to i input ++ drop (9 * i) output₀

pub answered_start : (input output : List ℕ) → 9 * records input ≤ length output → Answered input output output 0
unfolding answers_to
answered_start input output h = record { within = omega arith; room = h; same = refl; is = refl }

-- what is cut off the front is the next record, or a tail that is too short to be one
chunk_is : (x rest more : List ℕ) → rest ≡ x ++ more → length x ≡ min 17 (length rest) → (x ≡ take 17 rest) × (more ≡ drop 17 rest)
chunk_is x rest more e n = by (dec_le 17 (length rest))
  where
    by : Dec (17 ≤ length rest) → (x ≡ take 17 rest) × (more ≡ drop 17 rest)
    by (yes k) =
        let m : length x ≡ 17 = omega arith in
        (sym (ap (take 17) e ∙ take_at x more 17 m), sym (ap (drop 17) e ∙ drop_at x more 17 m))
    by (no k) =
        let m : length x ≡ length rest = omega arith in
        let front : take (length rest) rest ≡ x = ap (take (length rest)) e ∙ take_at x more (length rest) m in
        let behind : drop (length rest) rest ≡ more = ap (drop (length rest)) e ∙ drop_at x more (length rest) m in
        (sym front ∙ take-length rest ∙ sym (take_all 17 rest (omega arith)), sym behind ∙ drop-length rest ∙ sym (drop_of_length-le rest {i = 17} (omega arith)))

module _ {input output₀ output : List ℕ} {i : ℕ} (a : Answered input output₀ output i) (h : i < records input) where
  next : {ys : List ℕ} → ys ≡ answer_bytes (reply_to (take 17 (drop (17 * i) input))) → Answered input output₀ (put_mid (9 * i) 9 output ys) (i + 1)
  next {ys} e =
      let so_far = answers_to i input in
      let n : length so_far ≡ 9 * i = length-answers i input in
      let front : take (9 * i) output ≡ so_far = ap (take (9 * i)) a.is ∙ take_at so_far (drop (9 * i) output₀) (9 * i) n in
      let past : 9 * i + 9 ≡ 9 * (i + 1) = omega arith in
      let rest : drop 9 (drop (9 * i) output) ≡ drop (9 * (i + 1)) output₀ =
      ap (λ l. drop 9 (drop (9 * i) l)) a.is ∙ ap (drop 9) (drop_at so_far (drop (9 * i) output₀) (9 * i) n) ∙ drop-drop 9 (9 * i) output₀ ∙ ap (λ j. drop j output₀) past in
      let now : put_mid (9 * i) 9 output ys ≡ answers_to (i + 1) input ++ drop (9 * (i + 1)) output₀ =
      rw (front, rest, e, add-one i, answers_next i input, append_assoc) in
      record {
        within = omega arith;
        room = a.room;
        same = ap length now ∙ length-append (answers_to (i + 1) input) (drop (9 * (i + 1)) output₀) ∙ omega (arith, a.room, length-answers (i + 1) input, length-drop (9 * (i + 1)) output₀);
        is = now;
      }

  -- as the code lends the record and the part of the output
  pub answered_next : {x ys : List ℕ} {r : Answer Unit} → x ≡ take 17 (drop (17 * i) input) → Responds x r ys → Answered input output₀ (put_mid (9 * i) (9 * i + 9 - 9 * i) output ys) (i + 1)
  answered_next {x} {ys} q p =
      let k : 9 * i + 9 - 9 * i ≡ 9 = omega arith in
      rw k (next (p.leaves_answer ∙ ap (λ l. answer_bytes (reply_to l)) q))

-- how many records there are, as the code counts them
pub counted : (input : List ℕ) {n : ℕ} → n ≡ div_ceil (length input) 17 → n ≡ records input
counted input e = omega arith

-- the chunks that are left are the records from the i-th on
pub record Left (input output₀ output rest : List ℕ) (size i : ℕ) : Type 0 where
  pub answered : Answered input output₀ output i
  pub is : rest ≡ drop (17 * i) input
  pub by_record : size ≡ 17

pub left_start : {input output rest : List ℕ} {size i : ℕ} → 9 * records input ≤ length output → rest ≡ input → size ≡ 17 → i ≡ 0 → Left input output output rest size i
left_start {input} {output} h e n z = rw z (record { answered = answered_start input output h; is = e; by_record = n })

module _ {input output₀ output rest : List ℕ} {size i : ℕ} (l : Left input output₀ output rest size i) where
  -- a chunk is left, so a record is
  pub left_more : 0 < length rest → i < records input
  left_more h = let n : length rest ≡ length input - 17 * i = ap length l.is ∙ length-drop (17 * i) input in omega arith

  pub left_next : {x more ys : List ℕ} {size' k i' : ℕ} {r : Answer Unit} → size' ≡ size → rest ≡ x ++ more → length x ≡ min size (length rest) → 0 < length rest → k ≡ i → i' ≡ i + 1 → Responds x r ys →
      Left input output₀ (put_mid (9 * k) (9 * k + 9 - 9 * k) output ys) more size' i'
  left_next {x} {more} s e n h at j p =
      let (front, behind) = chunk_is x rest more e (n ∙ ap (λ k. min k (length rest)) l.by_record) in
      let past : 17 * i + 17 ≡ 17 * (i + 1) = omega arith in
      rw (at, j) (record {
        answered = answered_next l.answered (left_more h) (front ∙ ap (take 17) l.is) p;
        is = behind ∙ ap (drop 17) l.is ∙ drop-drop 17 (17 * i) input ∙ ap (λ k. drop k input) past;
        by_record = s ∙ l.by_record;
      })

  pub left_none : length rest ≡ 0 → records input ≤ i
  left_none h = let n : length rest ≡ length input - 17 * i = ap length l.is ∙ length-drop (17 * i) input in omega arith

module _ (input output : List ℕ) {r : Answer ℕ} where
  pub many_refused : means r ≡ refused 10 → length output < 9 * records input → Many input output r output
  many_refused e h =
      let no_room = lt-ltb (length output) (length (answers input)) (rw (length-answers (records input) input) h) in
      record { replies = e ∙ sym (rw no_room); leaves_output = sym (rw no_room) }

  pub many_answered : {output' : List ℕ} {i : ℕ} → means r ≡ gives (9 * records input) → records input ≤ i →
      Answered input output output' i → Many input output r output'
  many_answered {output'} {i} e k a =
      let n : i ≡ records input = le_antisymm a.within k in
      let long = length-answers (records input) input in
      let room = le-ltb (length output) (length (answers input)) (rw long a.room) in
      record {
        replies = e ∙ sym (rw (room, long));
        leaves_output = a.is ∙ rw (n, room, long);
      }

-- the bytes that `many` says it wrote lie within the output
pub many_within : {input output output' : List ℕ} {r : Answer ℕ} {n : ℕ} → Many input output r output' → means r ≡ gives n → n ≤ length output'
many_within {input} {output} {output'} {n = n} p e =
    let reply : many_reply input output ≡ gives n = sym p.replies ∙ e in
    let (c, q) = accepted_only_if (row 10 (ltb (length output) (length (answers input))) ∷ []) reply in
    let same : length (answers input) ≡ n = cc in
    let rest = drop (length (answers input)) output in
    let is : output' ≡ answers input ++ rest = p.leaves_output ∙ ap (λ m. leaves m (answers input ++ rest) output) reply in
    omega (arith, ap length is ∙ length-append (answers input) rest)
