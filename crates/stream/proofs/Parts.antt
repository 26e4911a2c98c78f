-- What an input's answers promise, from the record that is put together and the others, which stand in the fragment.
use mathlib.Core.Path.{◌≡◌, refl, sym, ap, ap₂, ◌∙◌, subst}
use mathlib.Core.List.{List, [], ◌∷◌, ◌++◌, append_assoc, append-nil}
use Prim.Native.Nat.{ℕ, ◌+◌, ◌-◌, ◌*◌, ◌/◌, ◌<◌, ◌≤◌}
use native.Mathlib.Omega.{arith}
use borrow.Author.Tests.{lt-ltb, le-ltb}
use borrow.Rule.Slice.PartMut.{mid_of, put_mid}
use lib.ListN.{length, take, drop, replicate, length-append, length-drop}
use lib.Seq.{drop_at, take_at, drop-drop, take-add, take-append-add, length-take-le}
use Rattle.std.specs.Prelude.{Ok, Err}
use Rattle.answers.specs.Answers.{Answer}
use Rattle.answers.specs.declared.Refusal.{Refusal}
use Rattle.laws.proofs.Lent.{mid_tail, put_tail}
use Rattle.records.specs.Records.{answers, One, Many}
use Rattle.records.proofs.Answers.{answers-append}
use Rattle.stream.specs.Stream.{whole, in_front}
use Rattle.stream.proofs.Records.{length_whole, one_answer, one_writes, many_writes}
use Rattle.stream.proofs.Whole.{whole_answers}

-- ---- answers of a size

module _ (input output : List ℕ) {size : ℕ} (is : size ≡ length (answers input)) where
  -- they have no room
  pub no_room : length output < size → Many input output (Err Refusal.NoRoom) output
  no_room h =
      let full = lt-ltb (length output) (length (answers input)) (rw (← is) h) in
      record { replies = sym (rw full); leaves_output = sym (rw full) }

  -- they have room, and stand in front of the output
  pub all_written : {output' : List ℕ} → size ≤ length output → output' ≡ in_front input output → Many input output (Ok size) output'
  all_written h e =
      let room = le-ltb (length output) (length (answers input)) (rw (← is) h) in
      record { replies = rw (room, is) refl; leaves_output = e ∙ sym (rw room) }

-- nothing stands in front
nothing : (x output : List ℕ) → length x ≡ 0 → output ≡ x ++ drop (length x) output
nothing [] output h = refl
nothing (a ∷ x) output h = absurd (omega arith)

-- one list stands in front, and then another behind it
behind : (x y output : List ℕ) → x ++ (y ++ drop (length y) (drop (length x) output)) ≡ (x ++ y) ++ drop (length (x ++ y)) output
behind x y output =
    ap (λ l. x ++ (y ++ l)) (drop-drop (length y) (length x) output)
    ∙ sym (append_assoc x y (drop (length x + length y) output)) ∙ ap (λ n. (x ++ y) ++ drop n output) (sym (length-append x y))

-- 9 bytes for each whole record
pub size_is : (input : List ℕ) {past : ℕ} → past ≡ 17 * (length input / 17) → 9 * (past / 17) ≡ length (answers (whole input))
size_is input e = omega (arith, whole_answers input)

-- ---- the first record, put together, and those that stand in the fragment

module _ (kept fragment output : List ℕ) (past : ℕ) (short : length kept ≤ 16) (some : 0 < past) (is : past ≡ 17 * (length (kept ++ fragment) / 17)) (room : 9 * (past / 17) ≤ length output) where
  abbrev a : List ℕ
  a = kept ++ take (17 - length kept) fragment

  abbrev b : List ℕ
  b = take (past - length kept - (17 - length kept)) (drop (17 - length kept) fragment)

  long : past ≤ length kept + length fragment
  long = omega (arith, length-append kept fragment)

  a_is : length a ≡ 17
  a_is = length-append kept (take (17 - length kept) fragment) ∙ omega (arith, long, length-take-le (17 - length kept) fragment (omega (arith, long)))

  b_is : length b ≡ 17 * (past / 17 - 1)
  b_is =
      let e : past - length kept - (17 - length kept) ≡ 17 * (past / 17 - 1) = omega (arith, is) in
      length-take-le (past - length kept - (17 - length kept)) (drop (17 - length kept) fragment) (omega (arith, long, length-drop (17 - length kept) fragment)) ∙ e

  together : a ++ b ≡ whole (kept ++ fragment)
  together =
      let k = 17 - length kept in
      let j = past - length kept - k in
      let e : length kept + (k + j) ≡ past = omega (arith, is) in
      append_assoc kept (take k fragment) b ∙ ap (λ l. kept ++ l) (sym (take-add k j fragment))
      ∙ sym (take-append-add kept fragment (k + j)) ∙ ap (λ i. take i (kept ++ fragment)) (e ∙ is)

  -- the first answer is written, and the others behind it
  answered : {m₁ m₂ : List ℕ} {r₁ : Answer Unit} {r₂ : Answer ℕ} → One a (take 9 output) r₁ m₁ →
      Many b (mid_of 9 (length (m₁ ++ drop 9 output) - 9) (m₁ ++ drop 9 output)) r₂ m₂ →
      put_mid 9 (length (m₁ ++ drop 9 output) - 9) (m₁ ++ drop 9 output) m₂ ≡ in_front (whole (kept ++ fragment)) output
  answered {m₁} {m₂} {r₂ = r₂} p q =
      let nine : length (answers a) ≡ 9 = length_whole 1 a a_is in
      let more : length (answers b) ≡ 9 * (past / 17 - 1) = length_whole (past / 17 - 1) b b_is in
      let one : m₁ ≡ answers a = one_writes p a_is (length-take-le 9 output (omega arith)) ∙ sym (one_answer a a_is) in
      let long : length m₁ ≡ 9 = ap length one ∙ nine in
      let tail : mid_of 9 (length (m₁ ++ drop 9 output) - 9) (m₁ ++ drop 9 output) ≡ drop (length (answers a)) output =
      mid_tail 9 (m₁ ++ drop 9 output) ∙ drop_at m₁ (drop 9 output) 9 long ∙ ap (λ n. drop n output) (sym nine) in
      let two : m₂ ≡ in_front b (drop (length (answers a)) output) =
      many_writes (subst (λ l. Many b l r₂ m₂) tail q) (omega (arith, length-drop (length (answers a)) output)) in
      put_tail 9 (m₁ ++ drop 9 output) m₂
      ∙ ap₂ ◌++◌ (take_at m₁ (drop 9 output) 9 long ∙ one) two
      ∙ behind (answers a) (answers b) output
      ∙ ap (λ l. l ++ drop (length l) output) (sym (answers-append 1 a b a_is) ∙ ap answers together)

  pub some_answered : {input first m₁ m₂ : List ℕ} {r₁ : Answer Unit} {r₂ : Answer ℕ} → kept ++ fragment ≡ input →
      first ≡ a ++ replicate (17 - (length kept + length (take (17 - length kept) fragment))) 0 → One first (take 9 output) r₁ m₁ →
      Many b (mid_of 9 (length (m₁ ++ drop 9 output) - 9) (m₁ ++ drop 9 output)) r₂ m₂ →
      Many (whole input) output (Ok (9 * (past / 17))) (put_mid 9 (length (m₁ ++ drop 9 output) - 9) (m₁ ++ drop 9 output) m₂)
  some_answered {first = first} {m₁} {m₂} {r₁} v e p q =
      let part = take (17 - length kept) fragment in
      let full : length kept + length part ≡ 17 = sym (length-append kept part) ∙ a_is in
      let f : first ≡ a = e ∙ ap (λ i. a ++ replicate (17 - i) 0) full ∙ append-nil a in
      subst (λ i. Many (whole i) output (Ok (9 * (past / 17))) (put_mid 9 (length (m₁ ++ drop 9 output) - 9) (m₁ ++ drop 9 output) m₂)) v
      (all_written (whole (kept ++ fragment)) output (size_is (kept ++ fragment) is) room (answered (subst (λ l. One l (take 9 output) r₁ m₁) f p) q))

-- none is whole
pub none_answered : (input output : List ℕ) {past : ℕ} → past ≡ 17 * (length input / 17) → past ≡ 0 → Many (whole input) output (Ok (9 * (past / 17))) output
none_answered input output {past} is z =
    let size = size_is input is in
    all_written (whole input) output size (omega arith) (nothing (answers (whole input)) output (omega arith))
