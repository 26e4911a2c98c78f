-- A record's fields and an answer's bytes, as the code reads and writes them, are those of the layouts.
use mathlib.Core.Path.{◌≡◌, refl, sym, ap, ap₂, ◌∙◌}
use mathlib.Core.List.{List, [], ◌∷◌, ◌++◌, append-nil}
use Prim.Native.Nat.{ℕ, suc, ◌+◌, ◌-◌, ◌*◌, ◌/◌, ◌%◌, ◌^◌, ◌<◌, ◌≤◌}
use native.Mathlib.Omega.{arith}
use borrow.Author.Tests.{eq-eqb, ne_eqb}
use borrow.Rule.Slice.PartMut.{mid_of, put_mid}
use lib.ListN.{length, get_or, set, take, drop, length-drop}
use lib.Seq.{take_all, take-suc, take-length, drop-drop, drop-length, length-take-le}
use Rattle.fields.specs.Fields.{packed, unpacked, number, bytes, encode, decode}
use Rattle.fields.proofs.Bytes.{Bytes, length-bytes}
use Rattle.fields.proofs.Parts.{bytes_take, bytes_drop, decode_at, decode_one, decode_two, eight_bytes, encode-append, encode_one}
use Rattle.answers.specs.Reply.{Reply, refused, refusal_of, natural}
use Rattle.operations.specs.Operations.{answer_of}
use Rattle.records.specs.Records.{record_layout, answer_layout, reply_to, answer_bytes}

-- eight bytes from a place on
abbrev word : ℕ → List ℕ → List ℕ
word at r = take 8 (drop at r)

number_one : (b : ℕ) → number (b ∷ []) ≡ b
unfolding number packed
number_one b = omega arith

module _ (r : List ℕ) (b : Bytes r) (n : length r ≡ 17) where
  -- a word of the record is eight bytes
  eight : (at : ℕ) → at + 8 ≤ 17 → length (word at r) ≡ 8
  eight at h = length-take-le 8 (drop at r) (rw (length-drop at r) (omega arith))

  head : decode (4 ∷ 4 ∷ []) (take 1 r) ≡ get_or r 0 0 / 16 ∷ get_or r 0 0 % 16 ∷ []
  head =
      let one : take 1 r ≡ get_or r 0 0 ∷ [] = take-suc r 0 0 (omega arith) in
      decode_two (take 1 r) (bytes_take 1 b) 4 4 (rw one) ∙ rw (one, number_one (get_or r 0 0))

  words : decode (64 ∷ 64 ∷ []) (drop 1 r) ≡ number (word 1 r) ∷ number (word 9 r) ∷ []
  words =
      let last : drop 8 (drop 1 r) ≡ word 9 r = drop-drop 8 1 r ∙ sym (take_all 8 (drop 9 r) (rw (length-drop 9 r) (omega arith))) in
      decode_at (64 ∷ []) (64 ∷ []) 8 (drop 1 r) (bytes_drop 1 b) (rw (length-drop 1 r) (omega arith)) (rw (length-drop 1 r) (omega arith))
      ∙ ap₂ ◌++◌ (decode_one (word 1 r) (bytes_take 8 (bytes_drop 1 b)) 8 (eight 1 (omega arith)))
      (ap (decode (64 ∷ [])) last ∙ decode_one (word 9 r) (bytes_take 8 (bytes_drop 9 b)) 8 (eight 9 (omega arith)))

  fields : decode record_layout r ≡ get_or r 0 0 / 16 ∷ get_or r 0 0 % 16 ∷ number (word 1 r) ∷ number (word 9 r) ∷ []
  fields = decode_at (4 ∷ 4 ∷ []) (64 ∷ 64 ∷ []) 1 r b (omega arith) (omega arith) ∙ ap₂ ◌++◌ head words

  -- what `reply_to` returns
  pub replies : {q : Reply ℕ} {x y : ℕ} → x ≡ number (word 1 r) % 2 ^ 64 → y ≡ number (word 9 r) % 2 ^ 64 → q ≡ answer_of (get_or r 0 0 / 16) (get_or r 0 0 % 16) x y → q ≡ reply_to r
  unfolding reply_to
  replies p s e =
      e ∙ ap₂ (answer_of (get_or r 0 0 / 16) (get_or r 0 0 % 16))
      (p ∙ eight_bytes (word 1 r) (bytes_take 8 (bytes_drop 1 b)) (eight 1 (omega arith)))
      (s ∙ eight_bytes (word 9 r) (bytes_take 8 (bytes_drop 9 b)) (eight 9 (omega arith)))
      ∙ sym (rw (eq-eqb (length r) 17 n, fields))

pub short : (r : List ℕ) → (length r ≡ 17 → ⊥) → refused 13 ≡ reply_to r
unfolding reply_to
short r h = sym (rw (ne_eqb (length r) 17 h))

-- ---- the answer: the refusal, a half byte up, and the value

pub nine_bytes : (q : Reply ℕ) → length (answer_bytes q) ≡ 9
unfolding answer_bytes encode
nine_bytes q = length-bytes 9 (packed answer_layout (refusal_of q ∷ 0 ∷ natural q ∷ []))

halves : (f : ℕ) → f < 16 → encode (4 ∷ 4 ∷ []) (f ∷ 0 ∷ []) ≡ f * 16 ∷ []
unfolding encode bytes packed unpacked
halves f h = let e : (f * 2 ^ 4 + (0 * 2 ^ 0 + 0)) / 2 ^ 0 % 2 ^ 8 ≡ f * 16 = omega arith in ap (λ x. x ∷ []) e

pub answer_bytes_are : (q : Reply ℕ) → refusal_of q < 16 → natural q < 2 ^ 64 → answer_bytes q ≡ refusal_of q * 16 ∷ bytes 8 (natural q)
unfolding answer_bytes
answer_bytes_are q h k =
    encode-append (4 ∷ 4 ∷ []) (64 ∷ []) 1 8 (refusal_of q ∷ 0 ∷ []) (natural q ∷ []) refl refl refl (k, tt)
    ∙ ap₂ ◌++◌ (halves (refusal_of q) h) (encode_one 8 (natural q))

-- an answer whose other bytes come back from `put` and whose first byte is stored then
pub written : (l : List ℕ) (x v : ℕ) {ys : List ℕ} → length l ≡ 9 → ys ≡ bytes (length (mid_of 1 (length l - 1) l)) v → set (put_mid 1 (length l - 1) l ys) 0 x ≡ x ∷ bytes 8 v
written [] x v n e = absurd (omega arith)
written (y ∷ l) x v {ys} n e =
    let m : length l ≡ 8 = omega arith in
    let k : suc (length l) - 1 ≡ length l = omega arith in
    let p : ys ≡ bytes 8 v = e ∙ ap (λ i. bytes (length (take i l)) v) k ∙ ap (λ i. bytes i v) (ap length (take-length l) ∙ m) in
    ap (λ i. x ∷ (ys ++ drop i l)) k ∙ ap (λ t. x ∷ (ys ++ t)) (drop-length l) ∙ ap (λ t. x ∷ t) (append-nil ys ∙ p)
