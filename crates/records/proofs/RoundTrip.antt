-- What is encoded is decoded: a record gets the reply of its fields, and an answer reads back as its refusal, 0 and its value.
use mathlib.Core.Path.{◌≡◌, refl}
use mathlib.Core.Bool.{not}
use mathlib.Core.List.{List, [], ◌∷◌}
use Prim.Native.Nat.{ℕ, ◌^◌, ◌<◌}
use native.Mathlib.Omega.{arith}
use borrow.Author.Tests.{eq-eqb}
use lib.Dec.{eqb}
use lib.Pow.{pow_pos}
use lib.ListN.{length, get_or}
use Rattle.fields.specs.Fields.{packed, Fitting, encode, decode}
use Rattle.fields.proofs.Bytes.{length-bytes, decode-encode}
use Rattle.answers.specs.Reply.{refusal_of, natural, row}
use Rattle.operations.specs.Operations.{answer_of}
use Rattle.operations.proofs.Values.{Room, rows_room, answer_word}
use Rattle.records.specs.Records.{record_layout, answer_layout, reply_to, answer_bytes}

pub record_back : (values : List ℕ) → Fitting record_layout values → decode record_layout (encode record_layout values) ≡ values
record_back = decode-encode record_layout 17 refl

pub record_bytes : (values : List ℕ) → length (encode record_layout values) ≡ 17
unfolding encode
record_bytes values = length-bytes 17 (packed record_layout values)

pub record_reply : (op code a b : ℕ) → op < 16 → code < 16 → a < 2 ^ 64 → b < 2 ^ 64 → reply_to (encode record_layout (op ∷ code ∷ a ∷ b ∷ [])) ≡ answer_of op code a b
unfolding reply_to
record_reply op code a b o c p q =
    let values = op ∷ code ∷ a ∷ b ∷ [] in
    rw (eq-eqb (length (encode record_layout values)) 17 (record_bytes values), record_back values (o, (c, (p, (q, tt)))))

-- every reply fits the answer's fields
pub reply_room : (asked : List ℕ) → Room (2 ^ 64) (reply_to asked)
unfolding reply_to
reply_room asked =
    let f = decode record_layout asked in
    rows_room (pow_pos 64) (row 13 (not (eqb (length asked) 17)) ∷ []) tt (λ c. answer_word (get_or f 0 0) (get_or f 1 0) (get_or f 2 0) (get_or f 3 0))

pub answer_back : (asked : List ℕ) → decode answer_layout (answer_bytes (reply_to asked)) ≡ refusal_of (reply_to asked) ∷ 0 ∷ natural (reply_to asked) ∷ []
unfolding answer_bytes
answer_back asked =
    let r = reply_to asked in
    decode-encode answer_layout 9 refl (refusal_of r ∷ 0 ∷ natural r ∷ []) ((reply_room asked).refusal, (omega arith, ((reply_room asked).value, tt)))
