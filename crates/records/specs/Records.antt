-- Records and answers as bytes, and the promises of `one` and `many`.
use Rattle.std.specs.Prelude.{◌≡◌, not, List, [], ◌∷◌, ◌++◌, ℕ, zero, suc, ◌+◌, ◌/◌, ltb, eqb, length, get_or, take, drop}
use Rattle.fields.specs.Fields.{encode, decode}
use Rattle.answers.specs.Reply.{Reply, gives, refusal_of, natural, mapped, Row, row, unless, leaves}
use Rattle.answers.specs.Answers.{Answer, means}
use Rattle.operations.specs.Operations.{answer_of}

-- operation, width, a, b: 17 bytes
abbrev pub record_layout : List ℕ
record_layout = 4 ∷ 4 ∷ 64 ∷ 64 ∷ []

-- refusal, zero, value: 9 bytes
abbrev pub answer_layout : List ℕ
answer_layout = 4 ∷ 4 ∷ 64 ∷ []

abbrev pub fields_reply : List ℕ → Reply ℕ
fields_reply fs = answer_of (get_or fs 0 0) (get_or fs 1 0) (get_or fs 2 0) (get_or fs 3 0)

-- the reply to a record, or to a tail that is too short to be one
unfoldable pub reply_to : List ℕ → Reply ℕ
reply_to asked = unless (row 13 (not (eqb (length asked) 17)) ∷ []) (fields_reply (decode record_layout asked))

unfoldable pub answer_bytes : Reply ℕ → List ℕ
answer_bytes r = encode answer_layout (refusal_of r ∷ 0 ∷ natural r ∷ [])

-- the answer's bytes, and what was refused
pub record Responds (asked : List ℕ) (r : Answer Unit) (answer' : List ℕ) : Type 0 where
  pub replies : means r ≡ mapped (λ _. tt) (reply_to asked)
  pub leaves_answer : answer' ≡ answer_bytes (reply_to asked)

-- ---- one record: where it or its answer is of wrong length, the answer stays

abbrev pub length_rows : List ℕ → List ℕ → List Row
length_rows asked answer = row 13 (not (eqb (length asked) 17)) ∷ row 13 (not (eqb (length answer) 9)) ∷ []

abbrev pub length_reply : List ℕ → List ℕ → Reply Unit
length_reply asked answer = unless (length_rows asked answer) (gives tt)

-- what one record is answered, and what its answer then holds
abbrev pub one_reply : List ℕ → List ℕ → Reply Unit
one_reply asked answer = unless (length_rows asked answer) (mapped (λ _. tt) (reply_to asked))

abbrev pub answered : List ℕ → List ℕ → List ℕ
answered asked answer = leaves (length_reply asked answer) (answer_bytes (reply_to asked)) answer

pub record One (asked answer : List ℕ) (r : Answer Unit) (answer' : List ℕ) : Type 0 where
  pub replies : means r ≡ one_reply asked answer
  pub leaves_answer : answer' ≡ answered asked answer

-- ---- many records, one after the other, the last of them perhaps too short

-- how many there are
abbrev pub records : List ℕ → ℕ
records input = (length input + 16) / 17

-- the answers to n of them
unfoldable pub answers_to : ℕ → List ℕ → List ℕ
answers_to zero input = []
answers_to (suc n) input = answer_bytes (reply_to (take 17 input)) ++ answers_to n (drop 17 input)

abbrev pub answers : List ℕ → List ℕ
answers input = answers_to (records input) input

-- refused where the output has no room for all answers; else how many bytes they are
abbrev pub many_reply : List ℕ → List ℕ → Reply ℕ
many_reply input output = unless (row 10 (ltb (length output) (length (answers input))) ∷ []) (gives (length (answers input)))

pub record Many (input output : List ℕ) (r : Answer ℕ) (output' : List ℕ) : Type 0 where
  pub replies : means r ≡ many_reply input output
  pub leaves_output : output' ≡ leaves (many_reply input output) (answers input ++ drop (length (answers input)) output) output
