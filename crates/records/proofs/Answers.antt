-- The answers to many records: how long they are, the next of them, and the answers to an input that comes in pieces.
use mathlib.Core.Path.{◌≡◌, refl, sym, ap, ◌∙◌}
use mathlib.Core.List.{List, [], ◌∷◌, ◌++◌, append_assoc, append-nil}
use Prim.Native.Nat.{ℕ, zero, suc, ◌+◌, ◌*◌, ◌<◌}
use native.Mathlib.Omega.{arith}
use lib.ListN.{length, take, drop, length-append, length-drop, take-append-drop}
use lib.Seq.{take_all, take_at, drop_at, drop-drop, length-take-le}
use Rattle.answers.specs.Reply.{refused}
use Rattle.records.specs.Records.{answers_to, records, answers, reply_to, answer_bytes}
use Rattle.records.proofs.Coded.{nine_bytes, short}

pub length-answers : (n : ℕ) (input : List ℕ) → length (answers_to n input) ≡ 9 * n
unfolding answers_to
length-answers zero input = refl
length-answers (suc n) input =
    rw (length-append (answer_bytes (reply_to (take 17 input))) (answers_to n (drop 17 input)), nine_bytes (reply_to (take 17 input)), length-answers n (drop 17 input)) (omega arith)

-- one answer more, at the end
pub answers_next : (n : ℕ) (input : List ℕ) → answers_to (suc n) input ≡ answers_to n input ++ answer_bytes (reply_to (take 17 (drop (17 * n) input)))
unfolding answers_to
answers_next zero input = append-nil (answer_bytes (reply_to (take 17 input)))
answers_next (suc n) input =
    let first = answer_bytes (reply_to (take 17 input)) in
    let past : 17 * suc n ≡ 17 + 17 * n = omega arith in
    ap (λ l. first ++ l) (answers_next n (drop 17 input))
    ∙ sym (append_assoc first (answers_to n (drop 17 input)) (answer_bytes (reply_to (take 17 (drop (17 * n) (drop 17 input))))))
    ∙ ap (λ l. (first ++ answers_to n (drop 17 input)) ++ answer_bytes (reply_to (take 17 l))) (drop-drop (17 * n) 17 input ∙ ap (λ j. drop j input) (sym past))

-- ---- an input in pieces

-- a whole record in front
pub answers_front : (r s : List ℕ) → length r ≡ 17 → answers (r ++ s) ≡ answer_bytes (reply_to r) ++ answers s
unfolding answers_to
answers_front r s n =
    let one_more : records (r ++ s) ≡ suc (records s) = rw (length-append r s, n) (omega arith) in
    rw (one_more, take_at r s 17 n, drop_at r s 17 n)

-- whole records in front
pub answers-append : (n : ℕ) (r s : List ℕ) → length r ≡ 17 * n → answers (r ++ s) ≡ answers r ++ answers s
unfolding answers_to
answers-append zero [] s e = refl
answers-append zero (x ∷ r) s e = absurd (omega arith)
answers-append (suc n) r s e =
    let t = take 17 r in
    let d = drop 17 r in
    let whole : t ++ d ≡ r = take-append-drop 17 r in
    let t-is : length t ≡ 17 = length-take-le 17 r (omega arith) in
    let d-is : length d ≡ 17 * n = length-drop 17 r ∙ omega arith in
    ap (λ l. answers (l ++ s)) (sym whole) ∙ ap answers (append_assoc t d s) ∙ answers_front t (d ++ s) t-is
    ∙ ap (λ l. answer_bytes (reply_to t) ++ l) (answers-append n d s d-is)
    ∙ sym (append_assoc (answer_bytes (reply_to t)) (answers d) (answers s))
    ∙ ap (λ l. l ++ answers s) (sym (answers_front t d t-is) ∙ ap answers whole)

-- a tail that is too short to be a record
pub answers-tail : (t : List ℕ) → 0 < length t → length t < 17 → answers t ≡ answer_bytes (refused 13)
unfolding answers_to
answers-tail t p h =
    let one : records t ≡ 1 = omega arith in
    rw (one, take_all 17 t (omega arith), ← short t (λ e. omega arith)) (append-nil (answer_bytes (refused 13)))
