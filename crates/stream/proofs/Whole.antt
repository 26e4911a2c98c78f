-- The whole records of an input and what is left after them, and the bytes that a state stands for.
use mathlib.Core.Path.{◌≡◌, refl, sym, ap, ◌∙◌}
use mathlib.Core.List.{List, ◌++◌, append_assoc}
use Prim.Native.Nat.{ℕ, ◌-◌, ◌*◌, ◌/◌, ◌<◌, ◌≤◌}
use native.Mathlib.Omega.{arith}
use lib.ListN.{length, replicate, length-take, length-drop, take-append-drop}
use lib.Seq.{take_at, length-take-le}
use Rattle.laws.proofs.Order.{by_order}
use Rattle.records.specs.Records.{records, answers}
use Rattle.records.proofs.Answers.{length-answers, answers-append}
use Rattle.stream.specs.declared.Stream.{Stream}
use Rattle.stream.specs.Stream.{kept, keeping, whole, rest}
use Rattle.stream.proofs.Records.{length_whole}

abbrev pub state : List ℕ → ℕ → Stream
state b n = record { bytes = b; count = n }

-- ---- whole records and the rest

pub whole_is : (input : List ℕ) → length (whole input) ≡ 17 * (length input / 17)
whole_is input = length-take-le (17 * (length input / 17)) input (omega arith)

pub rest_short : (input : List ℕ) → length (rest input) ≤ 16
rest_short input = omega (arith, length-drop (17 * (length input / 17)) input)

-- 9 bytes for each whole record
pub whole_answers : (input : List ℕ) → length (answers (whole input)) ≡ 9 * (length input / 17)
whole_answers input = length_whole (length input / 17) (whole input) (whole_is input)

-- the whole records of the front, and then what is left of it with what follows
pub answers_cut : (input more : List ℕ) → answers (input ++ more) ≡ answers (whole input) ++ answers (rest input ++ more)
answers_cut input more =
    ap (λ l. answers (l ++ more)) (sym (take-append-drop (17 * (length input / 17)) input))
    ∙ ap answers (append_assoc (whole input) (rest input) more)
    ∙ answers-append (length input / 17) (whole input) (rest input ++ more) (whole_is input)

-- ---- the bytes that a state stands for

-- a state that was made to keep bytes stands for them
pub kept_keeping : (b : List ℕ) → kept (keeping b) ≡ b
unfolding keeping
kept_keeping b = take_at b (replicate (16 - length b) 0) (length b) refl

pub keeping_short : (b : List ℕ) → length b ≤ 16 → (keeping b).count ≤ 16
unfolding keeping
keeping_short b h = h

pub kept_short : (s : Stream) → s.count ≤ 16 → length (kept s) ≤ 16
kept_short s h = omega (arith, length-take s.count s.bytes)

-- ---- how many bytes the end writes

-- the answer to a tail: 9 bytes where there are any
module _ (t : List ℕ) (room : ℕ) where
  pub tail_room : length t ≤ 16 → (0 < length t → 9 ≤ room) → length (answers t) ≤ room
  tail_room h f = by_order 0 (length t) (λ p. omega (arith, f p, length-answers (records t) t)) (λ p. omega (arith, length-answers (records t) t))

  pub room_tail : length (answers t) ≤ room → 0 < length t → 9 ≤ room
  room_tail h p = omega (arith, length-answers (records t) t)
