-- Records that come in fragments: what a state stands for, and the one promise of `feed` and `end`.
use Rattle.std.specs.Prelude.{◌≡◌, List, [], ◌∷◌, ◌++◌, ℕ, ◌-◌, ◌*◌, ◌/◌, ◌≤◌, ◌<◌, ltb, length, take, drop, replicate}
use Rattle.answers.specs.Reply.{Reply, gives, Row, row, unless, leaves}
use Rattle.answers.specs.Answers.{Answer, means}
use Rattle.records.specs.Records.{answers}
use Rattle.stream.specs.declared.Stream.{Stream}

-- the bytes that a state stands for: those since the last whole record
abbrev pub kept : Stream → List ℕ
kept s = take s.count s.bytes

-- the same for a call: refused with 13 for a count above 16, which no call makes
abbrev pub kept_reply : Stream → Reply (List ℕ)
kept_reply s = unless (row 13 (ltb 16 s.count) ∷ []) (gives (kept s))

-- the state that stands for at most 16 bytes; zeros fill it up
unfoldable pub keeping : List ℕ → Stream
keeping b = record { bytes = b ++ replicate (16 - length b) 0; count = length b }

-- the whole records of an input, and what is left after them
abbrev pub whole : List ℕ → List ℕ
whole input = take (17 * (length input / 17)) input

abbrev pub rest : List ℕ → List ℕ
rest input = drop (17 * (length input / 17)) input

-- ---- a call that answers an input

-- the state that a call leaves, and how many bytes it wrote, or its refusal
pub record Fed : Type 0 where
  pub state : Stream
  pub reply : Answer ℕ

abbrev pub outcome : Stream → Answer ℕ → Fed
outcome s r = record { state = s; reply = r }

-- the answers to an input in front of an output
abbrev pub in_front : List ℕ → List ℕ → List ℕ
in_front input output = answers input ++ drop (length (answers input)) output

-- refused with 13 for a count above 16, which no call makes, and with 10 where answers of a size have no room
abbrev pub take_rows : ℕ → ℕ → ℕ → List Row
take_rows count size room = row 13 (ltb 16 count) ∷ row 10 (ltb room size) ∷ []

-- how many bytes the answers are
unfoldable pub take_reply : Stream → List ℕ → List ℕ → Reply ℕ
take_reply s input output = unless (take_rows s.count (length (answers input)) (length output)) (gives (length (answers input)))

-- the promise of a call that answers an input and keeps what is left
pub record Takes (s : Stream) (input left output : List ℕ) (r : Fed) (output' : List ℕ) : Type 0 where
  pub replies : means r.reply ≡ take_reply s input output
  pub next_state : r.state ≡ leaves (take_reply s input output) (keeping left) s
  pub leaves_output : output' ≡ leaves (take_reply s input output) (in_front input output) output

-- `feed` answers the whole records of what is kept and the fragment, and keeps the rest
abbrev pub Feeds : Stream → List ℕ → List ℕ → Fed → List ℕ → Type 0
Feeds s fragment = Takes s (whole (kept s ++ fragment)) (rest (kept s ++ fragment))

-- `end` answers what is kept, and keeps nothing
abbrev pub Ends : Stream → List ℕ → Fed → List ℕ → Type 0
Ends s = Takes s (kept s) []

-- ---- in plain facts

-- none of the refusals 13 and 10 applies to a feed: there are 9 bytes for each record that the fragment completes
pub record Feedable (s : Stream) (fragment output : List ℕ) : Type 0 where
  pub short : s.count ≤ 16
  pub room : 9 * (length (kept s ++ fragment) / 17) ≤ length output

-- nor to an end: there are 9 bytes where any are left over
pub record Endable (s : Stream) (output : List ℕ) : Type 0 where
  pub short : s.count ≤ 16
  pub room : 0 < length (kept s) → 9 ≤ length output
