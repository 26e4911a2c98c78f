-- A state as 17 bytes, 16 and their count, and a stream's calls in the bytes and numbers of C.
use Rattle.std.specs.Prelude.{◌≡◌, List, [], ◌∷◌, ◌++◌, ℕ, get_or, take}
use Rattle.answers.specs.Reply.{refusal_of, natural, leaves}
use Rattle.stream.specs.declared.Stream.{Stream}
use Rattle.stream.specs.Stream.{kept, keeping, whole, rest, in_front, take_reply}

-- the state that 17 bytes are, and the 17 bytes of a state
unfoldable pub state_of : List ℕ → Stream
state_of b = record { bytes = take 16 b; count = get_or b 16 0 }

unfoldable pub bytes_of : Stream → List ℕ
bytes_of s = s.bytes ++ (s.count ∷ [])

-- ---- a call in C

-- the promise of a C function that answers an input and keeps what is left: what it returns, and what it leaves with its caller
pub record Told (b input left output : List ℕ) (refusal written : ℕ) (b' output' : List ℕ) : Type 0 where
  pub returns : refusal ≡ refusal_of (take_reply (state_of b) input output)
  pub leaves_written : written ≡ natural (take_reply (state_of b) input output)
  pub leaves_state : b' ≡ leaves (take_reply (state_of b) input output) (bytes_of (keeping left)) b
  pub leaves_output : output' ≡ leaves (take_reply (state_of b) input output) (in_front input output) output

-- a feed and an end
abbrev pub ToldFeed : List ℕ → List ℕ → List ℕ → ℕ → ℕ → List ℕ → List ℕ → Type 0
ToldFeed b fragment = Told b (whole (kept (state_of b) ++ fragment)) (rest (kept (state_of b) ++ fragment))

abbrev pub ToldEnd : List ℕ → List ℕ → ℕ → ℕ → List ℕ → List ℕ → Type 0
ToldEnd b = Told b (kept (state_of b)) []
