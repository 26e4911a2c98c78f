-- Batches: every word of a source under one function, into a destination from a place on. The function is gather or scatter under a mask.
use Rattle.std.specs.Prelude.{◌≡◌, List, [], ◌∷◌, ◌++◌, map, ℕ, ◌+◌, ◌-◌, ◌≤◌, ◌<◌, ltb, length, get_or, take, drop}
use Rattle.answers.specs.Reply.{Reply, gives, Row, row, unless, leaves}
use Rattle.answers.specs.Answers.{Answer, means}

-- a closure computes f if what it may give for x, as `post` says, is f x alone
abbrev pub Computes : (ℕ → ℕ → Type 0) → (ℕ → ℕ) → Type 0
Computes post f = (x y : ℕ) → post x y → y ≡ f x

-- refused where the place lies past the destination's end, or more words come than remain
abbrev pub room_rows : ℕ → ℕ → ℕ → List Row
room_rows count size place = row 10 (ltb size place) ∷ row 10 (ltb (size - place) count) ∷ []

unfoldable pub room_reply : ℕ → ℕ → ℕ → Reply Unit
room_reply count size place = unless (room_rows count size place) (gives tt)

-- the destination with results from the place on
abbrev pub placed : List ℕ → List ℕ → ℕ → List ℕ
placed results destination place = take place destination ++ (results ++ drop (place + length results) destination)

-- the destination after a batch over f
abbrev pub batched : (ℕ → ℕ) → List ℕ → List ℕ → ℕ → List ℕ
batched f source destination place = leaves (room_reply (length source) (length destination) place) (placed (map f source) destination place) destination

-- the promise of `room_check`: its answer r for so many words, into a destination of a size
pub record ChecksRoom (count size place : ℕ) (r : Answer Unit) : Type 0 where
  pub replies : means r ≡ room_reply count size place

-- the promise of a batch over f: its answer r, and the destination that it leaves
pub record Batches (f : ℕ → ℕ) (source destination : List ℕ) (place : ℕ) (r : Answer Unit) (destination' : List ℕ) : Type 0 where
  pub replies : means r ≡ room_reply (length source) (length destination) place
  pub leaves_destination : destination' ≡ batched f source destination place

-- ---- in plain facts

-- refusal 10 does not apply
pub record Room (count size place : ℕ) : Type 0 where
  pub inside : place ≤ size
  pub enough : count ≤ size - place

-- from the place on stand the results; every other word, and the length, stay
pub record Stands (f : ℕ → ℕ) (source destination : List ℕ) (place : ℕ) (destination' : List ℕ) : Type 0 where
  pub results : (i : ℕ) → i < length source → get_or destination' (place + i) 0 ≡ f (get_or source i 0)
  pub before : (i : ℕ) → i < place → get_or destination' i 0 ≡ get_or destination i 0
  pub behind : (i : ℕ) → place + length source ≤ i → get_or destination' i 0 ≡ get_or destination i 0
  pub same_length : length destination' ≡ length destination
