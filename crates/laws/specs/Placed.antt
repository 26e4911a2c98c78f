-- A list put in the place of what stood there, of the same length.
use Rattle.std.specs.Prelude.{◌≡◌, List, ◌++◌, ℕ, ◌+◌, ◌≤◌, ◌<◌, length, get_or, take, drop}

-- l with xs from a place on
abbrev pub placed : List ℕ → List ℕ → ℕ → List ℕ
placed xs l place = take place l ++ (xs ++ drop (place + length xs) l)

-- in plain facts: from the place on stands xs; everything else, and the length, is as in l
pub record InPlace (xs l : List ℕ) (place : ℕ) (l' : List ℕ) : Type 0 where
  pub within : (i : ℕ) → i < length xs → get_or l' (place + i) 0 ≡ get_or xs i 0
  pub before : (i : ℕ) → i < place → get_or l' i 0 ≡ get_or l i 0
  pub behind : (i : ℕ) → place + length xs ≤ i → get_or l' i 0 ≡ get_or l i 0
  pub same_length : length l' ≡ length l
