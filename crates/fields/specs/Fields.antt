-- Numbers made of fields, the first field on top; and bytes, which are fields of eight bits.
use Rattle.std.specs.Prelude.{ℕ, ◌+◌, ◌*◌, ◌/◌, ◌%◌, ◌^◌, ◌<◌, List, [], ◌∷◌, length, replicate}

-- A layout is a list of sizes in bits: how many bits it has in all.
abbrev pub size : List ℕ → ℕ
size [] = 0
size (s ∷ ss) = s + size ss

-- the number that values make
unfoldable pub packed : List ℕ → List ℕ → ℕ
packed [] vs = 0
packed (s ∷ ss) [] = 0
packed (s ∷ ss) (v ∷ vs) = v * 2 ^ size ss + packed ss vs

-- the values in a number
unfoldable pub unpacked : List ℕ → ℕ → List ℕ
unpacked [] n = []
unpacked (s ∷ ss) n = n / 2 ^ size ss % 2 ^ s ∷ unpacked ss n

-- each value fits its field
abbrev pub Fitting : List ℕ → List ℕ → Type 0
Fitting [] [] = Unit
Fitting [] (v ∷ vs) = ⊥
Fitting (s ∷ ss) [] = ⊥
Fitting (s ∷ ss) (v ∷ vs) = (v < 2 ^ s) × Fitting ss vs

-- the layout of k bytes
abbrev pub eights : ℕ → List ℕ
eights k = replicate k 8

-- the number that bytes stand for
unfoldable pub number : List ℕ → ℕ
number bs = packed (eights (length bs)) bs

-- the k low bytes of a number
unfoldable pub bytes : ℕ → ℕ → List ℕ
bytes k n = unpacked (eights k) n

-- values as bytes, and back
unfoldable pub encode : List ℕ → List ℕ → List ℕ
encode layout values = bytes (size layout / 8) (packed layout values)

unfoldable pub decode : List ℕ → List ℕ → List ℕ
decode layout bs = unpacked layout (number bs)
