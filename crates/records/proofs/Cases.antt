-- The rows of the rules' table that are marked T, as one theorem about the definitions; and the whole case of three records.
use mathlib.Core.Path.{◌≡◌, refl}
use mathlib.Core.List.{List, [], ◌∷◌, ◌++◌, map}
use Prim.Native.Nat.{ℕ}
use lib.IntN.{ℤ, pos, neg_ℤ}
use mir.Syntax.{w8}
use Rattle.fields.specs.Fields.{packed, unpacked, number, bytes, encode, decode}
use Rattle.answers.specs.Reply.{Reply, gives, refused, mapped}
use Rattle.int_sqrt.specs.Root.{root, root_of}
use Rattle.int_log10.specs.Log.{log, log_of}
use Rattle.int_bits.specs.Gather.{gather, scatter}
use Rattle.signed.specs.Signed.{exact, rem_euclid, next_multiple}
use Rattle.operations.specs.Operations.{width_of, operation, answer_of}
use Rattle.records.specs.Records.{reply_to, answer_bytes, answers_to, answers}

-- a row: what is worked out, and what it gives
pub data Case : Type 0 where
  case : Reply ℤ → Reply ℤ → Case

abbrev worked : Case → Reply ℤ
worked (case x y) = x

abbrev stated : Case → Reply ℤ
stated (case x y) = y

abbrev pub All : List Case → Type 0
All [] = Unit
All (case x y ∷ cs) = (x ≡ y) × All cs

-- one computation for all
all : (cs : List Case) → map worked cs ≡ map stated cs → All cs
all [] e = tt
all (case x y ∷ cs) e = (cc, all cs (cc))

abbrev minus : ℕ → ℤ
minus n = neg_ℤ (pos n)

-- unsigned numbers as whole ones
abbrev plain : Reply ℕ → Reply ℤ
plain = mapped pos

abbrev pub rows : List Case
rows =
    case (root_of (pos 0)) (gives (pos 0)) ∷ case (root_of (pos 3)) (gives (pos 1)) ∷ case (root_of (pos 4)) (gives (pos 2))
    ∷ case (root_of (pos 65280)) (gives (pos 255))
    ∷ case (root_of (pos 127)) (gives (pos 11)) ∷ case (root_of (minus 1)) (refused 1)
    ∷ case (plain (log_of (pos 9))) (gives (pos 0)) ∷ case (plain (log_of (pos 10))) (gives (pos 1))
    ∷ case (plain (gives (gather 8 0b10110110 0b11001010))) (gives (pos 0b1001))
    ∷ case (plain (gives (scatter 8 0b1001 0b11001010))) (gives (pos 0b10000010))
    ∷ case (rem_euclid w8 (minus 7) (minus 4)) (gives (pos 1)) ∷ case (rem_euclid w8 (minus 1) (minus 128)) (gives (pos 127))
    ∷ case (next_multiple w8 (pos 23) (minus 8)) (gives (pos 16)) ∷ case (next_multiple w8 (minus 23) (pos 8)) (gives (minus 16)) ∷ []

pub cases : All rows
unfolding root log gather scatter rem_euclid exact next_multiple
cases = all rows refl

-- a record as the rules write it down: its first byte, and its two words
abbrev line : ℕ → ℕ → ℕ → List ℕ
line head a b = head ∷ (bytes 8 a ++ bytes 8 b)

pub three_records : answers (line 0x03 0x11 0x00 ++ (line 0x44 0xF9 0x04 ++ line 0x54 0x7F 0x02)) ≡ 0x00 ∷ (bytes 8 0x04 ++ 0x00 ∷ (bytes 8 0x01 ++ 0x40 ∷ bytes 8 0x00))
unfolding root log gather scatter rem_euclid exact next_multiple number bytes packed unpacked encode decode operation answer_of width_of reply_to answer_bytes answers_to
three_records = refl
