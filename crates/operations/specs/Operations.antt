-- The operations of a record: which there are, which widths each takes, and what each gives. Operands and values are bits.
use Rattle.std.specs.Prelude.{◌≡◌, Bool, true, not, cond, ◌&&◌, List, [], ◌∷◌, ℕ, ◌^◌, ◌<◌, leb, ltb, eqb, get_or, ℤ, pos}
use Rattle.std.specs.Int.{Width, w8, w16, w32, w64}
use mir.Val.{bits, to_z, of_z}
use Rattle.answers.specs.Reply.{Reply, gives, refused, mapped, Row, row, unless}
use Rattle.int_sqrt.specs.Root.{root_of}
use Rattle.int_log10.specs.Log.{log_of}
use Rattle.int_bits.specs.Gather.{gather, scatter}
use Rattle.signed.specs.Signed.{rem_euclid, next_multiple}

-- the width of each code; codes 0 to 3 are unsigned, 4 to 7 signed
unfoldable pub width_of : ℕ → Width
width_of code = get_or (w8 ∷ w16 ∷ w32 ∷ w64 ∷ w8 ∷ w16 ∷ w32 ∷ w64 ∷ []) code w64

abbrev pub signed : ℕ → Bool
signed code = leb 4 code

-- the number that bits stand for at a code, and the bits of one
abbrev pub numeral : ℕ → ℕ → ℤ
numeral code a = cond (signed code) (to_z (width_of code) a) (pos a)

abbrev pub in_bits : ℕ → Reply ℤ → Reply ℕ
in_bits code = mapped (of_z (width_of code))

-- the first code that each operation takes, and the one after its last
abbrev pub first_code : ℕ → ℕ
first_code op = get_or (0 ∷ 0 ∷ 0 ∷ 0 ∷ 4 ∷ 4 ∷ []) op 0

abbrev pub end_code : ℕ → ℕ
end_code op = get_or (8 ∷ 8 ∷ 4 ∷ 4 ∷ 8 ∷ 8 ∷ []) op 0

abbrev pub takes : ℕ → ℕ → Bool
takes op code = leb (first_code op) code && ltb code (end_code op)

-- operands with no bits above the width are below this
abbrev pub limit : ℕ → ℕ
limit code = 2 ^ bits (width_of code)

-- root and log use a alone
abbrev pub uses_b : ℕ → Bool
uses_b op = leb 2 op

-- root, log, gather, scatter, remainder, next multiple
unfoldable pub operation : ℕ → ℕ → ℕ → ℕ → Reply ℕ
operation op code a b =
    get_or (in_bits code (root_of (numeral code a))
    ∷ log_of (numeral code a)
    ∷ gives (gather (bits (width_of code)) a b)
    ∷ gives (scatter (bits (width_of code)) a b)
    ∷ in_bits code (rem_euclid (width_of code) (numeral code a) (numeral code b))
    ∷ in_bits code (next_multiple (width_of code) (numeral code a) (numeral code b))
    ∷ []) op (refused 11)

-- an operation that is not listed or a width it does not take; an operand with bits above its width; an unused operand that is not 0
abbrev pub refusals : ℕ → ℕ → ℕ → ℕ → List Row
refusals op code a b =
    row 11 (not (takes op code)) ∷ row 12 (leb (limit code) a) ∷ row 12 (leb (limit code) b) ∷ row 12 (not (uses_b op) && not (eqb b 0)) ∷ []

unfoldable pub answer_of : ℕ → ℕ → ℕ → ℕ → Reply ℕ
answer_of op code a b = unless (refusals op code a b) (operation op code a b)

-- the width is taken, and both operands fit it
pub record Ready (op code a b : ℕ) : Type 0 where
  pub listed : takes op code ≡ true
  pub small : a < limit code
  pub small_b : b < limit code
