-- The numbers that entries have for the kinds of calls, and entries at the front of a list.
use Rattle.std.specs.Prelude.{◌≡◌, ◌↔◌, ℕ, ◌+◌, ◌*◌, ◌<◌, ◌≤◌, ◌==◌, nat_lt, if◌then◌else◌, List, length, slice_index, Result, IsOk, IfOk}
use Rattle.edges.specs.declared.kind.Form.{Form}
use Rattle.edges.specs.declared.kind.Form.TheVariants as form
use Rattle.edges.specs.declared.kind.Width.{Width}
use Rattle.edges.specs.declared.kind.Width.TheVariants as width
use Rattle.edges.specs.declared.kind.Kind.{Kind}
use Rattle.edges.specs.declared.kind.Kind.TheVariants as kind
use Rattle.edges.specs.declared.kind.UnknownNumber.{UnknownNumber}

abbrev pub form_number : Form → ℕ
form_number form.StrictAdd = 0
form_number form.StrictSub = 1
form_number form.WrappingAdd = 2
form_number form.WrappingSub = 3
form_number form.StrictNeg = 4
form_number form.StrictAbs = 5
form_number form.WrappingNeg = 6
form_number form.UnsignedAbs = 7

abbrev pub width_number : Width → ℕ
width_number width.I8 = 0
width_number width.I16 = 1
width_number width.I32 = 2
width_number width.I64 = 3

-- each signed form has a number for each width; the others come after them
abbrev pub kind_number : Kind → ℕ
kind_number (kind.Signed f w) = 4 * form_number f + width_number w
kind_number kind.DigitCount = 32
kind_number kind.GatherBatch = 33
kind_number kind.ScatterBatch = 34
kind_number kind.CardRead = 35
kind_number kind.CardWrite = 36

-- what a number below a count stands for; of the others it is said that they stand for nothing
abbrev pub StandsFor : {A : Type 0} → (A → ℕ) → ℕ → ℕ → Result A UnknownNumber → Type 0
StandsFor number_of count n r = (IsOk r ↔ (n < count)) × IfOk r (λ a. number_of a ≡ n)

-- how many bytes the entries have, by the number of their kind: two, and eight for each word
abbrev pub entry_size : ℕ → ℕ
entry_size n = if nat_lt n 33 then 2 + 3 * 8 else (if nat_lt n 35 then 2 + 22 * 8 else (if n == 35 then 2 + 5 * 8 else 2 + 7 * 8))

-- a list begins with a whole entry
abbrev pub BeginsWithEntry : List ℕ → Type 0
BeginsWithEntry list = (slice_index list 0 < 37) × (entry_size (slice_index list 0) ≤ length list)
