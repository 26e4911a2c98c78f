-- The codes of the operations and of the integer types.
use Rattle.std.specs.Prelude.{◌≡◌, ℕ, ◌≤◌, Result, MatchResult}
use Rattle.answers.specs.declared.Refusal.{Refusal}
use Rattle.answers.specs.declared.Refusal.TheVariants.{NoOperation}
use Rattle.operations.specs.declared.codes.Operation.{Operation}
use Rattle.operations.specs.declared.codes.Operation.TheVariants.{Root, Log, Gather, Scatter, Remainder, NextMultiple}
use Rattle.operations.specs.declared.codes.Kind.{Kind}
use Rattle.operations.specs.declared.codes.Kind.TheVariants.{U8, U16, U32, U64, I8, I16, I32, I64}

abbrev pub operation_code : Operation → ℕ
operation_code Root = 0
operation_code Log = 1
operation_code Gather = 2
operation_code Scatter = 3
operation_code Remainder = 4
operation_code NextMultiple = 5

abbrev pub kind_code : Kind → ℕ
kind_code U8 = 0
kind_code U16 = 1
kind_code U32 = 2
kind_code U64 = 3
kind_code I8 = 4
kind_code I16 = 5
kind_code I32 = 6
kind_code I64 = 7

-- the operation of a code; past the last the refusal is 11
abbrev pub OperationOf : ℕ → Result Operation Refusal → Type 0
OperationOf code r = MatchResult r (λ o. operation_code o ≡ code) (λ why. (why ≡ NoOperation) × (6 ≤ code))

-- the type of a code; past the last the refusal is 11
abbrev pub KindOf : ℕ → Result Kind Refusal → Type 0
KindOf code r = MatchResult r (λ k. kind_code k ≡ code) (λ why. (why ≡ NoOperation) × (8 ≤ code))
