-- A record's two words as operands, and what a function over a type answers them.
use Rattle.std.specs.Prelude.{◌≡◌, Bool, ℕ, ◌^◌, ◌<◌, ◌≤◌, ◌≢◌, ◌⊎◌, MatchResult}
use Rattle.std.specs.Int.{Width}
use mir.Val.{bits}
use Rattle.answers.specs.Reply.{Reply}
use Rattle.answers.specs.Answers.{Answer}
use Rattle.answers.specs.declared.Refusal.TheVariants.{BadOperand}
use Rattle.operations.specs.Operations.{width_of, signed, answer_of}

-- the value with the number n, which has no bits above the width; else the refusal is 12
abbrev pub OperandOf : {A : Type 0} → (A → ℕ) → Width → ℕ → Answer A → Type 0
OperandOf number w n r = MatchResult r (λ x. (number x ≡ n) × (n < 2 ^ bits w)) (λ why. (why ≡ BadOperand) × (2 ^ bits w ≤ n))

-- the operand of an operation that uses a alone
abbrev pub LoneOperandOf : {A : Type 0} → (A → ℕ) → Width → ℕ → ℕ → Answer A → Type 0
LoneOperandOf number w a b r = MatchResult r (λ x. (number x ≡ a) × (a < 2 ^ bits w) × (b ≡ 0)) (λ why. (why ≡ BadOperand) × ((2 ^ bits w ≤ a) ⊎ (b ≢ 0)))

-- both operands
abbrev pub OperandsOf : {A : Type 0} → (A → ℕ) → Width → ℕ → ℕ → Answer (A × A) → Type 0
OperandsOf number w a b r =
    MatchResult r (λ p. (number p.0 ≡ a) × (a < 2 ^ bits w) × (number p.1 ≡ b) × (b < 2 ^ bits w))
    (λ why. (why ≡ BadOperand) × ((2 ^ bits w ≤ a) ⊎ (2 ^ bits w ≤ b)))

-- what is answered at each code of a width, unsigned or signed
abbrev pub AnsweredAt : Width → Bool → ℕ → ℕ → ℕ → Reply ℕ → Type 0
AnsweredAt w s op a b r = (code : ℕ) → code < 8 → width_of code ≡ w → signed code ≡ s → r ≡ answer_of op code a b
