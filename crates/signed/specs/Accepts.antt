-- When the strict forms, the remainder and the next multiple are accepted, and with which number they are refused, in plain facts.
-- Of a form's refusals no two apply together.
use Rattle.std.specs.Prelude.{◌≡◌, ℕ, ℤ, pos, neg_ℤ, ◌<ℤ◌}
use Rattle.std.specs.Int.{Width}
use Rattle.signed.specs.Signed.{min_z, max_z}
use Rattle.signed.specs.Words.{IsLeast, IsGreatest}

-- "exact result doesn't fit"
pub data NoFit (w : Width) (z : ℤ) : Type 0 where
  too_low : z <ℤ min_z w → NoFit w z
  too_high : max_z w <ℤ z → NoFit w z

-- the remainder, refused with k: "divisor 0", or "remainder of MIN by −1"
pub data RemainderRefused (w : Width) (a d : ℤ) : ℕ → Type 0 where
  by_zero : d ≡ pos 0 → RemainderRefused w a d 3
  min_by_minus_one : a ≡ min_z w → d ≡ neg_ℤ (pos 1) → RemainderRefused w a d 4

-- neither applies
pub record Divides (w : Width) (a d : ℤ) : Type 0 where
  pub by_some : d ≡ pos 0 → ⊥
  pub holds : a ≡ min_z w → d ≡ neg_ℤ (pos 1) → ⊥

-- the next multiple, refused with k: "divisor 0", or the multiple is there and does not fit
pub data NextRefused (w : Width) (a d : ℤ) : ℕ → Type 0 where
  of_zero : d ≡ pos 0 → NextRefused w a d 3
  least_no_fit : {z : ℤ} → pos 0 <ℤ d → IsLeast a d z → NoFit w z → NextRefused w a d 4
  greatest_no_fit : {z : ℤ} → d <ℤ pos 0 → IsGreatest a d z → NoFit w z → NextRefused w a d 4
