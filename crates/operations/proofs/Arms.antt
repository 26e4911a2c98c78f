-- The arms of `unsigned` and `signed`: the operation of each number, and which codes it takes.
use mathlib.Core.Path.{◌≡◌, refl, sym, ap, ◌∙◌}
use mathlib.Core.Bool.{Bool, true, false, ◌&&◌}
use Prim.Native.Nat.{ℕ, zero, suc, ◌<◌, ◌≤◌}
use native.Mathlib.Omega.{arith}
use borrow.Author.Tests.{ltb-true, leb-true}
use lib.Dec.{lit<, lit≤}
use mir.Val.{bits}
use Rattle.answers.specs.Reply.{Reply, gives}
use Rattle.int_sqrt.specs.Root.{root_of}
use Rattle.int_log10.specs.Log.{log_of}
use Rattle.int_bits.specs.Gather.{gather, scatter}
use Rattle.signed.specs.Signed.{rem_euclid, next_multiple}
use Rattle.operations.specs.Operations.{width_of, numeral, in_bits, first_code, end_code, takes, operation}

-- ---- which operation an arm is

module _ (op code a b : ℕ) {r : Reply ℕ} where
  chosen : (k : ℕ) → op ≡ k → r ≡ operation k code a b → r ≡ operation op code a b
  chosen k e p = p ∙ sym (ap (λ o. operation o code a b) e)

  pub root_at : op ≡ 0 → r ≡ in_bits code (root_of (numeral code a)) → r ≡ operation op code a b
  unfolding operation
  root_at = chosen 0

  pub log_at : op ≡ 1 → r ≡ log_of (numeral code a) → r ≡ operation op code a b
  unfolding operation
  log_at = chosen 1

  pub gather_at : op ≡ 2 → r ≡ gives (gather (bits (width_of code)) a b) → r ≡ operation op code a b
  unfolding operation
  gather_at = chosen 2

  pub scatter_at : op ≡ 3 → r ≡ gives (scatter (bits (width_of code)) a b) → r ≡ operation op code a b
  unfolding operation
  scatter_at = chosen 3

  pub rem_at : op ≡ 4 → r ≡ in_bits code (rem_euclid (width_of code) (numeral code a) (numeral code b)) → r ≡ operation op code a b
  unfolding operation
  rem_at = chosen 4

  pub next_at : op ≡ 5 → r ≡ in_bits code (next_multiple (width_of code) (numeral code a) (numeral code b)) → r ≡ operation op code a b
  unfolding operation
  next_at = chosen 5

-- ---- the codes that an operation takes: all, the unsigned or the signed

data Listed (op code : ℕ) : Type 0 where
  all_codes : op < 2 → code < 8 → Listed op code
  unsigned_codes : op < 4 → code < 4 → Listed op code
  signed_codes : 4 ≤ op → op < 6 → 4 ≤ code → code < 8 → Listed op code

and_both : (s t : Bool) → (s && t) ≡ true → (s ≡ true) × (t ≡ true)
and_both true t e = (refl, e)
and_both false t e = absurd (let h : ◌≡◌ {A = ℕ} 0 1 = cc in omega arith)

range : (op code : ℕ) → takes op code ≡ true → (first_code op ≤ code) × (code < end_code op)
range op code e = let (x, y) = and_both _ _ e in (leb-true _ _ x, ltb-true _ _ y)

listed : (op code : ℕ) → takes op code ≡ true → Listed op code
listed zero code e = all_codes (lit< tt) (range 0 code e).1
listed (suc zero) code e = all_codes (lit< tt) (range 1 code e).1
listed (suc (suc zero)) code e = unsigned_codes (lit< tt) (range 2 code e).1
listed (suc (suc (suc zero))) code e = unsigned_codes (lit< tt) (range 3 code e).1
listed (suc (suc (suc (suc zero)))) code e = let (x, y) = range 4 code e in signed_codes (lit≤ tt) (lit< tt) x y
listed (suc (suc (suc (suc (suc zero))))) code e = let (x, y) = range 5 code e in signed_codes (lit≤ tt) (lit< tt) x y
listed (suc (suc (suc (suc (suc (suc op)))))) code e = absurd (omega (arith, (range (suc (suc (suc (suc (suc (suc op)))))) code e).1))

pub code_small : (op code : ℕ) → takes op code ≡ true → code < 8
code_small op code e = go (listed op code e)
  where
    go : Listed op code → code < 8
    go (all_codes x y) = y
    go (unsigned_codes x y) = omega arith
    go (signed_codes x y z w) = w
