-- The replies that the contracts cite, in plain facts and both ways: with which number each is refused, and what it gives. Assumes nothing.
use mathlib.Core.Path.{◌≡◌, refl, sym, ap, ◌∙◌, subst}
use mathlib.Core.Logic.{◌↔◌}
use Prim.Native.Nat.{ℕ, zero, suc}
use native.Mathlib.Omega.{arith}
use lib.Dec.{lt→ltb}
use lib.IntN.{ℤ, pos, negsuc, nat_abs, ℤ_discrete}
use lib.Signed.{◌<ℤ◌, lt_z_yes, <ℤ_irrefl}
use mir.Syntax.{Width}
use Rattle.answers.specs.Reply.{Reply, gives, refused}
use Rattle.answers.proofs.Rows.{clash}
use Rattle.signed.specs.Signed.{mod_z, min_z, exact, rem_euclid, next, next_multiple}
use Rattle.signed.specs.Words.{InRange, IsRemainder, IsLeast, IsGreatest}
use Rattle.signed.specs.Accepts.{NoFit, RemainderRefused, by_zero, min_by_minus_one, Divides, NextRefused, of_zero, least_no_fit, greatest_no_fit}
use Rattle.signed.proofs.Range.{either, fits_is, outside_is}
use Rattle.signed.proofs.Strict.{exact_fits, exact_not}
use Rattle.signed.proofs.Rem.{some, rem-zero, rem_min, rem_value}
use Rattle.signed.proofs.Next.{next-zero, next_value}
use Rattle.signed.proofs.Words.{one_remainder, least_has, least_only, greatest_has, greatest_only}
use Rattle.signed.proofs.Words as words

number : {k l : ℕ} → ◌≡◌ {A = Reply ℤ} (refused k) (refused l) → k ≡ l
number e = cc

value : {y z : ℤ} → ◌≡◌ {A = Reply ℤ} (gives y) (gives z) → y ≡ z
value e = cc

-- ---- the exact number

module _ (w : Width) (z : ℤ) where
  beyond : NoFit w z → exact w z ≡ refused 4
  beyond n = exact_not w z ((outside_is w z).1 n)

  -- refused with 4 exactly when it is below −2^(width − 1) or above 2^(width − 1) − 1; else given
  pub exact_refused : (k : ℕ) → (exact w z ≡ refused k) ↔ ((k ≡ 4) × NoFit w z)
  exact_refused k = (
    λ e. either w z (λ f. absurd (clash (sym e ∙ exact_fits w z f))) (λ n. (number (sym e ∙ beyond n), n)),
    λ c. beyond c.1 ∙ ap refused (sym c.0),
  )

  pub exact_is : (y : ℤ) → (exact w z ≡ gives y) ↔ (InRange w z × (y ≡ z))
  exact_is y = (
    λ e. either w z (λ f. ((fits_is w z).0 f, value (sym e ∙ exact_fits w z f))) (λ n. absurd (clash (sym (beyond n) ∙ e))),
    λ c. exact_fits w z ((fits_is w z).1 c.0) ∙ ap gives (sym c.1),
  )

-- ---- the remainder

module _ (w : Width) (a d : ℤ) where
  -- the three cases
  rem_cases : {P : Type 0} → (d ≡ pos 0 → P) → (a ≡ min_z w → d ≡ negsuc 0 → P) → (Divides w a d → P) → P
  rem_cases {P} f g h = first (ℤ_discrete d (pos 0))
    where
      second : (d ≡ pos 0 → ⊥) → Dec (a ≡ min_z w) → Dec (d ≡ negsuc 0) → P
      second n (yes e) (yes e') = g e e'
      second n (no m) t = h (record { by_some = n; holds = λ e e'. m e })
      second n (yes e) (no m) = h (record { by_some = n; holds = λ e e'. m e' })

      first : Dec (d ≡ pos 0) → P
      first (yes e) = f e
      first (no n) = second n (ℤ_discrete a (min_z w)) (ℤ_discrete d (negsuc 0))

  -- refused with 3 exactly for d = 0, with 4 exactly for MIN by −1
  pub remainder_refused : (k : ℕ) → (rem_euclid w a d ≡ refused k) ↔ RemainderRefused w a d k
  remainder_refused k = (
    λ e. rem_cases
        (λ z. subst (RemainderRefused w a d) (number (sym (rem-zero w a d z) ∙ e)) (by_zero z))
        (λ m o. subst (RemainderRefused w a d) (number (sym (rem_min w a d m o) ∙ e)) (min_by_minus_one m o))
        (λ v. absurd (clash (sym e ∙ rem_value w a d v))),
    from,
  )
    where
      from : {k : ℕ} → RemainderRefused w a d k → rem_euclid w a d ≡ refused k
      from (by_zero z) = rem-zero w a d z
      from (min_by_minus_one m o) = rem_min w a d m o

  pub remainder_is : (r : ℤ) → (rem_euclid w a d ≡ gives r) ↔ (Divides w a d × IsRemainder a d r)
  remainder_is r = (
    λ e. rem_cases
        (λ z. absurd (clash (sym (rem-zero w a d z) ∙ e)))
        (λ m o. absurd (clash (sym (rem_min w a d m o) ∙ e)))
        (λ v. (v, subst (IsRemainder a d) (value (sym (rem_value w a d v) ∙ e)) (has v))),
    λ c. rem_value w a d c.0 ∙ ap gives (one_remainder a d _ r (has c.0) c.1),
  )
    where
      has : Divides w a d → IsRemainder a d (pos (mod_z a (nat_abs d)))
      has v = words.remainder_is a d (some d v.by_some)

-- ---- the next multiple

by_sign : {P : Type 0} (d : ℤ) → (d ≡ pos 0 → P) → (pos 0 <ℤ d → P) → (d <ℤ pos 0 → P) → P
by_sign (pos zero) f g h = f refl
by_sign (pos (suc n)) f g h = g (lt_z_yes (lt→ltb 0 (suc n) (omega arith)))
by_sign (negsuc n) f g h = h (lt_z_yes tt)

-- P is a property that the next multiple alone has
record Alone (a d : ℤ) (P : ℤ → Type 0) : Type 0 where
  some_divisor : d ≡ pos 0 → ⊥
  has : P (next a d)
  only : (y z : ℤ) → P y → P z → y ≡ z

module _ (w : Width) (a d : ℤ) where
  up : pos 0 <ℤ d → Alone a d (IsLeast a d)
  up l = record { some_divisor = λ e. <ℤ_irrefl (subst (λ z. pos 0 <ℤ z) e l); has = least_has a d l; only = least_only a d }

  down : d <ℤ pos 0 → Alone a d (IsGreatest a d)
  down l = record { some_divisor = λ e. <ℤ_irrefl (subst (λ z. z <ℤ pos 0) e l); has = greatest_has a d l; only = greatest_only a d }

  module _ {P : ℤ → Type 0} (s : Alone a d P) where
    as_exact : next_multiple w a d ≡ exact w (next a d)
    as_exact = next_value w a d s.some_divisor

    same : {z : ℤ} → P z → z ≡ next a d
    same {z} p = s.only z (next a d) p s.has

    next_beyond : {z : ℤ} → P z → NoFit w z → next_multiple w a d ≡ refused 4
    next_beyond p n = as_exact ∙ beyond w (next a d) (subst (NoFit w) (same p) n)

    not_given : {k : ℕ} → next_multiple w a d ≡ refused k → (NoFit w (next a d) → NextRefused w a d 4) → NextRefused w a d k
    not_given {k} e f =
        let (four, n) = (exact_refused w (next a d) k).0 (sym as_exact ∙ e) in subst (NextRefused w a d) (sym four) (f n)

    next_is : (z : ℤ) → (next_multiple w a d ≡ gives z) ↔ (P z × InRange w z)
    next_is z = (
      λ e. let (r, h) = (exact_is w (next a d) z).0 (sym as_exact ∙ e) in (subst P (sym h) s.has, subst (InRange w) (sym h) r),
      λ c. as_exact ∙ (exact_is w (next a d) z).1 (subst (InRange w) (same c.0) c.1, same c.0),
    )

  -- refused with 3 exactly for d = 0, with 4 exactly when the multiple does not fit
  pub next_refused : (k : ℕ) → (next_multiple w a d ≡ refused k) ↔ NextRefused w a d k
  next_refused k = (
    λ e. by_sign d
        (λ z. subst (NextRefused w a d) (number (sym (next-zero w a d z) ∙ e)) (of_zero z))
        (λ l. not_given (up l) e (least_no_fit l (least_has a d l)))
        (λ l. not_given (down l) e (greatest_no_fit l (greatest_has a d l))),
    from,
  )
    where
      from : {k : ℕ} → NextRefused w a d k → next_multiple w a d ≡ refused k
      from (of_zero z) = next-zero w a d z
      from (least_no_fit l h n) = next_beyond (up l) h n
      from (greatest_no_fit l h n) = next_beyond (down l) h n

  -- for d > 0 the least multiple that is ≥ a, for d < 0 the greatest that is ≤ a
  pub least_is : pos 0 <ℤ d → (z : ℤ) → (next_multiple w a d ≡ gives z) ↔ (IsLeast a d z × InRange w z)
  least_is l = next_is (up l)

  pub greatest_is : d <ℤ pos 0 → (z : ℤ) → (next_multiple w a d ≡ gives z) ↔ (IsGreatest a d z × InRange w z)
  greatest_is l = next_is (down l)
