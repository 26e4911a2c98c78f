-- The next multiple, over the width: the code's m is the remainder with the divisor's sign, and d − m the way from a. Assumes nothing.
use mathlib.Core.Path.{◌≡◌, refl, sym, ap, ◌∙◌, subst}
use mathlib.Core.Bool.{Bool, true, false, cond, ◌&&◌, ◌||◌}
use Prim.Native.Nat.{ℕ, zero, suc, ◌+◌, ◌-◌, ◌%◌, ◌^◌, ◌<◌}
use native.Mathlib.Nat.{mod-eq_of_lt, mod-eq-sub-mod, zero-mod, mod-one}
use native.Mathlib.Omega.{arith}
use borrow.Author.Tests.{lt-ltb, le-ltb}
use lib.IntN.{ℤ, pos, negsuc, neg_ℤ, nat_abs, ◌+ℤ◌, ◌-ℤ◌, +ℤ_idr, +ℤ_invl, neg_ℤ-+ℤ, neg_ℤ-neg_ℤ}
use lib.Signed.{lt_z, rem_z}
use mir.Syntax.{Width}
use mir.Val.{hbits, SFits}
use Rattle.answers.specs.Reply.{gives, refused}
use Rattle.laws.proofs.Held.{held, is_held}
use Rattle.laws.proofs.Order.{by_order, sub_cases, pos-minus}
use Rattle.laws.proofs.Tests.{and-false, and-true, or-false}
use Rattle.signed.specs.Signed.{mod_z, opposite, exact, wrap, next, next_multiple}
use Rattle.signed.specs.Accepts.{Divides}
use Rattle.signed.proofs.ModZ.{below, mod-add}
use Rattle.signed.proofs.Wrap.{wrap_fits}
use Rattle.signed.proofs.Strict.{exact_fits, neg_flag}
use Rattle.signed.proofs.Rem.{eq_z_no, some, rem_kept, rem_raised, left_held}

-- ---- −a and a modulo m: both 0, or m together

neg-mod : (m : ℕ) → 0 < m → (a : ℤ) (P : Type 0) → (mod_z (neg_ℤ a) m + mod_z a m ≡ 0 → P) → (mod_z (neg_ℤ a) m + mod_z a m ≡ m → P) → P
neg-mod m p a P f g =
    by_order (mod_z (neg_ℤ a) m + mod_z a m) m
    (λ h. f (sym (mod-eq_of_lt h) ∙ whole))
    (λ h. g (let e : mod_z (neg_ℤ a) m + mod_z a m - m ≡ 0 = sym (mod-eq_of_lt (omega (arith, below m p (neg_ℤ a), below m p a))) ∙ sym (mod-eq-sub-mod h) ∙ whole in omega arith))
  where
    whole : (mod_z (neg_ℤ a) m + mod_z a m) % m ≡ 0
    whole = sym (mod-add m p (neg_ℤ a) a) ∙ ap (λ z. mod_z z m) (+ℤ_invl a) ∙ zero-mod m

none_left : (m : ℕ) → 0 < m → (a : ℤ) → mod_z a m ≡ 0 → mod_z (neg_ℤ a) m ≡ 0
none_left m p a e = neg-mod m p a (mod_z (neg_ℤ a) m ≡ 0) (λ h. omega arith) (λ h. absurd (omega (arith, e, below m p (neg_ℤ a))))

rest_left : (m : ℕ) → 0 < m → (a : ℤ) → (mod_z a m ≡ 0 → ⊥) → pos m -ℤ pos (mod_z a m) ≡ pos (mod_z (neg_ℤ a) m)
rest_left m p a n =
    neg-mod m p a (pos m -ℤ pos (mod_z a m) ≡ pos (mod_z (neg_ℤ a) m))
    (λ h. absurd (n (omega arith)))
    (λ h. pos-minus m (mod_z a m) ∙ sub_cases (λ z. z ≡ pos (mod_z (neg_ℤ a) m)) m (mod_z a m) (λ l. absurd (omega arith)) (λ l. ap pos (omega arith)))

-- ---- the remainder with the divisor's sign, and the way from a to the next multiple

signed_rem : ℤ → ℤ → ℤ
signed_rem a (pos k) = pos (mod_z a k)
signed_rem a (negsuc k) = neg_ℤ (pos (mod_z (neg_ℤ a) (suc k)))

gap : ℤ → ℤ → ℤ
gap a (pos k) = pos (mod_z (neg_ℤ a) k)
gap a (negsuc k) = neg_ℤ (pos (mod_z a (suc k)))

next_gap : (a d : ℤ) → next a d ≡ a +ℤ gap a d
unfolding gap
next_gap a (pos k) = refl
next_gap a (negsuc k) = refl

no_gap : (a d : ℤ) → 0 < nat_abs d → signed_rem a d ≡ pos 0 → gap a d ≡ pos 0
unfolding gap signed_rem
no_gap a (pos k) p e = ap pos (none_left k p a (ap nat_abs e))
no_gap a (negsuc k) p e =
    ap (λ n. neg_ℤ (pos n))
    (ap (λ z. mod_z z (suc k)) (sym (neg_ℤ-neg_ℤ a)) ∙ none_left (suc k) p (neg_ℤ a) (ap nat_abs (sym (neg_ℤ-neg_ℤ (pos (mod_z (neg_ℤ a) (suc k)))) ∙ ap neg_ℤ e)))

a_gap : (a d : ℤ) → 0 < nat_abs d → (signed_rem a d ≡ pos 0 → ⊥) → d -ℤ signed_rem a d ≡ gap a d
unfolding gap signed_rem
a_gap a (pos k) p n = rest_left k p a (λ e. n (ap pos e))
a_gap a (negsuc k) p n =
    sym (neg_ℤ-+ℤ (pos (suc k)) (neg_ℤ (pos (mod_z (neg_ℤ a) (suc k)))))
    ∙ ap neg_ℤ (rest_left (suc k) p (neg_ℤ a) (λ e. n (ap (λ x. neg_ℤ (pos x)) e)) ∙ ap (λ z. pos (mod_z z (suc k))) (neg_ℤ-neg_ℤ a))

-- the way is shorter than d, so it fits where d does
minus_fits : (w : Width) (n : ℕ) → n < 2 ^ hbits w → SFits w (neg_ℤ (pos n))
minus_fits w zero h = record { sfits = h }
minus_fits w (suc n) h = record { sfits = omega arith }

gap_small : (w : Width) (a d : ℤ) → 0 < nat_abs d → SFits w d → SFits w (gap a d)
unfolding gap
gap_small w a (pos k) p f = record { sfits = omega (arith, f.sfits, below k p (neg_ℤ a)) }
gap_small w a (negsuc k) p f = minus_fits w (mod_z a (suc k)) (omega (arith, f.sfits, below (suc k) p a))

signed_rem_small : (w : Width) (a d : ℤ) → 0 < nat_abs d → SFits w d → SFits w (signed_rem a d)
unfolding signed_rem
signed_rem_small w a (pos k) p f = record { sfits = omega (arith, f.sfits, below k p a) }
signed_rem_small w a (negsuc k) p f = minus_fits w (mod_z (neg_ℤ a) (suc k)) (omega (arith, f.sfits, below (suc k) p (neg_ℤ a)))

-- ---- the code's m: the machine's remainder r, with d added where their signs differ

-- the remainder by −k is that of −a by k, negated
rem_negated : (a : ℤ) (k : ℕ) → rem_z a (negsuc k) ≡ neg_ℤ (rem_z (neg_ℤ a) (pos (suc k)))
rem_negated (pos zero) k = ap pos (zero-mod (suc k)) ∙ sym (ap (λ n. neg_ℤ (pos n)) (zero-mod (suc k)))
rem_negated (pos (suc n)) k = sym (neg_ℤ-neg_ℤ (pos (suc n % suc k)))
rem_negated (negsuc n) k = refl

-- the flag is the sign of the remainder by |d|
opposite_up : (r : ℤ) (k : ℕ) → opposite r (pos (suc k)) ≡ lt_z r (pos 0)
opposite_up r k =
    ap (λ t. (lt_z (pos 0) r && t) || (lt_z r (pos 0) && lt_z (pos 0) (pos (suc k)))) (le-ltb (suc k) 0 (omega arith))
    ∙ ap (λ t. t || (lt_z r (pos 0) && lt_z (pos 0) (pos (suc k)))) (and-false (lt_z (pos 0) r))
    ∙ ap (λ t. lt_z r (pos 0) && t) (lt-ltb 0 (suc k) (omega arith)) ∙ and-true (lt_z r (pos 0))

opposite_down : (r : ℤ) (k : ℕ) → opposite (neg_ℤ r) (negsuc k) ≡ lt_z r (pos 0)
opposite_down r k =
    ap (λ t. t || (lt_z (neg_ℤ r) (pos 0) && false)) (and-true (lt_z (pos 0) (neg_ℤ r)))
    ∙ ap (λ t. lt_z (pos 0) (neg_ℤ r) || t) (and-false (lt_z (neg_ℤ r) (pos 0))) ∙ or-false (lt_z (pos 0) (neg_ℤ r))
    ∙ sym (neg_flag (neg_ℤ r)) ∙ ap (λ z. lt_z z (pos 0)) (neg_ℤ-neg_ℤ r)

below_down : (a : ℤ) (k : ℕ) {t : Bool} → opposite (rem_z a (negsuc k)) (negsuc k) ≡ t → lt_z (rem_z (neg_ℤ a) (pos (suc k))) (pos 0) ≡ t
below_down a k e = sym (opposite_down (rem_z (neg_ℤ a) (pos (suc k))) k) ∙ ap (λ r. opposite r (negsuc k)) (sym (rem_negated a k)) ∙ e

joined : (a d : ℤ) → 0 < nat_abs d → opposite (rem_z a d) d ≡ true → rem_z a d +ℤ d ≡ signed_rem a d
unfolding signed_rem
joined a (pos zero) p e = absurd (omega arith)
joined a (pos (suc k)) p e = rem_raised a (pos (suc k)) p (sym (opposite_up (rem_z a (pos (suc k))) k) ∙ e)
joined a (negsuc k) p e =
    ap (λ z. z +ℤ negsuc k) (rem_negated a k) ∙ sym (neg_ℤ-+ℤ (rem_z (neg_ℤ a) (pos (suc k))) (pos (suc k)))
    ∙ ap neg_ℤ (rem_raised (neg_ℤ a) (pos (suc k)) p (below_down a k e))

kept : (a d : ℤ) → 0 < nat_abs d → opposite (rem_z a d) d ≡ false → rem_z a d ≡ signed_rem a d
unfolding signed_rem
kept a (pos zero) p e = absurd (omega arith)
kept a (pos (suc k)) p e = rem_kept a (pos (suc k)) p (sym (opposite_up (rem_z a (pos (suc k))) k) ∙ e)
kept a (negsuc k) p e = rem_negated a k ∙ ap neg_ℤ (rem_kept (neg_ℤ a) (pos (suc k)) p (below_down a k e))

-- ---- what `next_multiple_of` needs and gives

pub next-zero : (w : Width) (a d : ℤ) → d ≡ pos 0 → next_multiple w a d ≡ refused 3
unfolding next_multiple
next-zero w a d e = ap (next_multiple w a) e

pub next_value : (w : Width) (a d : ℤ) → (d ≡ pos 0 → ⊥) → next_multiple w a d ≡ exact w (next a d)
unfolding next_multiple
next_value w a d h = ap (λ t. cond t (refused 3) (exact w (next a d))) (eq_z_no d (pos 0) h)

by_one : (a : ℤ) → mod_z a 1 ≡ 0
by_one (pos n) = mod-one n
by_one (negsuc n) = omega arith

-- the code's m, of the machine's remainder r
abbrev pub turned : ℤ → ℤ → ℤ
turned r d = cond (opposite r d) (r +ℤ d) r

module _ (w : Width) (a d : ℤ) (p : 0 < nat_abs d) where
  nonzero : d ≡ pos 0 → ⊥
  nonzero e = omega (arith, ap nat_abs e)

  turned_is : turned (rem_z a d) d ≡ signed_rem a d
  turned_is = by (opposite (rem_z a d) d) refl
    where
      by : (t : Bool) → opposite (rem_z a d) d ≡ t → cond t (rem_z a d +ℤ d) (rem_z a d) ≡ signed_rem a d
      by true e = joined a d p e
      by false e = kept a d p e

  -- a is the answer where it is the next multiple itself
  stays : gap a d ≡ pos 0 → SFits w a → next_multiple w a d ≡ gives a
  stays e f = next_value w a d nonzero ∙ ap (exact w) (next_gap a d ∙ ap (λ z. a +ℤ z) e ∙ +ℤ_idr a) ∙ exact_fits w a f

  pub next_stays : SFits w a → turned (rem_z a d) d ≡ pos 0 → next_multiple w a d ≡ gives a
  next_stays f e = stays (no_gap a d p (sym turned_is ∙ e)) f

  step_is : (turned (rem_z a d) d ≡ pos 0 → ⊥) → d -ℤ turned (rem_z a d) d ≡ gap a d
  step_is n = ap (λ z. d -ℤ z) turned_is ∙ a_gap a d p (λ e. n (turned_is ∙ e))

  pub step_fits : SFits w d → (turned (rem_z a d) d ≡ pos 0 → ⊥) → SFits w (d -ℤ turned (rem_z a d) d)
  step_fits f n = subst (SFits w) (sym (step_is n)) (gap_small w a d p f)

  pub next_steps : SFits w d → (turned (rem_z a d) d ≡ pos 0 → ⊥) → next_multiple w a d ≡ exact w (a +ℤ wrap w (d -ℤ turned (rem_z a d) d))
  next_steps f n =
      next_value w a d nonzero ∙ ap (exact w) (next_gap a d)
      ∙ ap (λ z. exact w (a +ℤ z)) (sym (ap (wrap w) (step_is n) ∙ wrap_fits w (gap a d) (gap_small w a d p f)))

pub next_alone : (w : Width) (a d : ℤ) → SFits w a → d ≡ negsuc 0 → next_multiple w a d ≡ gives a
unfolding gap
next_alone w a d f e = stays w a d (omega (arith, ap nat_abs e)) (ap (gap a) e ∙ ap (λ n. neg_ℤ (pos n)) (by_one a)) f

-- the sum of the remainder and d fits where their signs differ
module _ {w : Width} {a d : ℤ} (fa : SFits w a) (fd : SFits w d) (v : Divides w a d) where
  abbrev left : ℤ
  left = rem_z (held w a) (held w d)

  pub joined_fits : opposite (held w left) (held w d) ≡ true → SFits w (held w left +ℤ held w d)
  joined_fits e =
      let flag : opposite (rem_z a d) d ≡ true = sym (ap (λ r. opposite r (held w d)) (left_held fa fd v) ∙ ap (opposite (rem_z a d)) (is_held fd)) ∙ e in
      let is : held w left +ℤ held w d ≡ signed_rem a d = ap (λ r. r +ℤ held w d) (left_held fa fd v) ∙ ap (λ z. rem_z a d +ℤ z) (is_held fd) ∙ joined a d (some d v.by_some) flag in
      subst (SFits w) (sym is) (signed_rem_small w a d (some d v.by_some) fd)
