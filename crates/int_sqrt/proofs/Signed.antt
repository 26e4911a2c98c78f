-- The root of a signed number, over its width: from the check and the root at the widest type.
use Rattle.std.proofs.Common.{◌≡◌, ℕ, ◌^◌, ◌<◌, ℤ, pos, negsuc, nat_abs, refl, sym, ap, ◌∙◌, subst, arith, SFits}
use Rattle.std.specs.Int.{w64}
use lib.Signed.{mag}
use mir.Syntax.{Width}
use mir.Val.{hbits, to_z}
use mir.ValLaws.{to_z_pos}
use Rattle.answers.specs.Reply.{Reply, gives}
use Rattle.answers.proofs.Rows.{clash}
use Rattle.laws.proofs.Held.{held, is_held}
use Rattle.signed.specs.Signed.{wrap}
use Rattle.signed.proofs.Wrap.{wrap_fits}
use Rattle.int_sqrt.specs.Root.{root, root_of, root_check}
use Rattle.int_sqrt.proofs.Root.{root_le}

-- what passes the check is not below 0
passed : (z : ℤ) {u : Unit {0}} → gives u ≡ root_check z → z ≡ pos (nat_abs z)
passed (pos n) e = refl
passed (negsuc n) e = absurd (clash (sym e))

-- the root is at most the number, so it fits where the number does
pub root_fits : {w : Width} {n : ℤ} {s : ℕ} → SFits w n → n ≡ pos (nat_abs n) → s ≡ root (nat_abs n) → SFits w (pos s)
root_fits {w} {n} {s} f is r =
    let m : mag n ≡ nat_abs n = ap mag is in
    let h : s < 2 ^ hbits w = omega (arith, root_le (nat_abs n), r, f.sfits) in
    record { sfits = h }

-- y is n in the widest type, and s the root that is worked out there
module _ {w : Width} {n y : ℤ} {s : ℕ} {u : Unit {0}} (f : SFits w n) (e : y ≡ n) (fy : SFits w64 y) (checked : gives u ≡ root_check (held w64 y)) (r : s ≡ root (nat_abs (held w64 y))) where
  is_n : held w64 y ≡ n
  is_n = is_held fy ∙ e

  is : n ≡ pos (nat_abs n)
  is = passed n (checked ∙ ap root_check is_n)

  same : s ≡ root (nat_abs n)
  same = r ∙ ap (λ z. root (nat_abs z)) is_n

  pub wide_fits : SFits w64 (pos s)
  wide_fits = root_fits (subst (SFits w64) e fy) is same

  pub answers : {z : ℤ} → z ≡ wrap w (to_z w64 s) → ◌≡◌ {A = Reply ℤ} (gives z) (root_of n)
  answers h = ap gives (h ∙ ap (wrap w) (to_z_pos w64 s wide_fits.sfits) ∙ wrap_fits w (pos s) (root_fits f is same) ∙ ap pos same) ∙ sym (ap root_of is)
