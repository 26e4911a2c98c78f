-- The rows of `answer_of`, in their order.
use mathlib.Core.Path.{◌≡◌, refl, sym, ap, ◌∙◌, subst}
use mathlib.Core.Bool.{Bool, true, false, not, ◌&&◌}
use mathlib.Core.List.{[], ◌∷◌}
use Prim.Native.Nat.{ℕ, ◌<◌, ◌≤◌}
use native.Mathlib.Omega.{arith}
use borrow.Author.Tests.{le-ltb, le-leb, lt-leb}
use lib.Dec.{leb, ltb, eqb}
use lib.ListN.{get_or-eq_default}
use Rattle.answers.specs.Reply.{refused}
use Rattle.operations.specs.Operations.{first_code, end_code, takes, limit, operation, answer_of, Ready}

and_no : (s : Bool) → (s && false) ≡ false
and_no true = refl
and_no false = refl

module _ (op code : ℕ) where
  pub unlisted : 6 ≤ op → false ≡ takes op code
  unlisted h =
      let none : end_code op ≤ code = subst (λ n. n ≤ code) (sym (get_or-eq_default (8 ∷ 8 ∷ 4 ∷ 4 ∷ 8 ∷ 8 ∷ []) 0 h)) (omega arith) in
      sym (ap (λ t. leb (first_code op) code && t) (le-ltb code (end_code op) none) ∙ and_no (leb (first_code op) code))

  pub too_low : code < first_code op → false ≡ takes op code
  too_low h = sym (ap (λ t. t && ltb code (end_code op)) (lt-leb (first_code op) code h))

  pub from_first : first_code op ≤ code → ltb code (end_code op) ≡ takes op code
  from_first h = sym (ap (λ t. t && ltb code (end_code op)) (le-leb (first_code op) code h))

module _ (op code a b : ℕ) where
  pub refuses_11 : takes op code ≡ false → refused 11 ≡ answer_of op code a b
  unfolding answer_of
  refuses_11 e = simp e

  module _ (e : takes op code ≡ true) where
    pub refuses_a : limit code ≤ a → refused 12 ≡ answer_of op code a b
    unfolding answer_of
    refuses_a h = simp (e, le-leb (limit code) a h)

    pub refuses_b : a < limit code → limit code ≤ b → refused 12 ≡ answer_of op code a b
    unfolding answer_of
    refuses_b h k = simp (e, lt-leb (limit code) a h, le-leb (limit code) b k)

  module _ (r : Ready op code a b) where
    pub refuses_unused : op < 2 → not (eqb b 0) ≡ true → refused 12 ≡ answer_of op code a b
    unfolding answer_of
    refuses_unused h k = simp (r.listed, lt-leb (limit code) a r.small, lt-leb (limit code) b r.small_b, lt-leb 2 op h, k)

    pub passes_unused : op < 2 → not (eqb b 0) ≡ false → operation op code a b ≡ answer_of op code a b
    unfolding answer_of
    passes_unused h k = simp (r.listed, lt-leb (limit code) a r.small, lt-leb (limit code) b r.small_b, lt-leb 2 op h, k)

    pub passes_used : 2 ≤ op → operation op code a b ≡ answer_of op code a b
    unfolding answer_of
    passes_used h = simp (r.listed, lt-leb (limit code) a r.small, lt-leb (limit code) b r.small_b, le-leb 2 op h)
