-- What `&&` and `||` give, and the arm that the code took at a `&&`. Assumes nothing.
use mathlib.Core.Path.{◌≡◌, refl, sym, ap, ◌∙◌}
use mathlib.Core.Bool.{Bool, true, false, ◌&&◌, ◌||◌}
use mathlib.Core.Logic.{◌⊎◌, ⊎_elim}

pub and-false : (t : Bool) → (t && false) ≡ false
and-false true = refl
and-false false = refl

pub and-true : (t : Bool) → (t && true) ≡ t
and-true true = refl
and-true false = refl

pub or-false : (t : Bool) → (t || false) ≡ t
or-false true = refl
or-false false = refl

-- v comes from `t && u`: u where t holds, else t itself
abbrev pub Came-and : Bool → Bool → Bool → Type 0
Came-and t u v = ((t ≡ true) × (v ≡ u)) ⊎ ((t ≡ false) × (v ≡ t))

pub came_and : {t u v : Bool} → Came-and t u v → v ≡ (t && u)
came_and {t} {u} = ⊎_elim (λ c. c.1 ∙ sym (ap (λ x. x && u) c.0)) (λ c. c.1 ∙ c.0 ∙ sym (ap (λ x. x && u) c.0))
