-- A list is the first two bytes of its front, what is behind them there, and what is behind the front.
use Rattle.std.proofs.Common.{◌≡◌, ℕ, ◌-◌, ◌≤◌, List, ◌∷◌, ◌++◌, length, get_or, take, drop, arith, rules}
use Rattle.std.proofs.lemmas.Grind.{common_steps}
use Rattle.std.specs.List.{IsSplitAt}
use Rattle.edges.proofs.entry.Entry.split_first.Goals as goal

parts : (list : List ℕ) (size : ℕ) (front rest : List ℕ) {n : ℕ} → IsSplitAt list size front rest → 2 ≤ length front → n ≡ get_or list 0 0
    → list ≡ n ∷ get_or front 1 0 ∷ (take (length front - 2) (drop 2 front) ++ rest)
parts list size front rest e h k = grind (arith, common_steps)

pub returns-clause-parts : goal.returns-clause-parts
returns-clause-parts c = parts _ _ _ _ c.in_ok-front.ensures.cases (search rules) (search rules)
