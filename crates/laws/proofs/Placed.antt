-- What stands where after a list is put in place, and that nothing else stands so. Assumes nothing.
use mathlib.Core.Path.{◌≡◌, sym, ap, ◌∙◌}
use mathlib.Core.List.{List, ◌++◌}
use Prim.Native.Nat.{ℕ, ◌+◌, ◌-◌, ◌≤◌}
use native.Mathlib.Omega.{arith}
use lib.ListN.{length, get_or, take, drop, length-append, length-drop, get_or-append}
use lib.Seq.{length-take-le, get_or-take, get_or-drop, get_or-append-add, ext_get_or}
use Rattle.laws.specs.Placed.{placed, InPlace}
use Rattle.laws.proofs.Order.{by_order}

-- an index counted from the end of a front
past : (front rest : List ℕ) (n i : ℕ) → length front ≡ n → get_or (front ++ rest) (n + i) 0 ≡ get_or rest i 0
past front rest n i e = rw (← e) (get_or-append-add front rest i 0)

pub placed_is : (xs l : List ℕ) (place : ℕ) → place + length xs ≤ length l → InPlace xs l place (placed xs l place)
placed_is xs l place fits =
    let front = take place l in
    let rest = drop (place + length xs) l in
    let n : length front ≡ place = length-take-le place l (omega arith) in
    record {
      within = λ i h. past front (xs ++ rest) place i n ∙ get_or-append xs rest 0 i h;
      before = λ i h. get_or-append front (xs ++ rest) 0 i (omega arith) ∙ get_or-take place l i 0 h;
      behind = λ i h.
          let j = i - (place + length xs) in
          let e : i ≡ place + (length xs + j) = omega arith in
          ap (λ k. get_or (front ++ (xs ++ rest)) k 0) e ∙ past front (xs ++ rest) place (length xs + j) n ∙ get_or-append-add xs rest j 0
          ∙ get_or-drop (place + length xs) l j 0 ∙ ap (λ k. get_or l k 0) (omega arith);
      same_length = simp (length-append, n, length-drop) (omega arith);
    }

-- the facts leave no choice
pub one_placed : {xs l : List ℕ} {place : ℕ} {a b : List ℕ} → InPlace xs l place a → InPlace xs l place b → a ≡ b
one_placed {xs} {l} {place} {a} {b} p q = ext_get_or 0 a b (p.same_length ∙ sym q.same_length) (λ i h. same i)
  where
    same : (i : ℕ) → get_or a i 0 ≡ get_or b i 0
    same i =
        by_order i place (λ h. p.before i h ∙ sym (q.before i h))
        (λ h. by_order i (place + length xs)
        (λ g. let e : i ≡ place + (i - place) = omega arith in rw e (p.within (i - place) (omega arith) ∙ sym (q.within (i - place) (omega arith))))
        (λ g. p.behind i g ∙ sym (q.behind i g)))
