-- Parts of a slice as the code lends them: one that reaches to the end, and what two copies in a row leave.
use mathlib.Core.Path.{◌≡◌, refl, sym, ap, ap₂, ◌∙◌}
use mathlib.Core.List.{List, ◌++◌, append_assoc, append-nil}
use Prim.Native.Nat.{ℕ, zero, suc, ◌+◌, ◌-◌}
use native.Mathlib.Omega.{arith}
use borrow.Rule.Slice.PartMut.{mid_of, put_mid}
use lib.ListN.{length, take, drop, replicate, length-drop, drop_of_length-le}
use lib.Seq.{take_all, take-length, take_at, drop_at, drop-drop}

pub mid_tail : (a : ℕ) (xs : List ℕ) → mid_of a (length xs - a) xs ≡ drop a xs
mid_tail a xs = take_all (length xs - a) (drop a xs) (omega (arith, length-drop a xs))

pub put_tail : (a : ℕ) (xs ys : List ℕ) → put_mid a (length xs - a) xs ys ≡ take a xs ++ ys
put_tail a xs ys = ap (λ t. take a xs ++ (ys ++ t)) (drop_of_length-le (drop a xs) {i = length xs - a} (omega (arith, length-drop a xs))) ∙ ap (λ t. take a xs ++ t) (append-nil ys)

-- one list copied to the front of another, and a second one behind it
pub copied_twice : (first second into : List ℕ) {mid last : List ℕ} →
    mid ≡ take (length first) first ++ drop (length first) into →
    last ≡ take (length second) second ++ drop (length second) (mid_of (length first) (length mid - length first) mid) →
    put_mid (length first) (length mid - length first) mid last ≡ (first ++ second) ++ drop (length first + length second) into
copied_twice first second into {mid} {last} e f =
    let m : mid ≡ first ++ drop (length first) into = e ∙ ap (λ l. l ++ drop (length first) into) (take-length first) in
    let front : take (length first) mid ≡ first = ap (take (length first)) m ∙ take_at first (drop (length first) into) (length first) refl in
    let back : drop (length first) mid ≡ drop (length first) into = ap (drop (length first)) m ∙ drop_at first (drop (length first) into) (length first) refl in
    let l : last ≡ second ++ drop (length first + length second) into =
    f ∙ ap₂ ◌++◌ (take-length second) (ap (drop (length second)) (mid_tail (length first) mid ∙ back) ∙ drop-drop (length second) (length first) into) in
    put_tail (length first) mid last ∙ ap₂ ◌++◌ front l ∙ sym (append_assoc first second (drop (length first + length second) into))

pub drop-replicate : (n m a : ℕ) → drop n (replicate m a) ≡ replicate (m - n) a
drop-replicate zero m a = let e : m ≡ m - 0 = omega arith in ap (λ k. replicate k a) e
drop-replicate (suc n) zero a = let e : 0 ≡ 0 - suc n = omega arith in ap (λ k. replicate k a) e
drop-replicate (suc n) (suc m) a = let e : m - n ≡ suc m - suc n = omega arith in drop-replicate n m a ∙ ap (λ k. replicate k a) e
