-- The replies that an answer says after `map`, and after a `?` that passes a refusal on.
use mathlib.Core.Path.{◌≡◌, ap}
use Rattle.std.specs.Prelude.{Ok, Err}
use Rattle.std.specs.Result.{IsOkAnd, IsErrAnd, MatchResult}
use Rattle.answers.specs.Reply.{gives, refused, mapped}
use Rattle.answers.specs.Answers.{Answer, number_of, reads, means}
use Rattle.answers.specs.declared.Refusal.{Refusal}

module _ {A B C : Type 0} (f : A → C) {D : Type 0} (g : B → D) (h : C → D) (P : A → B → Type 0) (k : (x : A) (y : B) → P x y → g y ≡ h (f x)) where
  pub mapped_answer : (s : Answer A) (r : Answer B) → MatchResult s (λ x. IsOkAnd r (P x)) (λ e. r ≡ Err e) → reads g r ≡ mapped h (reads f s)
  mapped_answer (Ok x) (Ok y) p = ap gives (k x y p)
  mapped_answer (Ok x) (Err e) p = absurd p
  mapped_answer (Err e) r p = ap (reads g) p

-- the value is written otherwise, and stands for the same
pub kept_answer : {A B C : Type 0} (f : A → C) (g : B → C) (P : A → B → Type 0) → ((x : A) (y : B) → P x y → g y ≡ f x) → (s : Answer A) (r : Answer B) →
    MatchResult s (λ x. IsOkAnd r (P x)) (λ e. r ≡ Err e) → reads g r ≡ reads f s
kept_answer f g P k (Ok x) (Ok y) p = ap gives (k x y p)
kept_answer f g P k (Ok x) (Err e) p = absurd p
kept_answer f g P k (Err e) r p = ap (reads g) p

pub passed_on : {A : Type 0} (why : Refusal) (r : Answer A) → IsErrAnd r (λ e. e ≡ why) → means r ≡ refused (number_of why)
passed_on why (Ok x) p = absurd p
passed_on why (Err e) p = ap (λ y. refused (number_of y)) p
