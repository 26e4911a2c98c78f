-- Words that a loop stores from the front on, one a turn, each by a rule.
use Rattle.std.proofs.Common.{◌≡◌, ℕ, ◌+◌, ◌<◌, ◌≤◌, List, length, get_or, set, ◌∙◌, arith, length-set, get_or-set_other, get_or-set_same, below_none, below_more}
use Rattle.edges.specs.Words.{Each}

pub record Written (f : ℕ → ℕ) (n : ℕ) (words : List ℕ) (i : ℕ) : Type 0 where
  pub same : length words ≡ n
  pub most : i ≤ n
  pub so_far : (k : ℕ) → k < i → get_or words k 0 ≡ f k

module _ {f : ℕ → ℕ} {n : ℕ} {words : List ℕ} where
  pub written_start : length words ≡ n → Written f n words 0
  written_start e = record { same = e; most = omega arith; so_far = below_none (λ k. get_or words k 0 ≡ f k) }

  module _ {i : ℕ} (w : Written f n words i) where
    pub written_next : {v : ℕ} → i < n → v ≡ f i → Written f n (set words i v) (i + 1)
    written_next {v} h e =
        let here : get_or (set words i v) i 0 ≡ f i = get_or-set_same words i v 0 (omega (arith, w.same)) ∙ e in
        let before : (k : ℕ) → k < i → get_or (set words i v) k 0 ≡ f k =
        λ k l. get_or-set_other words i k v 0 (λ same. omega arith) ∙ w.so_far k l in
        record {
          same = length-set words i v ∙ w.same;
          most = omega arith;
          so_far = below_more (λ k. get_or (set words i v) k 0 ≡ f k) i before here;
        }

    pub written_end : n ≤ i → Each f words
    written_end h = record { at = λ k l. w.so_far k (omega (arith, w.same)) }
