-- A state as 17 bytes, and a stream's calls in C's numbers.
use mathlib.Core.Path.{◌≡◌, refl, sym, ap, ◌∙◌, subst}
use mathlib.Core.List.{List, [], ◌∷◌, ◌++◌}
use Prim.Native.Nat.{ℕ}
use native.Mathlib.Omega.{arith}
use lib.ListN.{length, get_or, set, take, drop, replicate, take-append-drop}
use lib.Seq.{drop-length, drop-cons, set_at}
use Rattle.answers.specs.Reply.{Reply, gives, refused, refusal_of, natural, leaves}
use Rattle.answers.specs.Answers.{Answer, means}
use Rattle.stream.specs.declared.Stream.{Stream}
use Rattle.stream.specs.Stream.{outcome, keeping, take_reply, Takes, Feeds, Ends}
use Rattle.stream.specs.Packed.{state_of, bytes_of, Told, ToldFeed, ToldEnd}

-- the 17 bytes of a state: 16 are copied over zeros, and then their count
pub packed : (s : Stream) {k : List ℕ} → length s.bytes ≡ 16 → k ≡ s.bytes → set (k ++ (0 ∷ [])) 16 s.count ≡ bytes_of s
unfolding bytes_of
packed s n e = ap (λ k. set (k ++ (0 ∷ [])) 16 s.count) e ∙ set_at s.bytes 0 [] s.count 16 n

-- nothing is lost either way, and all zeros is fresh
pub bytes_back : (b : List ℕ) → length b ≡ 17 → bytes_of (state_of b) ≡ b
unfolding bytes_of state_of
bytes_back b n =
    let last : drop 16 b ≡ get_or b 16 0 ∷ [] = drop-cons b 16 0 (omega arith) ∙ ap (λ l. get_or b 16 0 ∷ l) (ap (λ i. drop i b) (sym n) ∙ drop-length b) in
    ap (λ l. take 16 b ++ l) (sym last) ∙ take-append-drop 16 b

pub zeros_fresh : state_of (replicate 17 0) ≡ keeping []
unfolding state_of keeping
zeros_fresh = refl

-- ---- a call on the state that bytes are, told in C

packed_of : {A : Type 0} (r : Reply A) (s t : Stream) → bytes_of (leaves r s t) ≡ leaves r (bytes_of s) (bytes_of t)
packed_of (gives a) s t = refl
packed_of (refused k) s t = refl

-- the numbers and the next state's bytes, whether it is accepted or not: refused, they are those that came
module _ {b : List ℕ} (n : length b ≡ 17) {output output' b' : List ℕ} {next : Stream} {reply : Answer ℕ} {k written : ℕ}
    (is : b' ≡ bytes_of next) (ek : k ≡ refusal_of (means reply)) (ew : written ≡ natural (means reply)) where
  told : {input left : List ℕ} → Takes (state_of b) input left output (outcome next reply) output' → Told b input left output k written b' output'
  told {input} {left} p =
      let r = take_reply (state_of b) input output in
      record {
        returns = ek ∙ ap refusal_of p.replies;
        leaves_written = ew ∙ ap natural p.replies;
        leaves_state = is ∙ ap bytes_of p.next_state ∙ packed_of r (keeping left) (state_of b) ∙ ap (leaves r (bytes_of (keeping left))) (bytes_back b n);
        leaves_output = p.leaves_output;
      }

  pub feed_told : (fragment : List ℕ) {s : Stream} → s ≡ state_of b → Feeds s fragment output (outcome next reply) output' → ToldFeed b fragment output k written b' output'
  feed_told fragment e p = told (subst (λ s. Feeds s fragment output (outcome next reply) output') e p)

  pub end_told : {s : Stream} → s ≡ state_of b → Ends s output (outcome next reply) output' → ToldEnd b output k written b' output'
  end_told e p = told (subst (λ s. Ends s output (outcome next reply) output') e p)
