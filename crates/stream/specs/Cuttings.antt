-- An input that comes in fragments, and the calls that answer it.
use Rattle.std.specs.Prelude.{Err}
use Rattle.std.specs.Prelude.{◌≡◌, List, [], ◌∷◌, ◌++◌, ℕ, ◌*◌, ◌/◌, ◌≤◌, ◌<◌, length, take}
use Rattle.answers.specs.Reply.{natural}
use Rattle.answers.specs.Answers.{means}
use Rattle.answers.specs.declared.Refusal.{Refusal}
use Rattle.stream.specs.declared.Stream.{Stream}
use Rattle.stream.specs.Stream.{Fed, kept, Takes, Feeds, Ends}
use Rattle.stream.specs.Packed.{state_of, Told, ToldFeed, ToldEnd}

-- the fragments one after the other: the whole input
abbrev pub joined : List (List ℕ) → List ℕ
joined [] = []
joined (fragment ∷ fragments) = fragment ++ joined fragments

-- what a call says that it wrote: the first bytes of the output that it leaves
abbrev pub wrote : Fed → List ℕ → List ℕ
wrote r output' = take (natural (means r.reply)) output'

-- `Run s fragments bytes`: from the state s the fragments are fed in order, and then comes the end, each call with room, in an output
-- of its own. Calls that are refused may stand anywhere between. Each call keeps the promise of its function, and starts from the state
-- that the one before it left. `bytes` is what they wrote, joined.
pub data Run : Stream → List (List ℕ) → List ℕ → Type 0 where
  fed : {s : Stream} {fragment output output' bytes : List ℕ} {fragments : List (List ℕ)} {r : Fed} →
      Feeds s fragment output r output' → 9 * (length (kept s ++ fragment) / 17) ≤ length output → Run r.state fragments bytes →
      Run s (fragment ∷ fragments) (wrote r output' ++ bytes)
  ended : {s : Stream} {output output' : List ℕ} {r : Fed} →
      Ends s output r output' → (0 < length (kept s) → 9 ≤ length output) → Run s [] (wrote r output')
  refused : {s : Stream} {input left output output' bytes : List ℕ} {fragments : List (List ℕ)} {r : Fed} {why : Refusal} →
      Takes s input left output r output' → r.reply ≡ Err why → Run r.state fragments bytes → Run s fragments bytes

-- the same in the bytes and numbers of C: each call feeds or ends on the 17 bytes that the one before it left
pub data ToldRun : List ℕ → List (List ℕ) → List ℕ → Type 0 where
  told_fed : {b fragment output b' output' bytes : List ℕ} {fragments : List (List ℕ)} {refusal written : ℕ} →
      ToldFeed b fragment output refusal written b' output' → 9 * (length (kept (state_of b) ++ fragment) / 17) ≤ length output → ToldRun b' fragments bytes →
      ToldRun b (fragment ∷ fragments) (take written output' ++ bytes)
  told_ended : {b output b' output' : List ℕ} {refusal written : ℕ} →
      ToldEnd b output refusal written b' output' → (0 < length (kept (state_of b)) → 9 ≤ length output) → ToldRun b [] (take written output')
  told_refused : {b input left output b' output' bytes : List ℕ} {fragments : List (List ℕ)} {refusal written : ℕ} →
      Told b input left output refusal written b' output' → 0 < refusal → ToldRun b' fragments bytes → ToldRun b fragments bytes
