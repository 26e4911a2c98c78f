-- A turn adds the result of one word to those that stand in front.
use Rattle.std.proofs.Common.{◌≡◌, ℕ, ◌+◌, ◌<◌, ◌≤◌, List, ◌++◌, length, map, take, drop, get_or, set, arith, append_assoc, refl, ◌∙◌}
use Rattle.std.proofs.lemmas.List.{take_more, drop_more, set_at, map-append, length-map, length-take-le}
use Rattle.batches.proofs.fill.Goals as goal

filled_next : (f : ℕ → ℕ) (source old now : List ℕ) (i : ℕ) → length source ≤ length old → i < length source →
    now ≡ map f (take i source) ++ drop i old → set now i (f (get_or source i 0)) ≡ map f (take (i + 1) source) ++ drop (i + 1) old
filled_next f source old now i room more front =
    let before : length (map f (take i source)) ≡ i = length-map (take i source) f ∙ length-take-le i source (omega arith) in
    rw (front, drop_more old i 0 (omega arith), take_more source i 0 more, map-append, append_assoc, set_at _ _ _ _ _ before) refl

pub loop-i-preserved : goal.loop-i-preserved
loop-i-preserved g c = λ f computes.
    let front = c.loop-i.invariant f computes in
    let word : c.move_word.result ≡ f (get_or c.args.source.now c.loop-i.i 0) = computes _ _ c.move_word.ensures in
    rw word (filled_next f _ _ _ _ c.requires.room (omega arith) front)
