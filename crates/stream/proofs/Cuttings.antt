-- However an input is cut into fragments, it is answered alike.
use mathlib.Core.Path.{◌≡◌, sym, ap, ap₂, ◌∙◌}
use mathlib.Core.List.{List, [], ◌++◌, append_assoc, append-nil}
use Prim.Native.Nat.{ℕ, ◌≤◌}
use native.Mathlib.Omega.{arith}
use Rattle.records.specs.Records.{answers}
use Rattle.stream.specs.declared.Stream.{Stream}
use Rattle.stream.specs.Stream.{kept, keeping, rest, Feedable, Endable}
use Rattle.stream.specs.Cuttings.{joined, Run, fed, ended, refused}
use Rattle.stream.proofs.Whole.{rest_short, answers_cut, kept_keeping, keeping_short}
use Rattle.stream.proofs.Accepts.{feed_free, end_free, keeps_left, leaves_short, wrote_answers, stays}

-- from a count of at most 16: the bytes that it stands for are the front of the input
pub answered : {s : Stream} {fragments : List (List ℕ)} {bytes : List ℕ} → s.count ≤ 16 → Run s fragments bytes → bytes ≡ answers (kept s ++ joined fragments)
answered h (fed {s} {fragment} {output} {fragments = fragments} p room more) =
    let able : Feedable s fragment output = record { short = h; room = room } in
    let ok = feed_free able in
    let input = kept s ++ fragment in
    ap₂ ◌++◌ (wrote_answers p ok)
    (answered (leaves_short p (rest_short input) h) more
    ∙ ap (λ s. answers (kept s ++ joined fragments)) (keeps_left p ok) ∙ ap (λ l. answers (l ++ joined fragments)) (kept_keeping (rest input)))
    ∙ sym (answers_cut input (joined fragments)) ∙ ap answers (append_assoc (kept s) fragment (joined fragments))
answered h (ended {s} {output} p room) =
    let able : Endable s output = record { short = h; room = room } in
    wrote_answers p (end_free able) ∙ ap answers (sym (append-nil (kept s)))
answered h (refused {fragments = fragments} p e more) =
    let same = (stays p e).0 in
    answered (rw same h) more ∙ ap (λ s. answers (kept s ++ joined fragments)) same

-- from a fresh state: the answers to the whole input at once
pub any_cutting : {fragments : List (List ℕ)} {bytes : List ℕ} → Run (keeping []) fragments bytes → bytes ≡ answers (joined fragments)
any_cutting {fragments} h = answered (keeping_short [] (omega arith)) h ∙ ap (λ l. answers (l ++ joined fragments)) (kept_keeping [])
