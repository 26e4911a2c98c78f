-- A refused call on the state that 17 bytes are leaves the state of those bytes.
use mathlib.Core.Path.{◌≡◌, sym, ap, ◌∙◌}
use mathlib.Core.Bool.{false}
use mathlib.Core.List.{List}
use Prim.Native.Nat.{ℕ}
use lib.ListN.{length}
use Rattle.std.specs.Prelude.{Ok, Err, is_ok}
use Rattle.answers.specs.Reply.{leaves}
use Rattle.answers.specs.Answers.{Answer}
use Rattle.stream.specs.declared.Stream.{Stream}
use Rattle.stream.specs.Stream.{outcome, keeping, Takes}
use Rattle.stream.specs.Packed.{state_of, bytes_of}
use Rattle.stream.proofs.Packed.{bytes_back}

pub kept_bytes : {b input left output output' : List ℕ} {s next : Stream} (reply : Answer ℕ) → length b ≡ 17 → s ≡ state_of b → is_ok reply ≡ false → Takes s input left output (outcome next reply) output' → b ≡ bytes_of next
kept_bytes (Ok x) n e t p = cc
kept_bytes {b} {left = left} {s = s} (Err why) n e t p =
    sym (ap bytes_of (p.next_state ∙ ap (λ r. leaves r (keeping left) s) (sym p.replies) ∙ e) ∙ bytes_back b n)
