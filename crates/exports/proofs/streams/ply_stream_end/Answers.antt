-- What the call gave, told in C: the next state's bytes, or those that came, where it is refused.
use Rattle.std.proofs.Common.{◌≡◌, ◌∙◌, length, rules, sym}
use Rattle.stream.specs.Packed.{bytes_of}
use Rattle.stream.proofs.Packed.{end_told}
use Rattle.exports.proofs.Kept.{kept_bytes}
use Rattle.exports.proofs.streams.ply_stream_end.Goals as goal
use Rattle.exports.proofs.streams.ply_stream_end.Goals.{then-is_ok, else-is_ok}

pub returns : goal.returns
returns c =
    let n : length c.args.state.now ≡ 17 = search rules in
    let left : c.if-is_ok.state ≡ bytes_of c.end-reply.new.self =
    elim c.if-is_ok.branch [
      | then-is_ok w ↦ w.state-is ∙ w.into.ensures
      | else-is_ok w ↦ w.state-is ∙ kept_bytes c.end-reply.result n c.from-stream.ensures (sym c.is_ok.ensures.value ∙ w.if-is_ok.false) c.end-reply.ensures
    ] in
    end_told n left c.tell.ensures.returns c.tell.ensures.leaves c.from-stream.ensures c.end-reply.ensures
