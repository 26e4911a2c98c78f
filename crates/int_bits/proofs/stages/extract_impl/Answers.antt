-- A stage of the code is a stage of `extract_stages`, and shifts by less than the width.
use Rattle.std.proofs.Common.{arith, sym}
use Rattle.std.proofs.lemmas.List.{get_or-map}
use Rattle.int_bits.proofs.Extract.{extracting_start, extracting_next}
use Rattle.int_bits.proofs.Width.{one_shl, shift_lt}
use Rattle.int_bits.proofs.stages.extract_impl.Goals as goal

pub loop-stage-init : goal.loop-stage-init
loop-stage-init g c = extracting_start

pub shr-requires : goal.shr-requires
shr-requires g c = (g.met.T.Word.can_shift_law _ _ (shift_lt g.met.T.Word.stages_law 32 (omega arith) c.loop-stage-test.true)).1

pub loop-stage-preserved : goal.loop-stage-preserved
loop-stage-preserved g c =
    let laws = g.met.T.Word in
    extracting_next c.loop-stage-test.true c.loop-stage.invariant
    (one_shl laws.stages_law 32 (omega arith) _ c.loop-stage-test.true)
    (sym (get_or-map g.T.Unsigned.number c.args.masks _ c.mask-item.result 0 (omega arith)))
    (laws.and_law _ _ _ c.bitand-q.ensures)
    (laws.xor_law _ _ _ c.bitxor-x.ensures)
    (laws.shr_law _ _ _ c.shr.ensures)
    (laws.xor_law _ _ _ c.bitxor-x-in-loop-stage.ensures)
