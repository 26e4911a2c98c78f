-- The steps of the two loops over the width, and the shifts by less than it.
use Rattle.std.proofs.Common.{arith}
use Rattle.std.proofs.lemmas.List.{length-map, length-replicate, map-set}
use Rattle.int_bits.proofs.Preparing.{doubling_start, doubling_power, prepared_start, prepared_next, prepared_end}
use Rattle.int_bits.proofs.Width.{width_le, one_shl, shift_lt}
use Rattle.int_bits.proofs.stages.prepare.Goals as goal

pub loop-stage-init : goal.loop-stage-init
loop-stage-init g c = prepared_start (simp (length-map, length-replicate)) (g.met.T.Word.not_law _ _ c.not-zeros.ensures)

pub loop-doubling-init : goal.loop-doubling-init
loop-doubling-init g c = doubling_start c.loop-stage.invariant

pub shl-requires : goal.shl-requires
shl-requires g c = (g.met.T.Word.can_shift_law _ _ (shift_lt g.met.T.Word.stages_law 32 (omega arith) c.loop-doubling-test.true)).0

pub shr-requires : goal.shr-requires
shr-requires g c = (g.met.T.Word.can_shift_law _ _ (shift_lt g.met.T.Word.stages_law 32 (omega arith) c.loop-stage-test.true)).1

pub loop-doubling-preserved : goal.loop-doubling-preserved
loop-doubling-preserved g c =
    let laws = g.met.T.Word in
    doubling_power _ c.loop-doubling.invariant
    (one_shl laws.stages_law 32 (omega arith) _ c.loop-doubling-test.true)
    (laws.shl_law _ _ _ c.shl.ensures)
    (laws.xor_law _ _ _ c.bitxor-parity.ensures)

pub loop-stage-preserved : goal.loop-stage-preserved
loop-stage-preserved g c =
    let laws = g.met.T.Word in
    prepared_next c.loop-stage-test.true (width_le laws.stages_law c.loop-doubling-test.false)
    c.loop-stage.invariant c.loop-doubling.invariant
    (one_shl laws.stages_law 32 (omega arith) _ c.loop-stage-test.true)
    (map-set g.T.Unsigned.number c.loop-stage.mask-items _ _)
    (laws.not_law _ _ c.not.ensures)
    (laws.and_law _ _ _ c.bitand-zeros.ensures)
    (laws.shr_law _ _ _ c.shr.ensures)
    (laws.xor_law _ _ _ c.bitxor-zeros.ensures)

pub returns : goal.returns
returns g c = prepared_end c.loop-stage-test.false c.loop-stage.invariant
