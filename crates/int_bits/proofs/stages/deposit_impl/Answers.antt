-- A stage of the code is a stage of `deposit_stages`, and none is left at the end.
use Rattle.std.proofs.Common.{rules, arith, sym, ◌≡◌, length}
use Rattle.std.proofs.lemmas.List.{get_or-map}
use Rattle.int_bits.proofs.Deposit.{depositing_next, depositing_end}
use Rattle.int_bits.proofs.Width.{one_shl, before_lt}
use Rattle.int_bits.proofs.stages.deposit_impl.Goals as goal

pub shl-requires : goal.shl-requires
shl-requires g c =
    (g.met.T.Word.can_shift_law _ _ (before_lt g.met.T.Word.stages_law 32 (omega arith) c.loop-stage-test.true c.loop-stage.invariant.most)).0

pub loop-stage-preserved : goal.loop-stage-preserved
loop-stage-preserved g c =
    let laws = g.met.T.Word in
    let e : length c.args.masks ≡ g.row.STAGES = search rules in
    depositing_next c.loop-stage-test.true c.loop-stage.invariant
    (one_shl laws.stages_law 32 (omega arith) _ (omega arith))
    (sym (get_or-map g.T.Unsigned.number c.args.masks _ c.index-masks-stage.result 0 (omega arith)))
    (laws.and_law _ _ _ c.bitand-q.ensures)
    (laws.xor_law _ _ _ c.bitxor-x.ensures)
    (laws.shl_law _ _ _ c.shl.ensures)
    (laws.xor_law _ _ _ c.bitxor-x-in-loop-stage.ensures)

pub returns : goal.returns
returns g c = depositing_end _ c.loop-stage-test.false c.loop-stage.invariant (g.met.T.Word.and_law _ _ _ c.bitand.ensures)
