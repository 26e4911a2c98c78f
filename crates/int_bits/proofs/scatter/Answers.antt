-- Under a run scatter is a shift, and else, over the masks that `prepare` makes, the stages.
use Rattle.int_bits.proofs.Deposit.{deposited}
use Rattle.int_bits.proofs.Run.{found_below, scattered_by_run}
use Rattle.int_bits.proofs.Width.{width_pos}
use Rattle.int_bits.proofs.scatter.Goals as goal

pub shl-requires : goal.shl-requires
shl-requires g c =
    let laws = g.met.T.Word in
    let found = rw c.widen-word.ensures.same at c.in-Some.ensures in
    (laws.can_shift_law _ _ (found_below (width_pos laws.stages_law) c.widen-word.ensures.range found)).0

pub returns : goal.returns
returns g c =
    let laws = g.met.T.Word in
    let found = rw c.widen-word.ensures.same at c.in-Some.ensures in
    scattered_by_run _ _ c.widen-word.ensures.range found (laws.shl_law _ _ _ c.shl.ensures) (laws.and_law _ _ _ c.bitand.ensures)

pub returns-2 : goal.returns-2
returns-2 g c = deposited g.met.T.Word.stages_law _ c.widen-word.ensures.range c.prepare.ensures c.deposit_impl.ensures
