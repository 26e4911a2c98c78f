-- Under a run gather is a shift, and else, over the masks that `prepare` makes, the stages.
use Rattle.int_bits.proofs.Extract.{extracted}
use Rattle.int_bits.proofs.Run.{found_below, gathered_by_run}
use Rattle.int_bits.proofs.Width.{width_pos}
use Rattle.int_bits.proofs.gather.Goals as goal

pub shr-requires : goal.shr-requires
shr-requires g c =
    let laws = g.met.T.Word in
    let found = rw c.widen-word.ensures.same at c.in-Some.ensures in
    (laws.can_shift_law _ _ (found_below (width_pos laws.stages_law) c.widen-word.ensures.range found)).1

pub returns : goal.returns
returns g c =
    let laws = g.met.T.Word in
    let found = rw c.widen-word.ensures.same at c.in-Some.ensures in
    gathered_by_run _ _ c.widen-word.ensures.range found (laws.and_law _ _ _ c.bitand.ensures) (laws.shr_law _ _ _ c.shr.ensures)

pub returns-2 : goal.returns-2
returns-2 g c = extracted g.met.T.Word.stages_law _ c.widen-word.ensures.range c.prepare.ensures c.extract_impl.ensures
