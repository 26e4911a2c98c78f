-- The shifted number is normalised, and its root shifted back is n's.
use Rattle.int_sqrt.proofs.Shift.{normal, top, back}
use Rattle.int_sqrt.proofs.stages.by_stages.Goals as goal

pub overflow_sub-normalization_shift-2 : goal.overflow_sub-normalization_shift-2
overflow_sub-normalization_shift-2 g c = (normal c.requires.word c.requires.positive c.requires.fits).zeros

pub invariant_of-normalized : goal.invariant_of-normalized
invariant_of-normalized g c = record { normalized = top (normal c.requires.word c.requires.positive c.requires.fits) c.requires.word }

pub returns : goal.returns
returns g c = back (normal c.requires.word c.requires.positive c.requires.fits) c.stages-s.ensures
