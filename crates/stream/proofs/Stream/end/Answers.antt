-- The count decides first, and then the answers' room.
use Rattle.std.proofs.Common.{refl}
use Rattle.std.proofs.lemmas.Result.{err_from_is_err_and}
use Rattle.stream.proofs.Calls.{count_refused, end_accepted}
use Rattle.stream.proofs.Stream.end.Goals as goal

pub returns-in_err-kept : goal.returns-in_err-kept
returns-in_err-kept c = let p = err_from_is_err_and c.from_residual.result c.from_residual.ensures.1 in rw (p.1, p.2) (count_refused c.in_err-kept.ensures)

pub returns-in_err-written : goal.returns-in_err-written
returns-in_err-written c =
    let p = err_from_is_err_and c.from_residual-in_err-written.result c.from_residual-in_err-written.ensures.1 in
    rw (p.1, p.2) (end_accepted c.in_ok-kept.ensures c.in_err-written.ensures refl)

pub returns : goal.returns
returns c = end_accepted c.in_ok-kept.ensures c.in_ok-written.ensures c.default.ensures
