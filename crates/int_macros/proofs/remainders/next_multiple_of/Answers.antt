-- `next_multiple_of`: m is the remainder with the divisor's sign, so d − m leads from a to the next multiple.
use Rattle.std.proofs.Common.{◌≡◌, ◌<◌, pos, unsigned_abs, arith, FitsSigned, w64}
use lib.Signed.{rem_z}
use Rattle.std.proofs.lemmas.Int.{ints, to_z-of_z}
use Rattle.signed.proofs.Next.{next_steps, turned, step_fits}
use Rattle.int_macros.proofs.Rules.{multiple}
use Rattle.int_macros.proofs.remainders.next_multiple_of.Goals as goal

pub overflow_sub-d : goal.overflow_sub-d
overflow_sub-d g c = grind (arith, multiple)

pub returns-then-m-eq0 : goal.returns-then-m-eq0
returns-then-m-eq0 g c = grind (arith, multiple)

pub returns-else-m-eq0 : goal.returns-else-m-eq0
returns-else-m-eq0 g c =
    let a = g.T.Integer.whole c.args.a in
    let d = g.T.Integer.whole c.args.rhs in
    let some : 0 < unsigned_abs d = omega (arith, ints) in
    let m : c.signed_remainder-m.result ≡ turned (rem_z a d) d = grind (arith, to_z-of_z) in
    let n : turned (rem_z a d) d ≡ pos 0 → ⊥ = λ e. omega (arith, ints) in
    let wide : FitsSigned w64 d = search (arith, ints) in
    let f = step_fits w64 a d some wide n in
    let l = next_steps g.T.Integer.width a d some c.widen-d.ensures.range n in
    grind (arith, to_z-of_z)
