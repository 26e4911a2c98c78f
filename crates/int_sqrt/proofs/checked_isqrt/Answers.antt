-- The root of what the cast gives, which fits: it is at most the number.
use Rattle.int_sqrt.proofs.Signed.{wide_fits, answers}
use Rattle.int_sqrt.proofs.checked_isqrt.Goals as goal

pub overflow_cast-isqrt_u64 : goal.overflow_cast-isqrt_u64
overflow_cast-isqrt_u64 g c = wide_fits c.widen-n.ensures.range c.widen-n.ensures.same (record { sfits = c.widen-n.type_inv }) c.in_ok-root_check.ensures c.isqrt_u64.ensures

pub returns : goal.returns
returns g c = answers c.widen-n.ensures.range c.widen-n.ensures.same (record { sfits = c.widen-n.type_inv }) c.in_ok-root_check.ensures c.isqrt_u64.ensures c.narrow-result.ensures
