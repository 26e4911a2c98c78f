-- The test holds exactly where the ones are adjacent, and then the lowest edge is the lowest one.
use Rattle.std.proofs.Common.{◌≡◌, ℕ, ◌+◌, ◌-◌, ◌%◌, ◌^◌, ◌<◌, arith}
use lib.Bits.{bit_xor, and_mask}
use lib.Count.{count_trailing_zeros}
use Rattle.int_bits.proofs.Edges.{edges, starts, starts_not}
use Rattle.int_bits.proofs.runs.run_start.Goals as goal

-- the mask less 1, wrapping, is the number before it
before : (m : ℕ) → m < 2 ^ 64 → ((m + (2 ^ 64 - 1)) % 2 ^ 64 + 1) % 2 ^ 64 ≡ m
before m h = omega arith

pub returns-then-others-edges-lt2 : goal.returns-then-others-edges-lt2
unfolding edges
returns-then-others-edges-lt2 c =
    let m = c.args.mask in
    let fits = c.ranges.mask.fits in
    let low = and_mask (count_trailing_zeros 64 (bit_xor (edges 64 m) 1)) 6 in
    (omega (arith, low), starts 64 m _ fits (before m fits) (omega arith) c.if-others-edges-lt2.true low)

pub returns : goal.returns
unfolding edges
returns c =
    let fits = c.ranges.mask.fits in
    starts_not 64 c.args.mask _ fits (before c.args.mask fits) c.if-others-edges-lt2.false
