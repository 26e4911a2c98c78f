-- The widest type keeps its numbers.
use Rattle.std.proofs.Common.{sym, ◌∙◌}
use Rattle.std.specs.Int.{w64}
use Rattle.laws.proofs.Held.{is_held}
use Rattle.signed.proofs.Wrap.{wrap_fits}
use Rattle.widths.proofs.signed_types.I64Signed.narrow.Goals as goal

pub returns : goal.returns
returns c = is_held c.ranges.z ∙ sym (wrap_fits w64 c.args.z c.ranges.z)
