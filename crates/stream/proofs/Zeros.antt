-- Bytes that are copied over zeros.
use Rattle.std.proofs.lemmas.Grind.{common_steps}
use Rattle.std.proofs.lemmas.List.{drop-replicate}

pub ruleset zeros_behind = (common_steps, drop-replicate)
