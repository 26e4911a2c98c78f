-- The lemmas that functions name for the goals of their proofs, by topic.
use mir.ValLaws.{to_z-of_z}
use Rattle.signed.proofs.Wrap.{wrap_above}
use Rattle.signed.proofs.Strict.{exact_not, exact_given, exact_above, sum_flag, difference_flag}
use Rattle.signed.proofs.Rem.{rem-zero, rem_min, rem_given, rem_lifted}
use Rattle.signed.proofs.Next.{next-zero, next_alone, next_stays, next_steps, step_fits}
use Rattle.int_macros.proofs.Widest.{wraps_sum, wraps_difference, wraps_negation, wraps_bits}

pub ruleset casts = (to_z-of_z, wraps_bits)

pub ruleset wrapped = (wraps_sum, wraps_difference, wraps_negation, wrap_above, to_z-of_z)

pub ruleset exact = (exact_not, exact_given, exact_above, sum_flag, difference_flag, to_z-of_z)

pub ruleset remainder = (rem-zero, rem_min, rem_given, rem_lifted, to_z-of_z)

pub ruleset multiple = (next-zero, next_alone, next_stays, next_steps, step_fits, to_z-of_z)
