-- The bytes of n are those of what is left of it, before those that stand already.
use Rattle.std.proofs.Common.{◌≡◌, ◌++◌, length, drop}
use Rattle.fields.specs.Fields.{bytes}
use Rattle.fields.proofs.put.Given as goal

abbrev pub invariant-loop-i : goal.invariant-loop-i
invariant-loop-i l = bytes (length l.fn.part) l.n ≡ bytes l.i l.rest ++ drop l.i l.part
