-- What counting an answer does to a tally.
use Rattle.std.specs.Prelude.{◌≡◌, ◌+◌, Bool, true, false}
use Rattle.edges.specs.declared.tally.Tally.{Tally}

-- a right answer raises the first count by one, a wrong one the second
abbrev pub counted : Tally → Bool → Tally
counted t true = record { right = t.right + 1; wrong = t.wrong }
counted t false = record { right = t.right; wrong = t.wrong + 1 }

pub record Counted (t : Tally) (ok : Bool) (r : Tally) : Type 0 where
  pub counts : r ≡ counted t ok
  pub one_more : r.right + r.wrong ≡ t.right + t.wrong + 1
