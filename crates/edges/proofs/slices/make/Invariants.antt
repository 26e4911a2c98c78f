-- Before each turn of `make` the words so far are made, and the next one is at hand.
use Rattle.std.proofs.Common.{◌≡◌, length}
use Rattle.edges.specs.Words.{made_at}
use Rattle.edges.proofs.Written.{Written}
use Rattle.edges.proofs.slices.make.Given as goal

abbrev pub invariant-loop-word : goal.invariant-loop-word
invariant-loop-word l = record {
  so_far : Written (made_at l.seed) (length l.fn.words) l.words l.word-index;
  next : l.next ≡ made_at l.seed l.word-index;
}
