-- The answers so far stand in front of the output, and the chunks that are left are the other records.
use Rattle.std.specs.Iterator.Adapters.{enumerate_source, enumerate_count}
use Rattle.std.specs.Slice.Iter.{chunks_rest, chunks_size}
use Rattle.records.proofs.Loop.{Left}
use Rattle.records.proofs.many.Given as goal

abbrev pub invariant-loop-i : goal.invariant-loop-i
invariant-loop-i l = Left l.input l.fn.output l.output (chunks_rest (enumerate_source l.i-iterator)) (chunks_size (enumerate_source l.i-iterator)) (enumerate_count l.i-iterator)
