-- The lines of the pivots before k were added.
use Rattle.std.proofs.Common.{drop}
use Rattle.byte_streams.specs.Writing.{output}
use Rattle.byte_streams.proofs.Added.{IsAdded}
use Rattle.sms_text.specs.Written.{pair_lines}
use Rattle.sms_text.proofs.block_writer.BlockWriter.add_pairs.Given as goal

abbrev pub invariant-loop-k : goal.invariant-loop-k
invariant-loop-k g l =
    IsAdded (pair_lines l.pairs) (pair_lines (drop l.k l.pairs)) (output l.fn.self (g.K.Sink.state l.fn.out)) (output l.self (g.K.Sink.state l.out))
