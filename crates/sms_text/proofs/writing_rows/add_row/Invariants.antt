-- The lines of the entries before k were added.
use Rattle.std.proofs.Common.{◌-◌, length, drop}
use Rattle.byte_streams.specs.Writing.{output}
use Rattle.byte_streams.proofs.Added.{IsAdded}
use Rattle.sms_text.specs.Written.{entry_lines}
use Rattle.sms_text.proofs.writing_rows.add_row.Given as goal

abbrev pub invariant-loop-k : goal.invariant-loop-k
invariant-loop-k g l =
    IsAdded (entry_lines l.i l.cols l.vals) (entry_lines l.i (drop l.k l.cols) (drop l.k l.vals))
    (output l.fn.blocks (g.K.Sink.state l.fn.out)) (output l.blocks (g.K.Sink.state l.out))

abbrev pub decreases-loop-k : goal.decreases-loop-k
decreases-loop-k g l = length l.cols - l.k
