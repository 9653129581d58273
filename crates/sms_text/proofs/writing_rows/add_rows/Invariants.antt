-- The header line and the lines of the rows before `from` were added.
use Rattle.std.proofs.Common.{◌-◌}
use Rattle.byte_streams.specs.Writing.{output}
use Rattle.byte_streams.proofs.Added.{IsAdded}
use Rattle.sms_text.specs.Written.{text_of}
use Rattle.sms_text.proofs.WrittenRows.{rows_from}
use Rattle.sms_text.proofs.writing_rows.add_rows.Given as goal

abbrev pub invariant-loop-i : goal.invariant-loop-i
invariant-loop-i g l =
    IsAdded (text_of l.rows.matrix) (rows_from l.rows.matrix l.from) (output l.fn.blocks (g.K.Sink.state l.fn.out)) (output l.blocks (g.K.Sink.state l.out))

abbrev pub decreases-loop-i : goal.decreases-loop-i
decreases-loop-i g l = l.fn.rows.matrix.height - l.from
