use Rattle.std.proofs.Common.{take}
use Rattle.triangular_solve.specs.ColumnMarks.{MarksColumns}
use Rattle.triangular_solve.proofs.column_marks.mark.Given as goal

abbrev pub invariant-loop-column : goal.invariant-loop-column
invariant-loop-column l = MarksColumns (take l.column-index l.cols) l.fn.marks l.marks
