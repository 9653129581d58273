use Rattle.triangular_solve.specs.ColumnMarks.{AreMarksOf}
use Rattle.triangular_solve.proofs.column_marks.mark_rows.Given as goal

abbrev pub invariant-loop-k : goal.invariant-loop-k
invariant-loop-k l = AreMarksOf l.rows.matrix l.pairs l.k l.marks
