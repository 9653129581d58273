use Rattle.lead_rows.proofs.Extent.{extent}
use Rattle.triangular_solve.proofs.MarkingColumns.{AreTaken}
use Rattle.triangular_solve.proofs.column_marks.take_marks.Given as goal

abbrev pub invariant-loop-column : goal.invariant-loop-column
invariant-loop-column l = AreTaken l.fn.marks l.marks l.columns.items

abbrev pub decreases-loop-column : goal.decreases-loop-column
decreases-loop-column l = extent l.marks
