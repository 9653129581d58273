use Rattle.std.proofs.lemmas.Result.{IfOk-weaker}
use Rattle.triangular_solve.proofs.MarkingColumns.{marked_occupied}
use Rattle.triangular_solve.proofs.column_marks.marked_columns.Goals as goal

pub returns : goal.returns
returns c = IfOk-weaker c.take_marks.result _ _ (λ columns lists. marked_occupied c.mark_rows.ensures lists) c.take_marks.ensures
