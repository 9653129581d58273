use Rattle.std.proofs.Common.{arith, subst}
use Rattle.std.proofs.lemmas.List.{take_all, take_more}
use Rattle.triangular_solve.specs.ColumnMarks.{MarksColumns}
use Rattle.triangular_solve.proofs.MarkingColumns.{marks_none, marks_one_more}
use Rattle.triangular_solve.proofs.column_marks.mark.Goals as goal

pub loop-column-init : goal.loop-column-init
loop-column-init c = marks_none c.args.marks.now

pub mark-requires : goal.mark-requires
mark-requires c = omega (arith, c.loop-column.invariant.long, c.requires c.loop-column.column-index c.loop-column-test.true)

pub loop-column-preserved : goal.loop-column-preserved
loop-column-preserved c =
    rw (take_more c.args.cols.now c.loop-column.column-index 0 c.loop-column-test.true, c.mark.ensures)
    (marks_one_more c.loop-column.invariant _ (c.requires c.loop-column.column-index c.loop-column-test.true))

pub returns : goal.returns
returns c = subst (λ xs. MarksColumns xs c.args.marks.now c.loop-column.marks) (take_all c.loop-column.column-index c.args.cols.now c.loop-column-test.false) c.loop-column.invariant
