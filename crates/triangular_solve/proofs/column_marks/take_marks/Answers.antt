use Rattle.std.proofs.Common.{subst, sym}
use Rattle.lead_rows.proofs.Touched.{taken_falls}
use Rattle.triangular_solve.proofs.MarkingColumns.{AreTaken, all_taken, none_taken, one_taken}
use Rattle.triangular_solve.proofs.column_marks.take_marks.Goals as goal

pub loop-column-init : goal.loop-column-init
loop-column-init c = subst (AreTaken c.args.marks.now c.args.marks.now) (sym c.new-columns.ensures.items) (none_taken c.args.marks.now)

pub loop-column-smaller : goal.loop-column-smaller
loop-column-smaller c = taken_falls c.in-Some.ensures.some

pub loop-column-preserved : goal.loop-column-preserved
loop-column-preserved c = rw c.in_ok-push.ensures.items (one_taken c.loop-column.invariant c.in-Some.ensures.some)

pub returns : goal.returns
returns c = all_taken c.loop-column.invariant c.in_default.ensures.none.1
