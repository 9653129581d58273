use Rattle.triangular_solve.proofs.OrderingColumns.{IsPlacingOthers}
use Rattle.triangular_solve.proofs.column_order.place_others.Given as goal

abbrev pub invariant-loop-at : goal.invariant-loop-at
invariant-loop-at l = IsPlacingOthers l.sorted l.fn.columns.items l.at l.places l.columns.items
