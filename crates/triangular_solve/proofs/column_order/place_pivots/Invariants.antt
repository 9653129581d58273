use Rattle.triangular_solve.proofs.OrderingColumns.{IsPlacingPivots}
use Rattle.triangular_solve.proofs.column_order.place_pivots.Given as goal

abbrev pub invariant-loop-k : goal.invariant-loop-k
invariant-loop-k l = IsPlacingPivots l.pairs l.k l.sorted l.places l.columns.items
