use Rattle.matrix_cells.proofs.Cuts.{AreCutsSoFar}
use Rattle.matrix_cells.proofs.values_at_places.row_starts.Given as goal

abbrev pub invariant-loop-k : goal.invariant-loop-k
invariant-loop-k l = AreCutsSoFar l.height l.cells l.k l.starts.items
