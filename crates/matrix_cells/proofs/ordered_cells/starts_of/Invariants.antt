use Rattle.matrix_cells.specs.Cells.{in_rows}
use Rattle.matrix_cells.proofs.Cuts.{AreCutsSoFar}
use Rattle.matrix_cells.proofs.ordered_cells.starts_of.Given as goal

abbrev pub invariant-loop-k : goal.invariant-loop-k
invariant-loop-k l = AreCutsSoFar l.height (in_rows l.rows) l.k l.starts.items
