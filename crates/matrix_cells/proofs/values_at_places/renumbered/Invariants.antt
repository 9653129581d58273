use Rattle.std.proofs.Common.{◌≡◌, take}
use Rattle.matrix_cells.specs.Cells.{renumbered}
use Rattle.matrix_cells.proofs.values_at_places.renumbered.Given as goal

abbrev pub invariant-loop-k : goal.invariant-loop-k
invariant-loop-k l = l.made.items ≡ renumbered (take l.k l.rows) (take l.k l.cells)
