use Rattle.std.proofs.Common.{◌≡◌, ◌≤◌, ◌-◌}
use Rattle.sparse_rows.specs.Placed.{matrices_from}
use Rattle.sparse_rows.proofs.Loops.{IsBesideSoFar}
use Rattle.sparse_rows.proofs.rows.Rows.beside.Given as goal

abbrev pub invariant-loop-i : goal.invariant-loop-i
invariant-loop-i l = (l.rows.matrix.height ≤ l.self.matrix.height) × IsBesideSoFar l.self l.right l.rows.matrix.height l.rows l.row
    × (l.filled ≡ matrices_from l.self.matrix l.right.matrix l.rows.matrix.height)

abbrev pub decreases-loop-i : goal.decreases-loop-i
decreases-loop-i l = l.self.matrix.height - l.rows.matrix.height
