use Rattle.std.proofs.Common.{◌≡◌, length}
use Rattle.pivot_walks.proofs.marked_columns.MarkedColumns.clear.Given as goal

abbrev pub invariant-loop-column : goal.invariant-loop-column
invariant-loop-column l = l.self.width ≡ l.fn.self.width

abbrev pub decreases-loop-column : goal.decreases-loop-column
decreases-loop-column l = length l.self.list
