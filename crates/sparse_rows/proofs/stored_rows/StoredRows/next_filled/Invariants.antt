use Rattle.std.proofs.Common.{ℕ, ◌≤◌, ◌<◌}
use Rattle.sparse_rows.specs.Rows.{IsZeroRow}
use Rattle.sparse_rows.proofs.stored_rows.StoredRows.next_filled.Given as goal

abbrev pub invariant-loop-i : goal.invariant-loop-i
invariant-loop-i l = (k : ℕ) → l.from ≤ k → k < l.i → IsZeroRow l.self.matrix k
