use Rattle.std.proofs.Common.{ℕ, ◌≡◌, ◌<◌, ◌≤◌}
use Rattle.dense_rows.specs.Rows.{block_row}
use Rattle.dense_rows.specs.Products.{IsWritten}
use Rattle.dense_rows.proofs.products.write_entries.Given as goal

abbrev pub invariant-loop-t : goal.invariant-loop-t
invariant-loop-t l = record {
  done : (t : ℕ) → t < l.t → IsWritten l.columns (block_row l.entries t) (block_row l.fn.rows t) (block_row l.rows t);
  ahead : (t : ℕ) → l.t ≤ t → block_row l.rows t ≡ block_row l.fn.rows t;
}
