use Rattle.std.proofs.Common.{ℕ, ◌≡◌, ◌<◌, ◌≤◌, length, slice_index}
use Rattle.dense_rows.specs.Rows.{block_row, entry_of}
use Rattle.dense_rows.specs.Dense.{IsCleared}
use Rattle.dense_panels.proofs.panel.Panel+u32.reduce_block.Given as goal

abbrev pub invariant-loop-t : goal.invariant-loop-t
invariant-loop-t l = record {
  all : length l.by ≡ 32;
  taken : (t k : ℕ) → t < l.t → k < length l.self.columns → entry_of l.by t k ≡ entry_of l.fn.rows t (slice_index l.self.columns k);
  small : (t k : ℕ) → entry_of l.by t k < l.folding.p;
  cleared : (t : ℕ) → t < l.t → IsCleared l.folding.p (length l.self.columns) (slice_index l.self.columns) (block_row l.fn.rows t) (block_row l.rows t);
  ahead : (t : ℕ) → l.t ≤ t → block_row l.rows t ≡ block_row l.fn.rows t;
}
