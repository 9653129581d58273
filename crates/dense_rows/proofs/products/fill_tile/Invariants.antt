use Rattle.std.proofs.Common.{ℕ, ◌≡◌, ◌<◌, ◌≤◌, ◌+◌, length}
use Rattle.dense_rows.specs.Rows.{block_row, entry_of}
use Rattle.dense_rows.proofs.products.fill_tile.Given as goal

abbrev pub invariant-loop-k : goal.invariant-loop-k
invariant-loop-k l = record {
  long : length l.tile ≡ 64;
  filled : (k j : ℕ) → k < l.k → j < 8 → entry_of l.tile k j ≡ entry_of l.rows k (l.start + j);
  kept : (k : ℕ) → l.k ≤ k → block_row l.tile k ≡ block_row l.fn.tile k;
}
