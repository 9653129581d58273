use Rattle.std.proofs.Common.{ℕ, ◌≡◌, ◌<◌, ◌≤◌, ◌+◌, ◌-◌, ◌%◌, length}
use Rattle.dense_rows.specs.Rows.{block_row, entry_of}
use Rattle.dense_rows.specs.Products.{products_of}
use Rattle.dense_rows.proofs.products.add_run.Given as goal

abbrev pub invariant-loop-row : goal.invariant-loop-row
invariant-loop-row l = record {
  fours : l.row % 4 ≡ 0;
  long : length l.entries ≡ 64;
  residues : (t k : ℕ) → t < 32 → k < 8 → entry_of l.entries t k < l.folding.p;
  done : (t k : ℕ) → t < l.row → k < 8 → entry_of l.entries t k ≡ (entry_of l.fn.entries t k + products_of l.by l.tile l.run t k) % l.folding.p;
  ahead : (t : ℕ) → l.row ≤ t → block_row l.entries t ≡ block_row l.fn.entries t;
}

abbrev pub decreases-loop-row : goal.decreases-loop-row
decreases-loop-row l = l.height - l.row
