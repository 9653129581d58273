use Rattle.std.proofs.Common.{ℕ, ◌≡◌, ◌<◌, ◌≤◌, ◌+◌, ◌-◌, ◌%◌, length}
use Rattle.dense_rows.specs.Rows.{entry_of}
use Rattle.dense_rows.specs.Products.{products_of, run_of}
use Rattle.dense_rows.proofs.products.fill_entries.Given as goal

abbrev pub invariant-loop-first : goal.invariant-loop-first
invariant-loop-first l = record {
  within : l.first ≤ l.product.height;
  long : length l.entries ≡ 64;
  residues : (t k : ℕ) → t < 32 → k < 8 → entry_of l.entries t k < l.product.folding.now.p;
  added : (t k : ℕ) → t < length l.rows → k < 8 → entry_of l.entries t k ≡ (entry_of l.rows t (l.start + k) + products_of l.product.by.now l.product.tile.now (run_of 0 l.first) t k) % l.product.folding.now.p;
}

abbrev pub decreases-loop-first : goal.decreases-loop-first
decreases-loop-first l = l.product.height - l.first
