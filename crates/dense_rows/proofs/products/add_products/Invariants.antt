use Rattle.std.proofs.Common.{ℕ, ◌≡◌, ◌<◌, ◌≤◌, length}
use Rattle.dense_rows.specs.Rows.{entry_of}
use Rattle.dense_rows.specs.Products.{AddsToEach, columns_of, products_of, run_of}
use Rattle.dense_rows.proofs.products.add_products.Given as goal

abbrev pub invariant-loop-end : goal.invariant-loop-end
invariant-loop-end l = record {
  within : l.end ≤ l.columns.end;
  long : length l.tile ≡ 64;
  entries : length l.entries ≡ 64;
  left : (t k : ℕ) → t < 32 → k < 8 → entry_of l.entries t k < l.folding.p;
  added : AddsToEach l.folding.p (columns_of l.end l.columns.end) (products_of l.by l.units (run_of 0 (length l.units))) l.initial.rows l.rows;
}

abbrev pub decreases-loop-end : goal.decreases-loop-end
decreases-loop-end l = l.end
