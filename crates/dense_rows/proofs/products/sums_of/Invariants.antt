use Rattle.std.proofs.Common.{ℕ, ◌≡◌, ◌<◌, ◌+◌, slice_index}
use Rattle.dense_rows.specs.Products.{products_of, run_of}
use Rattle.dense_rows.proofs.products.sums_of.Given as goal

abbrev pub invariant-loop-i : goal.invariant-loop-i
invariant-loop-i l = record {
  first : (k : ℕ) → k < 8 → slice_index l.first k ≡ products_of l.by l.tile (run_of l.run.first l.i) l.row k;
  second : (k : ℕ) → k < 8 → slice_index l.second k ≡ products_of l.by l.tile (run_of l.run.first l.i) (l.row + 1) k;
  third : (k : ℕ) → k < 8 → slice_index l.third k ≡ products_of l.by l.tile (run_of l.run.first l.i) (l.row + 2) k;
  fourth : (k : ℕ) → k < 8 → slice_index l.fourth k ≡ products_of l.by l.tile (run_of l.run.first l.i) (l.row + 3) k;
}
