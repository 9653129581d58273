use Rattle.std.proofs.Common.{ℕ, ◌≡◌, ◌<◌, length, slice_index, take}
use Rattle.row_space.specs.Factors.{col_at}
use Rattle.triangular_solve.specs.Listing.{column_count}
use Rattle.triangular_solve.proofs.triangle.count_waits.Given as goal

abbrev pub invariant-loop-pair : goal.invariant-loop-pair
invariant-loop-pair l = record {
  many : length l.waits.items ≡ length l.pairs;
  counts : (k : ℕ) → k < length l.pairs → slice_index l.waits.items k ≡ column_count l.rows.matrix (take l.pair-index l.pairs) (col_at l.pairs k);
}
