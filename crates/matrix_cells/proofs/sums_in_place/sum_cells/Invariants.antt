use Rattle.std.proofs.Common.{ℕ, ◌≡◌, ◌≤◌, ◌<◌, get_or, length, take, drop}
use Rattle.matrix_cells.proofs.Summing.{IsSummed}
use Rattle.matrix_cells.proofs.sums_in_place.sum_cells.Given as goal

abbrev pub invariant-loop-k : goal.invariant-loop-k
invariant-loop-k l = record {
  summed : IsSummed l.modulus (take l.k l.fn.cells) (take l.kept l.cells) l.sum;
  few : l.kept ≤ l.k;
  room : 0 < l.sum.val → l.kept < l.k;
  rest : drop l.k l.cells ≡ drop l.k l.fn.cells;
  later : (k : ℕ) → l.k ≤ k → k < length l.fn.cells → l.sum.place ≤ (get_or l.fn.cells k record { place = 0; val = 0 }).place;
}
