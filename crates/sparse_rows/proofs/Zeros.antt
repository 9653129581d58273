-- Cells without those whose value is 0 make the same matrix.
use Rattle.std.proofs.Common.{ℕ, ◌≡◌, ◌%◌, ◌≤◌, List, map, ap, ◌∙◌}
use Rattle.std.proofs.lemmas.List.Sorted.{IsPermutation-refl}
use Rattle.matrix_cells.specs.declared.values_at_places.Cell.{Cell}
use Rattle.matrix_cells.specs.Cells.{AreEntries, without_zeros}
use Rattle.sparse_rows.specs.Cells.{matrix_of_cells, triple_of}
use Rattle.sparse_rows.specs.Rows.{built}
use Rattle.matrix_cells.proofs.Sums.{entries_sums}
use Rattle.sparse_rows.proofs.Building.{sums_built}
use Rattle.matrix_cells.proofs.Zeros.{weight_without}

-- and make the matrix that is built of all
pub without_built : (p m n : ℕ) (cells : List Cell) → n ≤ 2147483648 → AreEntries p (without_zeros cells) → matrix_of_cells m n (without_zeros cells) ≡ built p m n (map triple_of cells)
without_built p m n cells small e = sums_built p m n cells cells (without_zeros cells) small (IsPermutation-refl cells) (record {
  entries = e;
  sums = λ t. (entries_sums p (without_zeros cells) e).sums t ∙ ap (λ w. w % p) (weight_without t cells);
})
