-- How batches are refused, worked on the 3 x 3 example.
use Rattle.std.specs.Prelude.{◌≡◌, List, [], ◌∷◌, None, Some, codes}
use Rattle.row_space.specs.Example.{example, example_kernel}
use Rattle.kernel_solve.specs.Column.{column_matrix}
use Rattle.sparse_rows.specs.Rows.{LARGEST_SIZE}
use Rattle.batch_solve.specs.declared.batch_status.BatchStatus.TheVariants.{Shape, Wide}
use Rattle.batch_solve.specs.BatchAnswers.{batch_misfit}
use Rattle.batch_solve.specs.BatchStatus.{batch_code, shape_line}

-- each line an equation that computes
pub record AreWorkedBatches : Type 0 where
  pub alone : batch_misfit (example ∷ []) ≡ None
  pub fits : batch_misfit (example ∷ column_matrix (1 ∷ 0 ∷ 1 ∷ []) ∷ []) ≡ None
  pub misfits : batch_misfit
      (example ∷ column_matrix (1 ∷ 0 ∷ 1 ∷ []) ∷ example_kernel ∷ column_matrix (1 ∷ []) ∷ []) ≡ Some (Shape 2 1 3)
  pub wide : batch_misfit (record { height = LARGEST_SIZE; width = 1; rows = [] } ∷ example_kernel ∷ [])
      ≡ Some (Wide LARGEST_SIZE 1)
  pub line : shape_line 1 3 2 ≡ codes "error 4 shape 1 3 question 2\n"
  pub code : batch_code (Shape 2 1 3) ≡ 4
