use Rattle.triangular_solve.proofs.SchurRows.{schur_row_one}
use Rattle.triangular_solve.proofs.reduced.schur_row_is_one.Goals as goal

pub returns : goal.returns
returns c = schur_row_one
