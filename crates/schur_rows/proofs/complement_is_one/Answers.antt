use Rattle.schur_rows.proofs.Unique.{complement_one}
use Rattle.schur_rows.proofs.complement_is_one.Goals as goal

pub returns : goal.returns
returns c = complement_one c.schur_row_is_one.ensures
