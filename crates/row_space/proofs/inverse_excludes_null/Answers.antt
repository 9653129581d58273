use Rattle.row_space.proofs.InverseLaws.{inverse_null}
use Rattle.row_space.proofs.inverse_excludes_null.Goals as goal

pub returns : goal.returns
returns c = inverse_null
