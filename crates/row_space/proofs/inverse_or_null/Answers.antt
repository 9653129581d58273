use Rattle.row_space.proofs.InverseLaws.{inverse_or_null}
use Rattle.row_space.proofs.inverse_or_null.Goals as goal

pub returns : goal.returns
returns c = inverse_or_null
