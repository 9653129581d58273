use Rattle.row_space.proofs.InverseLaws.{inverse_unique}
use Rattle.row_space.proofs.inverse_is_unique.Goals as goal

pub returns : goal.returns
returns c = inverse_unique
