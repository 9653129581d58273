use Rattle.row_space.proofs.InverseLaws.{refuting_solvable}
use Rattle.row_space.proofs.refuting_is_solvable.Goals as goal

pub returns : goal.returns
returns c = refuting_solvable
