use Rattle.row_space.proofs.ReadOff.{solution_read}
use Rattle.row_space.proofs.rref_solves.Goals as goal

pub returns : goal.returns
returns c = solution_read
