use Rattle.row_space.proofs.Unique.{solution_unique}
use Rattle.row_space.proofs.solution_is_unique.Goals as goal

pub returns : goal.returns
returns c = solution_unique
