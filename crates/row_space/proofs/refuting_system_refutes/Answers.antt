use Rattle.row_space.proofs.Refuting.{refuting}
use Rattle.row_space.proofs.refuting_system_refutes.Goals as goal

pub returns : goal.returns
returns c = refuting
