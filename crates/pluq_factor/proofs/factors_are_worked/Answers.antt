use Rattle.pluq_factor.proofs.Example.{worked}
use Rattle.pluq_factor.proofs.factors_are_worked.Goals as goal

pub returns : goal.returns
returns c = worked
