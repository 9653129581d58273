use Rattle.kernel_solve.proofs.Refuting.{first_hit_holds}
use Rattle.kernel_solve.proofs.refutations.first_hit_refutes.Goals as goal

pub returns : goal.returns
returns c = first_hit_holds
