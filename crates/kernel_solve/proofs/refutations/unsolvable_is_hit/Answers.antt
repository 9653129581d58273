use Rattle.kernel_solve.proofs.Refuting.{unsolvable_hit_holds}
use Rattle.kernel_solve.proofs.refutations.unsolvable_is_hit.Goals as goal

pub returns : goal.returns
returns c = unsolvable_hit_holds
