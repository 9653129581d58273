use Rattle.row_space.proofs.Unique.{refutation_unique}
use Rattle.row_space.proofs.refutation_is_unique.Goals as goal

pub returns : goal.returns
returns c = refutation_unique
