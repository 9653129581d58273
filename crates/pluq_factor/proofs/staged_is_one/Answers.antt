use Rattle.pluq_factor.proofs.Staging.{selected_one, staged_on}
use Rattle.pluq_factor.proofs.staged_is_one.Goals as goal

pub returns : goal.returns
returns c = record { selected = selected_one; on = staged_on c.complement_is_one.ensures }
