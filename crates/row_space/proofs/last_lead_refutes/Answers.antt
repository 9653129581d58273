use Rattle.row_space.proofs.ReadOff.{last_lead}
use Rattle.row_space.proofs.last_lead_refutes.Goals as goal

pub returns : goal.returns
returns c = last_lead
