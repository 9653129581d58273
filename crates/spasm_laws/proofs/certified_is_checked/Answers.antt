use Rattle.spasm_laws.proofs.Continuing.{certified_checked}
use Rattle.spasm_laws.proofs.certified_is_checked.Goals as goal

pub returns : goal.returns
returns c = certified_checked
