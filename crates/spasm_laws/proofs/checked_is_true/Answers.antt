use Rattle.spasm_laws.proofs.Checking.{checked_true}
use Rattle.spasm_laws.proofs.checked_is_true.Goals as goal

pub returns : goal.returns
returns c = checked_true
