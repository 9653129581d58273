use Rattle.spasm_laws.proofs.Continuing.{traced_replayed}
use Rattle.spasm_laws.proofs.traced_is_replayed.Goals as goal

pub returns : goal.returns
returns c = traced_replayed
