use Rattle.spasm_laws.proofs.Continuing.{closed_texts}
use Rattle.spasm_laws.proofs.closed_texts_are_worked.Goals as goal

pub returns : goal.returns
returns c = closed_texts
