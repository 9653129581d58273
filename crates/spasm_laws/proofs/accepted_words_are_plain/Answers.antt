use Rattle.spasm_words.proofs.Exact.{accepted_plain}
use Rattle.spasm_laws.proofs.accepted_words_are_plain.Goals as goal

pub returns : goal.returns
returns c = accepted_plain
