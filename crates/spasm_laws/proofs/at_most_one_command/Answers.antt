use Rattle.spasm_words.proofs.Exact.{one_command}
use Rattle.spasm_laws.proofs.at_most_one_command.Goals as goal

pub returns : goal.returns
returns c = one_command
