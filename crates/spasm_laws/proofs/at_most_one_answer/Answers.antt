use Rattle.spasm_laws.proofs.OneAnswer.{one_answer}
use Rattle.spasm_laws.proofs.at_most_one_answer.Goals as goal

pub returns : goal.returns
returns c = one_answer
