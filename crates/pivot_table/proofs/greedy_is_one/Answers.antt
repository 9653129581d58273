use Rattle.pivot_table.proofs.Selecting.{greedy_one}
use Rattle.pivot_table.proofs.greedy_is_one.Goals as goal

pub returns : goal.returns
returns c = λ A h seen r starts dead. greedy_one A h seen r starts dead
