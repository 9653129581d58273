use Rattle.weight_order.proofs.Selecting.{selecting_rank}
use Rattle.weight_order.proofs.selecting_keeps_rank.Goals as goal

pub returns : goal.returns
returns c = selecting_rank
