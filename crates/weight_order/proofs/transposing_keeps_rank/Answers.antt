use Rattle.weight_order.proofs.Transposing.{transposing}
use Rattle.weight_order.proofs.transposing_keeps_rank.Goals as goal

pub returns : goal.returns
returns c = transposing
