use Rattle.weight_order.proofs.Example.{turned}
use Rattle.weight_order.proofs.example_is_turned.Goals as goal

pub returns : goal.returns
returns c = turned
