use Rattle.weight_order.proofs.Selecting.{selecting_span}
use Rattle.weight_order.proofs.selecting_keeps_span.Goals as goal

pub returns : goal.returns
returns c = selecting_span
