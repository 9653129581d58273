use Rattle.std.proofs.Common.{take}
use Rattle.weight_order.specs.Shape.{ArePlacedWeights}
use Rattle.weight_order.proofs.filled_rows.placed.Given as goal

abbrev pub invariant-loop-weight : goal.invariant-loop-weight
invariant-loop-weight l = ArePlacedWeights (take l.weight-index l.weights) l.placed.items
