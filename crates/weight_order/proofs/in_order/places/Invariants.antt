use Rattle.std.proofs.Common.{◌≡◌, length}
use Rattle.weight_order.proofs.Rearranging.{ArePlacedSoFar}
use Rattle.weight_order.proofs.in_order.places.Given as goal

abbrev pub invariant-loop-k : goal.invariant-loop-k
invariant-loop-k l = (length l.places.items ≡ l.n) × ArePlacedSoFar l.columns l.k l.places.items
