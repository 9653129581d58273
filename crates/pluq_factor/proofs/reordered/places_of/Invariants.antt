use Rattle.std.proofs.Common.{◌≡◌, length}
use Rattle.weight_order.proofs.Rearranging.{ArePlacedSoFar}
use Rattle.pluq_factor.proofs.reordered.places_of.Given as goal

abbrev pub invariant-loop-k : goal.invariant-loop-k
invariant-loop-k l = (length l.places.items ≡ length l.order) × ArePlacedSoFar l.order l.k l.places.items
