use Rattle.std.proofs.Common.{◌≡◌, map, slice_index, take}
use Rattle.echelon_form.proofs.lead_order.named.Given as goal

abbrev pub invariant-loop-place : goal.invariant-loop-place
invariant-loop-place l = l.named.items ≡ map (slice_index l.columns) (take l.place-index l.places)
