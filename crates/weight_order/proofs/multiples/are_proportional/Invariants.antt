use Rattle.std.proofs.Common.{ℕ, ◌≡◌, ◌<◌, ◌*◌, ◌%◌, slice_index}
use Rattle.weight_order.proofs.multiples.are_proportional.Given as goal

abbrev pub invariant-loop-t : goal.invariant-loop-t
invariant-loop-t l = (k : ℕ) → k < l.t → (slice_index l.values k * l.other_first) % l.p ≡ (slice_index l.others k * l.first) % l.p
