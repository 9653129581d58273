use Rattle.std.proofs.Common.{◌≡◌, ◌≤◌, length}
use Rattle.std.specs.Prelude.{vec_capacity, vec_len}
use Rattle.weight_order.proofs.Rearranging.{paired_until}
use Rattle.weight_order.proofs.in_order.pair.Given as goal

abbrev pub invariant-loop-k : goal.invariant-loop-k
invariant-loop-k l = record {
  paired : l.pairs.items ≡ paired_until l.places l.cols l.vals l.k;
  len : vec_len l.pairs ≡ l.k;
  room : length l.cols ≤ vec_capacity l.pairs;
}
