use Rattle.std.proofs.Common.{ℕ, ◌≡◌, ◌≤◌, length, map, take}
use Rattle.std.specs.Prelude.{vec_capacity, vec_len}
use Rattle.weight_order.proofs.in_order.part.Given as goal

abbrev pub invariant-loop-entry : goal.invariant-loop-entry
invariant-loop-entry l = record {
  cols : l.cols.items ≡ map (λ (q : ℕ × ℕ). q.0) (take l.entry-index l.pairs);
  vals : l.vals.items ≡ map (λ (q : ℕ × ℕ). q.1) (take l.entry-index l.pairs);
  cols_len : vec_len l.cols ≡ l.entry-index;
  vals_len : vec_len l.vals ≡ l.entry-index;
  cols_room : length l.pairs ≤ vec_capacity l.cols;
  vals_room : length l.pairs ≤ vec_capacity l.vals;
}
