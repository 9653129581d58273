use Rattle.std.proofs.Common.{◌≡◌, ◌<◌, ◌≤◌, ◌+◌, ℕ, slice_index, true}
use Rattle.spasm_c.specs.Given.{IsBefore}
use Rattle.spasm_c.proofs.given.Given.is_in_order.Given as goal

abbrev pub invariant-loop-k : goal.invariant-loop-k
invariant-loop-k l = record {
  some : 1 ≤ l.k;
  positive : l.ordered ≡ true → (q : ℕ) → q < l.k → 0 < slice_index l.self.values.now q;
  order : l.ordered ≡ true → (q : ℕ) → q + 1 < l.k → IsBefore l.self q (q + 1);
}
