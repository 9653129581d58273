use Rattle.std.proofs.Common.{ℕ, ◌≡◌, ◌<◌, ◌≤◌, length, slice_index}
use Rattle.dense_rows.proofs.dense.Dense.entries_at.Given as goal

abbrev pub invariant-loop-k : goal.invariant-loop-k
invariant-loop-k g l = record {
  long : length l.entries ≡ 64;
  entries : (t : ℕ) → t < l.k → slice_index l.entries t ≡ slice_index l.self (slice_index l.columns t);
  rest : (t : ℕ) → l.k ≤ t → slice_index l.entries t ≡ 0;
}
