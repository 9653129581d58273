use Rattle.std.proofs.Common.{ℕ, ◌≡◌, map, slice_index, take}
use Rattle.sparse_rows.specs.Rows.{sum_at}
use Rattle.sparse_rows.specs.Stored.{entry_at}
use Rattle.kernel_solve.proofs.systems.at_leads.Given as goal

abbrev pub invariant-loop-k : goal.invariant-loop-k
invariant-loop-k l = record {
  modulus : l.entries.modulus ≡ l.side.modulus;
  height : l.entries.height ≡ l.n;
  width : l.entries.width ≡ 1;
  sums : (j : ℕ) → sum_at j 0 l.entries.pushed ≡ entry_at (take l.k (map (slice_index l.leads) l.rows)) (take l.k l.values) j;
}
