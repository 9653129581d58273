use Rattle.std.proofs.Common.{◌≡◌, length, slice_index}
use Rattle.dense_rows.specs.Dense.{IsPut}
use Rattle.dense_rows.proofs.dense.Dense.scatter.Given as goal

abbrev pub invariant-loop-j : goal.invariant-loop-j
invariant-loop-j g l = record {
  modulus : l.to.modulus ≡ l.fn.to.modulus;
  put : IsPut (length l.fn.to.row) l.j (slice_index l.columns) (slice_index l.self) l.to.row;
}
