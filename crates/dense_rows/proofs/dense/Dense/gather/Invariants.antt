use Rattle.std.proofs.Common.{◌≡◌, length, slice_index}
use Rattle.dense_rows.specs.Dense.{IsPut}
use Rattle.dense_rows.proofs.dense.Dense.gather.Given as goal

abbrev pub invariant-loop-k : goal.invariant-loop-k
invariant-loop-k g l = record {
  modulus : l.to.modulus ≡ l.fn.to.modulus;
  put : IsPut (length l.fn.to.row) l.k (λ k. k) (λ k. slice_index l.self (slice_index l.columns k)) l.to.row;
}
