use Rattle.std.proofs.Common.{◌≡◌, ◌-◌, ◌%◌, map, slice_index}
use Rattle.sparse_rows.proofs.Loops.{IsCopiedSoFar}
use Rattle.kernel_solve.proofs.bases.write_basis_row.Given as goal

abbrev pub invariant-loop-k : goal.invariant-loop-k
invariant-loop-k l =
    (l.to.modulus ≡ l.fn.to.modulus) × IsCopiedSoFar 0 l.k (map (slice_index l.leads) l.rows) (map (λ v. (l.modulus - v) % l.modulus) l.values) l.fn.to.row l.to.row
