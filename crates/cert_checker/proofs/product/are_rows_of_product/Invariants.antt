use Rattle.std.proofs.Common.{◌≡◌, ◌-◌, length}
use Rattle.sparse_rows.specs.ColumnSet.{AllZero}
use Rattle.sparse_rows.specs.Placed.{matrices_from}
use Rattle.cert_checker.proofs.Narrowing.{AreCombinedBefore}
use Rattle.cert_checker.proofs.product.are_rows_of_product.Given as goal

abbrev pub invariant-loop-i : goal.invariant-loop-i
invariant-loop-i l = (length l.sums ≡ l.fn.b.matrix.width) × AllZero l.sums × AreCombinedBefore l.fn.b.modulus l.fn.v.matrix l.fn.y.matrix l.fn.b.matrix l.filled.from
    × (l.filled ≡ matrices_from l.fn.v.matrix l.fn.y.matrix l.filled.from)

abbrev pub decreases-loop-i : goal.decreases-loop-i
decreases-loop-i l = l.fn.v.matrix.height - l.filled.from
