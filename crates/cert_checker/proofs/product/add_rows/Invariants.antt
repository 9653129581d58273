use Rattle.cert_checker.proofs.Combining.{IsAddingRows}
use Rattle.cert_checker.proofs.product.add_rows.Given as goal

abbrev pub invariant-loop-k : goal.invariant-loop-k
invariant-loop-k l = IsAddingRows l.fn.p l.cols l.vals l.fn.b.matrix l.fn.sums l.k l.sums
