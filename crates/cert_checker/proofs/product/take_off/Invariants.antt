use Rattle.std.proofs.Common.{◌-◌}
use Rattle.sparse_rows.proofs.Adding.{IsAdding}
use Rattle.cert_checker.proofs.product.take_off.Given as goal

abbrev pub invariant-loop-k : goal.invariant-loop-k
invariant-loop-k l = IsAdding l.p (l.p - 1) l.cols l.vals l.fn.sums l.k l.sums
