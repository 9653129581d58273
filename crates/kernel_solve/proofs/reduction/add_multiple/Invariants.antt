use Rattle.sparse_rows.proofs.Adding.{IsAdding}
use Rattle.kernel_solve.proofs.reduction.add_multiple.Given as goal

abbrev pub invariant-loop-k : goal.invariant-loop-k
invariant-loop-k l = IsAdding l.fn.modulus l.fn.by l.fn.cols l.fn.vals l.fn.x l.k l.x
