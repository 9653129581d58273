use Rattle.std.proofs.Common.{◌≡◌, ◌*◌, ◌≤◌}
use Rattle.sparse_rows.proofs.Loops.{sparse_dot}
use Rattle.kernel_solve.proofs.substitution.row_times.Given as goal

abbrev pub invariant-loop-k : goal.invariant-loop-k
invariant-loop-k l = (l.sum ≡ sparse_dot l.cols l.vals l.fn.x l.k) × (l.sum ≤ l.k * 79228162514264337593543950336)
