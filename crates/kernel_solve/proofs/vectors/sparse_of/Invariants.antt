use Rattle.std.proofs.Common.{◌≡◌}
use Rattle.kernel_solve.proofs.Preparing.{IsCopiedTo}
use Rattle.kernel_solve.proofs.vectors.sparse_of.Given as goal

abbrev pub invariant-loop-j : goal.invariant-loop-j
invariant-loop-j l = (l.row.modulus ≡ l.fn.p) × IsCopiedTo l.fn.entries l.j l.row.row
