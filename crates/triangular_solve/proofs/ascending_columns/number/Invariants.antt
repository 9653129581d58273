use Rattle.std.proofs.Common.{length}
use Rattle.triangular_solve.proofs.Placing.{IsTableSoFar}
use Rattle.triangular_solve.proofs.ascending_columns.number.Given as goal

abbrev pub invariant-loop-k : goal.invariant-loop-k
invariant-loop-k l = IsTableSoFar (length l.fn.table) l.columns l.k l.table
