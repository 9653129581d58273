use Rattle.std.proofs.Common.{length}
use Rattle.lead_rows.specs.Accumulator.{IsAlike}
use Rattle.triangular_solve.proofs.SplitRows.{IsSplitting}
use Rattle.triangular_solve.proofs.column_order.ColumnOrder.split.Given as goal

abbrev pub invariant-loop-k : goal.invariant-loop-k
invariant-loop-k l = record {
  sums : IsAlike l.fn.sums l.sums;
  passed : IsAlike l.fn.passed l.passed;
  splitting : IsSplitting l.fn.sums.modulus l.self l.cols l.vals l.k (length l.fn.passed.row) l.sums.row l.passed.row;
}
