use Rattle.lead_rows.specs.Accumulator.{IsAlike}
use Rattle.triangular_solve.proofs.Flattening.{IsFlattening}
use Rattle.triangular_solve.proofs.flat_rows.FlatRows.flatten.Given as goal

abbrev pub invariant-loop-k : goal.invariant-loop-k
invariant-loop-k l = record {
  sums : IsAlike l.fn.sums l.sums;
  flattening : IsFlattening l.pivots l.inverse l.cols l.vals l.k l.sums.row;
}
