use Rattle.std.proofs.Common.{length}
use Rattle.residue_words.specs.Matrix.{IsVector}
use Rattle.lead_rows.specs.Accumulator.{IsAlike}
use Rattle.lead_rows.proofs.Extent.{extent}
use Rattle.triangular_solve.proofs.JoinedRows.{IsJoining}
use Rattle.triangular_solve.proofs.column_order.ColumnOrder.join.Given as goal

abbrev pub invariant-loop-place : goal.invariant-loop-place
invariant-loop-place l = record {
  sums : IsAlike l.fn.sums l.sums;
  rest : IsAlike l.fn.rest l.rest;
  vector : IsVector l.fn.sums.modulus (length l.self) l.sums.row;
  joining : IsJoining l.self l.fn.sums.row l.passed.row l.sums.row l.rest.row l.at;
}

abbrev pub decreases-loop-place : goal.decreases-loop-place
decreases-loop-place l = extent l.sums.row
