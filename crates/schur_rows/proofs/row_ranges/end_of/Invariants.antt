use Rattle.std.proofs.Common.{◌≤◌, ◌+◌}
use Rattle.schur_rows.proofs.row_ranges.end_of.Given as goal

abbrev pub invariant-loop : goal.invariant-loop
invariant-loop l = record {
  low : l.from + l.counter ≤ l.end;
  inside : l.end ≤ l.reducer.rows.matrix.height;
}
