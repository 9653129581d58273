use Rattle.std.proofs.Common.{◌≡◌, take}
use Rattle.triangular_solve.specs.PivotRows.{rows_on}
use Rattle.triangular_solve.proofs.pivot_rows.place_rows.Given as goal

abbrev pub invariant-loop-k : goal.invariant-loop-k
invariant-loop-k l = record {
  modulus : l.placed.modulus ≡ l.rows.modulus;
  matrix : l.placed.matrix ≡ rows_on l.rows.matrix l.order (take l.k l.pairs);
}
