use Rattle.std.proofs.Common.{◌≤◌, ◌-◌}
use Rattle.schur_rows.specs.RestBasis.{IsBasisUpTo}
use Rattle.schur_rows.proofs.chunked_basis.basis_of.Given as goal

abbrev pub invariant-loop-from : goal.invariant-loop-from
invariant-loop-from g l = record {
  inside : l.from ≤ l.pass.reducer.now.rows.matrix.height;
  basis : IsBasisUpTo l.pass.reducer.now l.from l.basis;
}

abbrev pub decreases-loop-from : goal.decreases-loop-from
decreases-loop-from g l = l.pass.reducer.now.rows.matrix.height - l.from
