use Rattle.std.proofs.Common.{◌≡◌}
use Rattle.triangular_solve.specs.Reduced.{HasSizesOf, workspace_of}
use Rattle.schur_rows.proofs.sampling.mean_of.Given as goal

abbrev pub invariant-loop-k : goal.invariant-loop-k
invariant-loop-k l = record {
  work : l.work ≡ workspace_of l.reducer;
  sizes : HasSizesOf l.reducer l.reduced;
}
