use Rattle.std.proofs.Common.{◌≡◌}
use Rattle.triangular_solve.specs.Reduced.{workspace_of}
use Rattle.triangular_solve.proofs.flat_estimate.FlatEstimate.of.Given as goal

abbrev pub invariant-loop-k : goal.invariant-loop-k
invariant-loop-k l = l.work ≡ workspace_of l.triangle
