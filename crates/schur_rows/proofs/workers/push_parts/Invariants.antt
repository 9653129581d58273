use Rattle.std.proofs.Common.{◌≡◌, All}
use Rattle.triangular_solve.specs.Reduced.{workspace_of}
use Rattle.schur_rows.specs.Parts.{IsNumbered}
use Rattle.schur_rows.proofs.workers.push_parts.Given as goal

abbrev pub invariant-loop : goal.invariant-loop
invariant-loop l = record {
  work : l.work ≡ workspace_of l.deal.pass.reducer.now;
  parts : All (IsNumbered l.deal.pass.reducer.now l.deal) l.parts.items;
}
