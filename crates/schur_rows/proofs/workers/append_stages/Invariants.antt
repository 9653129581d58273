use Rattle.std.proofs.Common.{◌≤◌, ◌-◌, All}
use Rattle.schur_rows.specs.Parts.{IsNumbered, IsPartTo, cut_at}
use Rattle.schur_rows.proofs.workers.append_stages.Given as goal

abbrev pub invariant-loop-begun : goal.invariant-loop-begun
invariant-loop-begun g l = record {
  joined : l.joined ≤ l.begun;
  begun : l.begun ≤ l.deal.count;
  parts : All (IsNumbered l.deal.pass.reducer.now l.deal) l.parts.items;
  made : IsPartTo l.deal.pass.reducer.now l.deal.pass.with_coefficients l.deal.from (cut_at l.deal l.joined) l.made;
}

abbrev pub decreases-loop-begun : goal.decreases-loop-begun
decreases-loop-begun g l = l.deal.count - l.begun
