use Rattle.std.proofs.Common.{All, length}
use Rattle.schur_rows.specs.Parts.{IsNumbered, IsWorkersShare}
use Rattle.schur_rows.proofs.workers.parts_by.Given as goal

abbrev pub invariant-loop-share : goal.invariant-loop-share
invariant-loop-share g l = record {
  shares : All (IsWorkersShare l.deal.pass.reducer.now l.deal) l.shares.items;
  parts : All (IsNumbered l.deal.pass.reducer.now l.deal) l.parts.items;
}

abbrev pub decreases-loop-share : goal.decreases-loop-share
decreases-loop-share g l = length l.shares.items
