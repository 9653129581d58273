use Rattle.std.proofs.Common.{◌≤◌, ◌-◌}
use Rattle.schur_rows.specs.Parts.{ArePartCuts}
use Rattle.schur_rows.proofs.part_cuts.cuts_between.Given as goal

abbrev pub invariant-loop-number : goal.invariant-loop-number
invariant-loop-number l = record {
  number : l.number ≤ l.count;
  inside : l.last ≤ l.to;
  cuts : ArePartCuts l.from l.last (l.number - 1) l.cuts.items;
}
