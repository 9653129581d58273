use Rattle.std.proofs.Common.{◌-◌, length}
use Rattle.lead_rows.specs.Accumulator.{IsClear}
use Rattle.echelon_form.proofs.Gathering.{IsGathered}
use Rattle.echelon_form.proofs.settle.share_of.Given as goal

abbrev pub invariant-loop-at : goal.invariant-loop-at
invariant-loop-at l = record {
  gathered : IsGathered l.kept l.order l.worker l.workers l.at l.share.items;
  clear : IsClear l.kept.modulus l.kept.matrix.width l.accumulator;
}

abbrev pub decreases-loop-at : goal.decreases-loop-at
decreases-loop-at l = length l.order - l.at
