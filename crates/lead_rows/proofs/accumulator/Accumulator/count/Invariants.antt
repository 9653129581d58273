use Rattle.lead_rows.specs.Accumulator.{IsAlike}
use Rattle.lead_rows.proofs.Extent.{extent}
use Rattle.lead_rows.proofs.accumulator.Accumulator.count.Given as goal

abbrev pub invariant-loop-count : goal.invariant-loop-count
invariant-loop-count l = IsAlike l.fn.self l.self

abbrev pub decreases-loop-count : goal.decreases-loop-count
decreases-loop-count l = extent l.self.row
