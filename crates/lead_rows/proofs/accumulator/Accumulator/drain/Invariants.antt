use Rattle.std.proofs.Common.{length}
use Rattle.residue_words.specs.Matrix.{IsVector}
use Rattle.lead_rows.specs.Accumulator.{IsAlike}
use Rattle.lead_rows.proofs.Extent.{extent}
use Rattle.lead_rows.proofs.Listed.{IsListing}
use Rattle.lead_rows.proofs.accumulator.Accumulator.drain.Given as goal

abbrev pub invariant-loop-column : goal.invariant-loop-column
invariant-loop-column l = record {
  sums : IsAlike l.fn.self l.self;
  row : IsAlike l.fn.row l.row;
  vector : IsVector l.fn.self.modulus (length l.fn.self.row) l.self.row;
  listing : IsListing l.fn.self.row l.self.row l.row.row;
}

abbrev pub decreases-loop-column : goal.decreases-loop-column
decreases-loop-column l = extent l.self.row
