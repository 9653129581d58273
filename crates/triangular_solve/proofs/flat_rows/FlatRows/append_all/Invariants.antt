use Rattle.std.proofs.Common.{◌≡◌, length}
use Rattle.lead_rows.specs.Accumulator.{IsClear}
use Rattle.triangular_solve.specs.FlatRows.{AreFlat}
use Rattle.triangular_solve.proofs.flat_rows.FlatRows.append_all.Given as goal

abbrev pub invariant-loop-k : goal.invariant-loop-k
invariant-loop-k l = record {
  count : l.self.count ≡ l.fn.self.count;
  flat : AreFlat l.pivots l.self;
  height : l.self.tails.matrix.height ≡ l.k;
  clear : IsClear l.pivots.rows.modulus (length l.pivots.columns) l.sums;
}
