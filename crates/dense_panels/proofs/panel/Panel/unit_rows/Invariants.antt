use Rattle.std.proofs.Common.{ℕ, ◌≡◌, ◌<◌, length, slice_index}
use Rattle.dense_rows.specs.Rows.{AreVectors, block_row}
use Rattle.dense_panels.specs.Units.{unit_row}
use Rattle.dense_panels.proofs.panel.Panel.unit_rows.Given as goal

abbrev pub invariant-loop-k : goal.invariant-loop-k
invariant-loop-k g l = record {
  long : length l.units.items ≡ l.k;
  vectors : AreVectors l.p l.self.width l.units.items;
  each : (t : ℕ) → t < length l.units.items → block_row l.units.items t ≡ unit_row l.self.width (slice_index l.self.columns t);
}
