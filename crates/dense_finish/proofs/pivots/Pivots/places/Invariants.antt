use Rattle.std.proofs.Common.{take}
use Rattle.dense_finish.specs.Pivots.{ArePivotPlaces}
use Rattle.dense_finish.proofs.pivots.Pivots.places.Given as goal

abbrev pub invariant-loop-k : goal.invariant-loop-k
invariant-loop-k l = ArePivotPlaces (take l.k l.self.rows.items) l.self.columns.items l.rows l.columns l.places
