use Rattle.std.proofs.Common.{ℕ, ◌<◌, ◌≤◌, length, slice_index}
use Rattle.dense_finish.specs.RowRoom.{ServesRows}
use Rattle.dense_finish.proofs.Gathering.{IsLeftSoFar}
use Rattle.dense_finish.proofs.factors.left_factor.Given as goal

abbrev pub invariant-loop-t : goal.invariant-loop-t
invariant-loop-t g l = record {
  left : IsLeftSoFar l.block.modulus l.block.rows l.pivots.columns.items l.block.entries l.t l.left;
  inside : l.count ≤ length l.pivots.rows.items;
  rest : (k : ℕ) → l.count ≤ k → k < length l.pivots.rows.items → l.t ≤ slice_index l.pivots.rows.items k;
  room : ServesRows l.block.modulus (length l.pivots.columns.items) l.row_room;
  below : l.left.matrix.height ≤ l.block.height;
}
