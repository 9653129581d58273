use Rattle.std.proofs.Common.{ℕ, ◌<◌, ◌≤◌, All, Contains, length}
use Rattle.dense_rows.specs.Rows.{block_row}
use Rattle.dense_panels.specs.Pieces.{IsInPieces}
use Rattle.dense_panels.proofs.pieces.put_pieces.Given as goal

abbrev pub invariant-loop-piece : goal.invariant-loop-piece
invariant-loop-piece g l = record {
  rest : All (Contains l.fn.pieces.items) l.pieces.items;
  inside : l.at ≤ length l.fn.rows;
  done : (t : ℕ) → t < l.at → IsInPieces l.fn.pieces.items t (block_row l.rows t);
}

abbrev pub decreases-loop-piece : goal.decreases-loop-piece
decreases-loop-piece g l = length l.pieces.items
