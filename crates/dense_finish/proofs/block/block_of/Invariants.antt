use Rattle.std.proofs.Common.{ℕ, ◌≡◌, ◌<◌, length, slice_index}
use Rattle.residue_words.specs.Matrix.{IsVector, entry}
use Rattle.dense_rows.specs.Rows.{block_row, entry_of}
use Rattle.dense_finish.proofs.block.block_of.Given as goal

abbrev pub invariant-loop-i : goal.invariant-loop-i
invariant-loop-i g l = record {
  long : length l.block.items ≡ l.i-index;
  vectors : (t : ℕ) → t < length l.block.items → IsVector l.rows.modulus (length l.columns) (block_row l.block.items t);
  each : (t j : ℕ) → t < length l.block.items → j < length l.columns → entry_of l.block.items t j ≡ entry l.rows.matrix (slice_index l.filled_rows t) (slice_index l.columns j);
}
