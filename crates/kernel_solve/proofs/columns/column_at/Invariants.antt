use Rattle.std.proofs.Common.{ℕ, ◌≡◌, ◌<◌, ◌≤◌, length, slice_index}
use Rattle.residue_words.specs.Matrix.{entry}
use Rattle.kernel_solve.proofs.columns.column_at.Given as goal

abbrev pub invariant-loop-i : goal.invariant-loop-i
invariant-loop-i l = record {
  modulus : l.column.modulus ≡ l.rows.modulus;
  long : length l.column.row ≡ l.rows.matrix.height;
  made : (t : ℕ) → t < l.i → slice_index l.column.row t ≡ entry l.rows.matrix t l.j;
  behind : (t : ℕ) → l.i ≤ t → t < l.rows.matrix.height → slice_index l.column.row t ≡ 0;
}
