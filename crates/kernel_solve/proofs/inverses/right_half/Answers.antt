use Rattle.std.proofs.Common.{◌+◌, ◌∙◌, ap, length}
use Rattle.residue_words.specs.Matrix.{entry}
use Rattle.sparse_rows.specs.Stored.{with_row}
use Rattle.sparse_rows.proofs.Loops.{length_zeros, matrix_by_more, zero_at}
use Rattle.kernel_solve.proofs.inverses.right_half.Goals as goal

pub loop-i-init : goal.loop-i-init
loop-i-init c = record {
  modulus = c.in_ok-half.ensures.modulus ∙ c.modulus.ensures.value;
  matrix = c.in_ok-half.ensures.matrix;
  row_modulus = c.new-row.ensures.modulus ∙ c.modulus-2.ensures.value;
  row_length = ap length c.new-row.ensures.row ∙ length_zeros _;
}

pub copy_right_half-requires-clause-long : goal.copy_right_half-requires-clause-long
copy_right_half-requires-clause-long c = ap length c.clear.ensures.row ∙ length_zeros _ ∙ c.loop-i.invariant.row_length

pub copy_right_half-requires-clause-zero : goal.copy_right_half-requires-clause-zero
copy_right_half-requires-clause-zero c = λ j l. zero_at c.clear.new.self.row _ c.clear.ensures.row j l

pub loop-i-preserved : goal.loop-i-preserved
loop-i-preserved c = record {
  modulus = c.append.ensures.modulus ∙ c.loop-i.invariant.modulus;
  matrix = c.in_ok-append.ensures.matrix ∙ ap (λ m. with_row m c.copy_right_half.new.to.row) c.loop-i.invariant.matrix
      ∙ matrix_by_more c.loop-i.i c.args.n (λ i j. entry c.args.rows.now.matrix i (c.args.n + j)) c.copy_right_half.new.to.row c.in_ok-copy_right_half.ensures.row;
  row_modulus = c.copy_right_half.ensures.modulus ∙ c.clear.ensures.modulus ∙ c.loop-i.invariant.row_modulus;
  row_length = c.copy_right_half.ensures.length;
}
