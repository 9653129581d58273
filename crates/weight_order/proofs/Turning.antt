-- Rows from the last to the first have the same row space.
use Rattle.std.proofs.Common.{◌≡◌, ◌≤◌, sym, ap, subst, arith}
use Rattle.residue_words.specs.Residues.{IsPrime}
use Rattle.residue_words.specs.Matrix.{Matrix, IsMatrix}
use Rattle.row_space.specs.Echelon.{SameSpan}
use Rattle.sparse_rows.specs.Rows.{ResidueMatrix}
use Rattle.weight_order.specs.Turned.{HasFilledRows}
use Rattle.weight_order.proofs.Selecting.{selected_matrix, selected_span}

module _ {R T : ResidueMatrix} (h : HasFilledRows R T) where
  pub turned_span : IsPrime R.modulus → SameSpan R.modulus R.matrix T.matrix
  turned_span prime =
      subst (SameSpan R.modulus R.matrix) (sym h.matrix) (selected_span R.modulus R.matrix h.numbers h.sound h.filled prime.two_or_more)

  pub turned_matrix : IsMatrix R.modulus T.matrix
  turned_matrix = subst (IsMatrix R.modulus) (sym h.matrix) (selected_matrix R.modulus R.matrix h.numbers h.sound h.filled)

  pub turned_width : T.matrix.width ≡ R.matrix.width
  turned_width = ap (λ (M : Matrix). M.width) h.matrix

  pub turned_few : T.matrix.height ≤ R.matrix.height
  turned_few = omega (arith, ap (λ (M : Matrix). M.height) h.matrix, h.few)
