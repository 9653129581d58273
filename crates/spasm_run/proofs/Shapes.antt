-- The shapes of answers.
use Rattle.std.proofs.Common.{ℕ, ◌≡◌, ◌≤◌, subst}
use Rattle.residue_words.specs.Matrix.{IsMatrix}
use Rattle.sparse_rows.specs.Rows.{ResidueMatrix}
use Rattle.spasm_run.specs.Shapes.{IsAtMostSquare}

-- a matrix that is kept with its modulus, by its sizes
pub at_most_square : (p n : ℕ) (E : ResidueMatrix) → E.modulus ≡ p → IsMatrix E.modulus E.matrix → E.matrix.width ≡ n → E.matrix.height ≤ n → IsAtMostSquare p n E.matrix
at_most_square p n E modulus sound width short = (subst (λ q. IsMatrix q E.matrix) modulus sound, width, short)
