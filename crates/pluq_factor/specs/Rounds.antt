-- What is told of factors and of rounds for every modulus.
use Rattle.std.specs.Prelude.{◌≡◌, ◌<◌, ◌≤◌, ℕ, List, [], length}
use Rattle.residue_words.specs.Residues.{IsPrime}
use Rattle.residue_words.specs.Matrix.{Matrix, IsMatrix}
use Rattle.residue_words.specs.declared.plain.Pair.{Pair}
use Rattle.row_space.specs.Factors.{AreFactors, row_at, col_at}
use Rattle.dense_finish.specs.declared.factors.Factors.{Factors}

-- L and U are of the sizes of factors of A, with a column of L and a row of U for each pivot; the pivots lie in A, and are no
-- more than its rows
pub record HaveSizes (p : ℕ) (A : Matrix) (pivots : List Pair) (L U : Matrix) : Type 0 where
  pub left : IsMatrix p L
  pub right : IsMatrix p U
  pub left_height : L.height ≡ A.height
  pub left_width : L.width ≡ length pivots
  pub right_height : U.height ≡ length pivots
  pub right_width : U.width ≡ A.width
  pub rows_below : (k : ℕ) → k < length pivots → row_at pivots k < A.height
  pub columns_below : (k : ℕ) → k < length pivots → col_at pivots k < A.width
  pub few : length pivots ≤ A.height

-- factors of A modulo p: sizes and residues for every modulus, and valid ones for a prime one
pub record AreFactorsOf (p : ℕ) (A : Matrix) (f : Factors) : Type 0 where
  pub left_modulus : f.l.modulus ≡ p
  pub right_modulus : f.u.modulus ≡ p
  pub sizes : HaveSizes p A f.pivots f.l.matrix f.u.matrix
  pub factors : IsPrime p → AreFactors p A f.pivots f.l.matrix f.u.matrix

-- factors without a pivot, of these sizes
pub record AreWithoutPivots (p height width : ℕ) (f : Factors) : Type 0 where
  pub pivots : f.pivots ≡ []
  pub left_modulus : f.l.modulus ≡ p
  pub right_modulus : f.u.modulus ≡ p
  pub left : IsMatrix p f.l.matrix
  pub right : IsMatrix p f.u.matrix
  pub left_height : f.l.matrix.height ≡ height
  pub left_width : f.l.matrix.width ≡ 0
  pub right_height : f.u.matrix.height ≡ 0
  pub right_width : f.u.matrix.width ≡ width
