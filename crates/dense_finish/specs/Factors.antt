-- The factors that a dense elimination gives.
use Rattle.std.specs.Prelude.{◌≡◌, ◌≢◌, ◌<◌, ℕ, List, length, slice_index}
use Rattle.residue_words.specs.Residues.{IsPrime}
use Rattle.residue_words.specs.Matrix.{Matrix, entry}
use Rattle.row_space.specs.Factors.{AreFactors, FitAsFactors}
use Rattle.dense_rows.specs.Rows.{entry_of}
use Rattle.sparse_rows.specs.Rows.{ResidueMatrix}
use Rattle.dense_finish.specs.declared.factors.Factors.{Factors}
use Rattle.dense_finish.specs.declared.right_factor.RightFactor.{RightFactor}

-- factors of A modulo p: sizes, residues and places of pivots for every modulus, and valid ones for a prime one
pub record IsFactored (p : ℕ) (A : Matrix) (f : Factors) : Type 0 where
  pub left_modulus : f.l.modulus ≡ p
  pub right_modulus : f.u.modulus ≡ p
  pub fit : FitAsFactors p A f.pivots f.l.matrix f.u.matrix
  pub factors : IsPrime p → AreFactors p A f.pivots f.l.matrix f.u.matrix

-- with some left factor they are factors of A
abbrev pub IsRightFactored : ℕ → Matrix → RightFactor → Type 0
IsRightFactored p A r = (L : ResidueMatrix) × IsFactored p A (record { pivots = r.pivots; l = L; u = r.u })

-- the left factor: at each of these rows the coefficients of a row of the block, and zeros at the others
pub record IsLeftFactor (m : ℕ) (rows columns : List ℕ) (block : List (List ℕ)) (L : Matrix) : Type 0 where
  pub height : L.height ≡ m
  pub width : L.width ≡ length columns
  pub filled : (t k : ℕ) → t < length rows → k < length columns →
      entry L (slice_index rows t) k ≡ entry_of block t (slice_index columns k)
  pub others : (i k : ℕ) → i < m → k < length columns →
      ((t : ℕ) → t < length rows → slice_index rows t ≢ i) → entry L i k ≡ 0
