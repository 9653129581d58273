-- What one round takes out of a matrix.
use Rattle.std.specs.Prelude.{◌≡◌, ℕ, List}
use Rattle.residue_words.specs.Residues.{IsPrime}
use Rattle.residue_words.specs.Matrix.{IsMatrix}
use Rattle.residue_words.specs.declared.plain.Pair.{Pair}
use Rattle.sparse_rows.specs.Rows.{ResidueMatrix}
use Rattle.pivot_table.specs.Order.{Triangular}
use Rattle.pivot_table.specs.Selected.{Selected}
use Rattle.triangular_solve.specs.Reduced.{IsComplement}
use Rattle.triangular_solve.specs.Triangle.{TriangleState}
use Rattle.schur_rows.specs.RestBasis.{IsRestBasis}
use Rattle.schur_rows.specs.Round.{FitsComplement, FitsRound, IsRound, pivot_rows}
use Rattle.pluq_factor.specs.declared.basis_round.BasisRound.{BasisRound}
use Rattle.pluq_factor.specs.declared.rest.Rest.{Rest}
use Rattle.pluq_factor.specs.declared.rest.Rest.TheVariants.{Stored, Basis}
use Rattle.pluq_factor.specs.declared.round_pivots.RoundPivots.{RoundPivots}

-- the matrix with these pairs
abbrev pub triangle_on : ResidueMatrix → List Pair → TriangleState
triangle_on R qs = record { rows = R; pairs = qs }

-- the pivots of R that so many workers selected
pub record AreSelected (R : ResidueMatrix) (workers : ℕ) (t : TriangleState) : Type 0 where
  pub rows : t.rows ≡ R
  pub selected : Selected R.matrix workers t.pairs

-- the pivots that so many workers selected, their rows, and what they leave
pub record IsRoundTaken (R : ResidueMatrix) (workers : ℕ) (r : RoundPivots) : Type 0 where
  pub sound : IsMatrix R.modulus R.matrix
  pub selected : Selected R.matrix workers r.pivots
  pub modulus : r.top.modulus ≡ R.modulus
  pub top : r.top.matrix ≡ pivot_rows R.matrix r.pivots
  pub fits : FitsRound (triangle_on R r.pivots) r.left
  pub round : IsPrime R.modulus → IsRound (triangle_on R r.pivots) r.left

-- the complement, or a basis of its row space
abbrev pub IsRestOf : TriangleState → Rest → Type 0
IsRestOf t (Stored B) = FitsComplement t B
    × (IsPrime t.rows.modulus → IsComplement t.rows.modulus t.rows.matrix t.pairs B.matrix)
IsRestOf t (Basis U) = IsRestBasis t U

-- the rows of triangular pivots, and what these leave
pub record IsBasisRound (R : ResidueMatrix) (r : BasisRound) : Type 0 where
  pub sound : IsMatrix R.modulus R.matrix
  pub pairs : List Pair
  pub triangular : Triangular R.matrix pairs
  pub modulus : r.top.modulus ≡ R.modulus
  pub top : r.top.matrix ≡ pivot_rows R.matrix pairs
  pub rest : IsRestOf (triangle_on R pairs) r.rest
