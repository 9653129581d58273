-- The laws of one round. Each is the contract of a public function that does nothing.
use Rattle.std.specs.Prelude.{◌≡◌, ◌+◌, ◌++◌, ℕ, List, length}
use Rattle.residue_words.specs.Residues.{IsPrime}
use Rattle.residue_words.specs.Matrix.{Matrix, IsMatrix}
use Rattle.residue_words.specs.declared.plain.Pair.{Pair}
use Rattle.row_space.specs.Echelon.{HasRank, IsIndependent, SameSpan}
use Rattle.row_space.specs.Factors.{AreFactors}
use Rattle.sparse_rows.specs.Rows.{above, beside}
use Rattle.pivot_table.specs.Order.{Triangular}
use Rattle.triangular_solve.specs.Reduced.{IsComplement}
use Rattle.triangular_solve.specs.Triangle.{TriangleState}
use Rattle.schur_rows.specs.Round.{IsRound, pivot_rows}
use Rattle.schur_rows.specs.declared.round.SchurRows.{SchurRows}

-- a matrix has at most one complement
abbrev pub ComplementIsOne : Type 0
ComplementIsOne = (p : ℕ) (A : Matrix) (qs : List Pair) (B D : Matrix) → IsPrime p → IsMatrix p A →
    Triangular A qs →
    IsComplement p A qs B → IsComplement p A qs D → B ≡ D

-- factors of what a round leaves, with the round's before them, are factors of the matrix
abbrev pub RoundJoins : Type 0
RoundJoins = (t : TriangleState) (s : SchurRows) (ps : List Pair) (L U : Matrix) → IsPrime t.rows.modulus →
    IsMatrix t.rows.modulus t.rows.matrix → Triangular t.rows.matrix t.pairs → IsRound t s →
    AreFactors t.rows.modulus s.rows.matrix ps L U → AreFactors t.rows.modulus t.rows.matrix (t.pairs ++ ps)
    (beside s.coefficients.matrix L) (above (pivot_rows t.rows.matrix t.pairs) U)

-- independent rows with the complement's row space, below the pivot rows, are independent and have the matrix's row space
abbrev pub RoundSpans : Type 0
RoundSpans = (p : ℕ) (A : Matrix) (qs : List Pair) (B U : Matrix) → IsPrime p → IsMatrix p A →
    Triangular A qs →
    IsComplement p A qs B → IsMatrix p U → U.width ≡ A.width → IsIndependent p U → SameSpan p B U →
    IsIndependent p (above (pivot_rows A qs) U) × SameSpan p A (above (pivot_rows A qs) U)

-- the rank is the number of pivots and the complement's rank
abbrev pub RoundRank : Type 0
RoundRank = (p : ℕ) (A : Matrix) (qs : List Pair) (B : Matrix) (r : ℕ) → IsPrime p → IsMatrix p A →
    Triangular A qs →
    IsComplement p A qs B → HasRank p B r → HasRank p A (length qs + r)
