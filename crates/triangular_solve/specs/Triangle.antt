-- The triangular order of pivots: again and again the ready pair of the least column.
use Rattle.std.specs.Prelude.{◌≡◌, List}
use Rattle.residue_words.specs.Matrix.{Matrix}
use Rattle.residue_words.specs.declared.plain.Pair.{Pair}
use Rattle.sparse_rows.specs.Rows.{ResidueMatrix}
use Rattle.pivot_table.specs.Order.{IsTriangularOrder}

-- pairs have at most one triangular order
abbrev pub TriangularOrderIsOne : Type 0
TriangularOrderIsOne = (A : Matrix) (h o u : List Pair) →
    IsTriangularOrder A h o → IsTriangularOrder A h u → o ≡ u

-- what callers see of a triangle: a matrix of residues, and pairs of it in triangular order
pub record TriangleState : Type 0 where
  pub rows : ResidueMatrix
  pub pairs : List Pair
