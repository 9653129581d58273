-- What is kept of a matrix A to answer A x = b for any b without an elimination.
use Rattle.std.specs.Prelude.{◌≡◌, ◌<◌, ℕ, List, length}
use Rattle.residue_words.specs.declared.plain.Pair.{Pair}
use Rattle.residue_words.specs.Residues.{IsPrime}
use Rattle.residue_words.specs.Matrix.{Matrix, IsMatrix, row}
use Rattle.sparse_rows.specs.Rows.{ResidueMatrix, transposed}
use Rattle.row_space.specs.Factors.{AreFactors, col_at, row_at}
use Rattle.row_space.specs.Kernel.{IsKernel}
use Rattle.row_space.specs.Solution.{IsReducedSolution, IsRefutingCombination}
use Rattle.kernel_solve.specs.declared.prepared.Reply.{Reply}
use Rattle.kernel_solve.specs.declared.prepared.Reply.TheVariants.{Solution, Refuted}
use Rattle.kernel_solve.specs.Column.{column}

-- factors of A with their pivots, the kernel basis of A, and the rows y with y A = 0
pub record Preparation : Type 0 where
  pub modulus : ℕ
  pub height : ℕ
  pub width : ℕ
  pub pivots : List Pair
  pub left : Matrix
  pub right : Matrix
  pub null : Matrix
  pub relations : Matrix

-- it is the preparation of A
pub record IsPreparedFor (p : ℕ) (A : Matrix) (q : Preparation) : Type 0 where
  pub modulus : q.modulus ≡ p
  pub height : q.height ≡ A.height
  pub width : q.width ≡ A.width
  pub factors : IsPrime p → AreFactors p A q.pivots q.left q.right
  pub null : IsPrime p → IsKernel p A q.null
  pub relations : IsPrime p → IsKernel p (transposed A) q.relations

-- what these parts are the preparation of: a matrix as high as L and as wide as U
abbrev pub preparation : List Pair → (L U null relations : ResidueMatrix) → Preparation
preparation pivots L U null relations = record {
  modulus = L.modulus;
  height = L.matrix.height;
  width = U.matrix.width;
  pivots = pivots;
  left = L.matrix;
  right = U.matrix;
  null = null.matrix;
  relations = relations.matrix;
}

-- the parts have one modulus and the sizes of factors and kernel bases of one matrix, in which the pivots lie
pub record FitTogether (pivots : List Pair) (L U null relations : ResidueMatrix) : Type 0 where
  pub right_modulus : U.modulus ≡ L.modulus
  pub null_modulus : null.modulus ≡ L.modulus
  pub relations_modulus : relations.modulus ≡ L.modulus
  pub left_width : L.matrix.width ≡ length pivots
  pub right_height : U.matrix.height ≡ length pivots
  pub null_width : null.matrix.width ≡ U.matrix.width
  pub relations_width : relations.matrix.width ≡ L.matrix.height
  pub rows_below : (k : ℕ) → k < length pivots → row_at pivots k < L.matrix.height
  pub columns_below : (k : ℕ) → k < length pivots → col_at pivots k < U.matrix.width

-- the reduced solution of A x = b as a column, or the refuting combination as a row
abbrev pub RepliesTo : ℕ → Matrix → List ℕ → Reply → Type 0
RepliesTo p A b (Solution x) = (x.matrix.height ≡ A.width) × IsReducedSolution p A b (column x.matrix)
RepliesTo p A b (Refuted y) = (y.matrix.width ≡ A.height) × IsRefutingCombination p A b (row y.matrix 0)

-- for each modulus: a column of residues as high as A is wide, or a row of residues as wide as A is high
abbrev pub HasReplyShape : Preparation → Reply → Type 0
HasReplyShape q (Solution x) =
    (x.modulus ≡ q.modulus) × IsMatrix q.modulus x.matrix × (x.matrix.height ≡ q.width) × (x.matrix.width ≡ 1)
HasReplyShape q (Refuted y) =
    (y.modulus ≡ q.modulus) × IsMatrix q.modulus y.matrix
    × (y.matrix.height ≡ 1) × (y.matrix.width ≡ q.height)

-- a reply to the column b: of the shape told, and right for each matrix that q is the preparation of, where the modulus is prime
pub record IsReply (q : Preparation) (b : Matrix) (reply : Reply) : Type 0 where
  pub shape : HasReplyShape q reply
  pub right : (p : ℕ) (A : Matrix) → IsPrime p → IsMatrix p A → IsPreparedFor p A q →
      RepliesTo p A (column b) reply
