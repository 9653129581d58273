-- Rows that are appended to others.
use Rattle.std.specs.Prelude.{◌≡◌, ◌+◌, ◌↔◌, Bool, false, if◌then◌else◌, ℕ, List, []}
use Rattle.residue_words.specs.Matrix.{Matrix, IsCombination, IsMatrix}
use Rattle.residue_words.specs.Residues.{IsPrime}
use Rattle.row_space.specs.Echelon.{IsRref, SameSpan}
use Rattle.echelon_form.specs.Form.{IsFormOf}
use Rattle.sparse_rows.specs.Rows.{ResidueMatrix}
use Rattle.sparse_rows.specs.Stored.{with_row}

-- no row of n entries modulo p
abbrev pub without_rows : ℕ → ℕ → ResidueMatrix
without_rows p n = record { modulus = p; matrix = record { height = 0; width = n; rows = [] } }

-- Rows with the row v more: there is one row more but where v is a combination of them. For a prime modulus they span what the old
-- rows and v span, and a matrix is their reduced echelon form exactly where it is that of the old form and v.
pub record AppendsRow (old new : ResidueMatrix) (v : List ℕ) (rose : Bool) : Type 0 where
  pub modulus : new.modulus ≡ old.modulus
  pub width : new.matrix.width ≡ old.matrix.width
  pub matrix : IsMatrix old.modulus new.matrix
  pub height : new.matrix.height ≡ (if rose then old.matrix.height + 1 else old.matrix.height)
  pub spanned : (rose ≡ false) ↔ IsCombination old.modulus old.matrix v
  pub span : IsPrime old.modulus → SameSpan old.modulus new.matrix (with_row old.matrix v)
  pub form : IsPrime old.modulus → (E F : Matrix) → IsRref old.modulus old.matrix E →
      IsRref old.modulus new.matrix F ↔ IsRref old.modulus (with_row E v) F

-- these rows span what those of a matrix do, where the modulus is prime
pub record SpansRowsOf (A grow : ResidueMatrix) : Type 0 where
  pub modulus : grow.modulus ≡ A.modulus
  pub width : grow.matrix.width ≡ A.matrix.width
  pub matrix : IsMatrix A.modulus grow.matrix
  pub span : IsPrime A.modulus → SameSpan A.modulus grow.matrix A.matrix

-- the rows are those of the echelon form of the rows of A
abbrev pub AreRowsOfForm : ResidueMatrix → ResidueMatrix → Type 0
AreRowsOfForm A E = (leads : List ℕ)
    × IsFormOf A.modulus A.matrix (record { modulus = E.modulus; matrix = E.matrix; leads = leads })
