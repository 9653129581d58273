-- What callers see of an echelon form.
use Rattle.std.specs.Prelude.{◌≡◌, ◌≤◌, ℕ, List, length, map, slice_index}
use Rattle.residue_words.specs.Residues.{IsPrime}
use Rattle.residue_words.specs.Matrix.{Matrix, IsMatrix}
use Rattle.row_space.specs.Echelon.{HasLeads, IsRref}
use Rattle.sparse_rows.specs.Rows.{widened}

-- the rows of the form with their modulus, and the leads
pub record Form : Type 0 where
  pub modulus : ℕ
  pub matrix : Matrix
  pub leads : List ℕ

-- it is the form of A: rows of A's width with their leads, never more than columns; for a prime modulus the one reduced echelon form
pub record IsFormOf (p : ℕ) (A : Matrix) (f : Form) : Type 0 where
  pub modulus : f.modulus ≡ p
  pub matrix : IsMatrix p f.matrix
  pub width : f.matrix.width ≡ A.width
  pub short : f.matrix.height ≤ A.width
  pub rank : length f.leads ≡ f.matrix.height
  pub rref : IsPrime p → IsRref p A f.matrix
  pub leads : HasLeads f.matrix f.leads

-- what holds of each form: its rows have these leads
pub record IsEchelon (f : Form) : Type 0 where
  pub matrix : IsMatrix f.modulus f.matrix
  pub rank : length f.leads ≡ f.matrix.height
  pub leads : HasLeads f.matrix f.leads

-- the form whose columns stand at these columns of n
abbrev pub widened_form : Form → ℕ → List ℕ → Form
widened_form f n columns = record {
  modulus = f.modulus;
  matrix = widened f.matrix n columns;
  leads = map (slice_index columns) f.leads;
}
