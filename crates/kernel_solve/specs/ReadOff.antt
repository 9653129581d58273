-- What is read off the columns of an echelon form (textbook): a row of the kernel basis, and a solution.
use Rattle.std.specs.Prelude.{◌≡◌, ◌≢◌, ◌<◌, ◌+◌, ◌-◌, ◌%◌, ℕ, List, length, slice_index}
use Rattle.residue_words.specs.Residues.{IsPrime}
use Rattle.residue_words.specs.Matrix.{Matrix, IsMatrix}
use Rattle.row_space.specs.Kernel.{IsKernel}
use Rattle.sparse_rows.specs.Rows.{Building, ResidueMatrix, sum_at}
use Rattle.echelon_form.specs.Form.{Form, IsFormOf}

-- column j is free: no row leads there
abbrev pub IsFree : List ℕ → ℕ → Type 0
IsFree leads j = (k : ℕ) → k < length leads → slice_index leads k ≢ j

-- the row of the kernel basis for a free column f, which is `column` in the form with these leads:
-- 1 at f, at each lead the negative of the column's entry in the lead's row, and 0 elsewhere
pub record IsBasisRow (p : ℕ) (leads column : List ℕ) (f : ℕ) (v : List ℕ) : Type 0 where
  pub one : slice_index v f ≡ 1
  pub at_lead : (k : ℕ) → k < length leads → slice_index v (slice_index leads k)
      ≡ (p - slice_index column k) % p
  pub elsewhere : (j : ℕ) → j < length v → j ≢ f → IsFree leads j → slice_index v j ≡ 0

-- rows that are read off a form: for a prime modulus the kernel basis of each matrix that has it
pub record AreReadOff (form : Form) (K : ResidueMatrix) : Type 0 where
  pub modulus : K.modulus ≡ form.modulus
  pub sound : IsMatrix K.modulus K.matrix
  pub width : K.matrix.width ≡ form.matrix.width
  pub height : K.matrix.height + form.matrix.height ≡ form.matrix.width
  pub kernel : (p : ℕ) (A : Matrix) → IsPrime p → IsFormOf p A form → IsKernel p A K.matrix

-- x has the entries of `column` at the leads, and 0 elsewhere
pub record IsAtLeads (leads column x : List ℕ) : Type 0 where
  pub at_lead : (k : ℕ) → k < length leads → slice_index x (slice_index leads k) ≡ slice_index column k
  pub elsewhere : (j : ℕ) → j < length x → IsFree leads j → slice_index x j ≡ 0

-- the last entries of v were pushed into column k of what is built, from behind
pub record PushesRow (v : List ℕ) (k : ℕ) (before after : Building) : Type 0 where
  pub modulus : after.modulus ≡ before.modulus
  pub height : after.height ≡ before.height
  pub width : after.width ≡ before.width
  pub here : (i : ℕ) → i < before.height →
      sum_at i k after.pushed ≡ sum_at i k before.pushed + slice_index v (length v - 1 - i)
  pub elsewhere : (i j : ℕ) → j ≢ k → sum_at i j after.pushed ≡ sum_at i j before.pushed
