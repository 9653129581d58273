-- Matrices that C passes as arrays.
use Rattle.std.specs.Prelude.{◌≡◌, ◌<◌, ◌≤◌, ◌+◌, ℕ, List, [], ◌∷◌, length, map, slice_index}
use Rattle.residue_words.specs.Matrix.{Matrix}
use Rattle.residue_words.specs.declared.modulus.TheConstants.{MODULUS_BOUND}
use Rattle.sparse_rows.specs.Rows.{AllFit, FitsMatrix, built, triple}
use Rattle.spasm_c.specs.declared.given.Given.{Given}

-- the entries that three arrays have: of each the row, the column and the value
abbrev pub entries : List ℕ → List ℕ → List ℕ → List (ℕ × ℕ × ℕ)
entries [] columns values = []
entries (i ∷ rows) [] values = []
entries (i ∷ rows) (j ∷ columns) [] = []
entries (i ∷ rows) (j ∷ columns) (v ∷ values) = (i, j, v) ∷ entries rows columns values

abbrev pub entries_given : Given → List (ℕ × ℕ × ℕ)
entries_given a = entries a.rows.now a.columns.now a.values.now

-- one of them
abbrev pub entry_given : Given → ℕ → ℕ × ℕ × ℕ
entry_given a k = (slice_index a.rows.now k, slice_index a.columns.now k, slice_index a.values.now k)

-- which lies inside
abbrev pub EntryFits : Given → ℕ → Type 0
EntryFits a k = FitsMatrix a.height a.width a.modulus (entry_given a k)

-- the matrix: at each place the sum of the entries there, modulo the modulus
abbrev pub given_matrix : Given → Matrix
given_matrix a = built a.modulus a.height a.width (map triple (entries_given a))

-- the arrays have one length, modulus and sizes are in range, each entry is a residue at a place of the matrix
pub record IsSoundInput (a : Given) : Type 0 where
  pub columns : length a.columns.now ≡ length a.rows.now
  pub values : length a.values.now ≡ length a.rows.now
  pub two_or_more : 2 ≤ a.modulus
  pub in_range : a.modulus < MODULUS_BOUND
  pub fit : AllFit a.height a.width a.modulus (entries_given a)

-- entry k stands above entry t, or to its left in the same row
pub record IsBefore (a : Given) (k t : ℕ) : Type 0 where
  pub row : slice_index a.rows.now k ≤ slice_index a.rows.now t
  pub column : slice_index a.rows.now k ≡ slice_index a.rows.now t →
      slice_index a.columns.now k < slice_index a.columns.now t

-- each entry stands before the next, and none is 0
pub record IsInOrder (a : Given) : Type 0 where
  pub order : (k : ℕ) → k + 1 < length a.rows.now → IsBefore a k (k + 1)
  pub positive : (k : ℕ) → k < length a.rows.now → 0 < slice_index a.values.now k
