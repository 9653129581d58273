-- What is done to one dense row.
use Rattle.std.specs.Prelude.{◌≡◌, ◌≢◌, ◌<◌, ◌≤◌, ◌+◌, ◌*◌, ◌%◌, ℕ, Bool, true, false, List, length, slice_index, slice_index_or}
use Rattle.residue_words.specs.Matrix.{IsVector}
use Rattle.residue_words.specs.Residues.{IsPrime}
use Rattle.sparse_rows.specs.Rows.{AreBelow, AreRising, ResidueMatrix, LARGEST_SIZE}
use Rattle.sparse_rows.specs.Stored.{entry_at, with_row}

-- one of the first r pivots stands at column j
abbrev pub IsTaken : ℕ → (ℕ → ℕ) → ℕ → Type 0
IsTaken r column j = (k : ℕ) × (k < r) × (column k ≡ j)

-- the entries, at these columns, of the row of these columns and values
abbrev pub AreEntriesAt : List ℕ → List ℕ → List ℕ → List ℕ → Type 0
AreEntriesAt cols vals columns v = (j : ℕ) → j < length columns →
    slice_index v j ≡ entry_at cols vals (slice_index columns j)

-- v is w and the multiple of q by v's entry at column c; there w keeps this entry
pub record TakesOut (p c : ℕ) (q v w : List ℕ) : Type 0 where
  pub vector : IsVector p (length v) w
  pub coefficient : slice_index w c ≡ slice_index v c
  pub sum : (j : ℕ) → j < length v → j ≢ c →
      slice_index v j ≡ (slice_index w j + slice_index v c * slice_index q j) % p

-- column j is not a pivot's
abbrev pub HasNoPivot : List Bool → ℕ → Type 0
HasNoPivot taken j = slice_index_or taken j false ≡ false

-- column c is the first free one where v is not 0
pub record IsFirstFree (v : List ℕ) (taken : List Bool) (c : ℕ) : Type 0 where
  pub inside : c < length v
  pub free : HasNoPivot taken c
  pub nonzero : slice_index v c ≢ 0
  pub before : (j : ℕ) → j < c → HasNoPivot taken j → slice_index v j ≡ 0

-- v is 0 at the free columns
abbrev pub IsZeroAtFree : List Bool → List ℕ → Type 0
IsZeroAtFree taken v = (j : ℕ) → j < length v → HasNoPivot taken j → slice_index v j ≡ 0

-- q is 1 at column c, 0 before it and at the columns that aren't free; at the others, for a prime modulus, v is the
-- multiple of q by v's entry at c
pub record IsPivotOf (p c : ℕ) (taken : List Bool) (v q : List ℕ) : Type 0 where
  pub vector : IsVector p (length v) q
  pub one : slice_index q c ≡ 1
  pub before : (j : ℕ) → j < c → slice_index q j ≡ 0
  pub clear : (j : ℕ) → j < length v → slice_index_or taken j false ≡ true → slice_index q j ≡ 0
  pub scaled : IsPrime p → (j : ℕ) → j < length v → j ≢ c → HasNoPivot taken j →
      slice_index v j % p ≡ (slice_index v c * slice_index q j) % p

-- w is v at column c and at the columns that aren't free, and 0 elsewhere
pub record KeepsCoefficients (p c : ℕ) (taken : List Bool) (v w : List ℕ) : Type 0 where
  pub vector : IsVector p (length v) w
  pub lead : slice_index w c ≡ slice_index v c
  pub kept : (j : ℕ) → j < length v → slice_index_or taken j false ≡ true → slice_index w j ≡ slice_index v j
  pub clear : (j : ℕ) → j < length v → j ≢ c → HasNoPivot taken j → slice_index w j ≡ 0

-- w is v, with zeros at the columns from `from` on that aren't free
pub record ClearsTaken (p from : ℕ) (taken : List Bool) (v w : List ℕ) : Type 0 where
  pub vector : IsVector p (length v) w
  pub clear : (j : ℕ) → from ≤ j → j < length v → slice_index_or taken j false ≡ true → slice_index w j ≡ 0
  pub before : (j : ℕ) → j < from → slice_index w j ≡ slice_index v j
  pub free : (j : ℕ) → HasNoPivot taken j → slice_index w j ≡ slice_index v j

-- the row of n entries has the first m values at these places, and 0 at all others
pub record IsPut (n m : ℕ) (place value : ℕ → ℕ) (row : List ℕ) : Type 0 where
  pub long : length row ≡ n
  pub put : (k : ℕ) → k < m → slice_index row (place k) ≡ value k
  pub others : (x : ℕ) → x < n → ((k : ℕ) → k < m → place k ≢ x) → slice_index row x ≡ 0

-- a row of n entries with those of v at these columns
abbrev pub Scatters : ℕ → List ℕ → List ℕ → List ℕ → Type 0
Scatters n columns v row = IsPut n (length columns) (slice_index columns) (slice_index v) row

-- a row of n entries that begins with those of v that stand at these columns
abbrev pub Gathers : ℕ → List ℕ → List ℕ → List ℕ → Type 0
Gathers n columns v row = IsPut n (length columns) (λ k. k) (λ k. slice_index v (slice_index columns k)) row

-- `new` is `old` with one row more, which has the first m values at these places and 0 at all others
pub record AppendsPut (m : ℕ) (place value : ℕ → ℕ) (old new : ResidueMatrix) : Type 0 where
  pub modulus : new.modulus ≡ old.modulus
  pub row : List ℕ
  pub put : IsPut old.matrix.width m place value row
  pub matrix : new.matrix ≡ with_row old.matrix row

-- the entries of v at these columns
abbrev pub AppendsScattered : List ℕ → List ℕ → ResidueMatrix → ResidueMatrix → Type 0
AppendsScattered columns v old new = AppendsPut (length columns) (slice_index columns) (slice_index v) old new

-- those of v that stand at these columns, one beside the other
abbrev pub AppendsGathered : List ℕ → List ℕ → ResidueMatrix → ResidueMatrix → Type 0
AppendsGathered columns v old new =
    AppendsPut (length columns) (λ k. k) (λ k. slice_index v (slice_index columns k)) old new

-- the row v, which is 0 before place `from`, can be appended at these columns to the rows of u, modulo p
pub record CanAppend (p from : ℕ) (columns v : List ℕ) (u : ResidueMatrix) : Type 0 where
  pub low : u.matrix.height < LARGEST_SIZE
  pub modulus : u.modulus ≡ p
  pub start : from ≤ length columns
  pub residues : IsVector p (length columns) v
  pub before : (j : ℕ) → j < from → slice_index v j ≡ 0
  pub inside : AreBelow u.matrix.width columns
  pub rising : AreRising columns

-- w is v, with zeros at the first r of these columns
pub record IsCleared (p r : ℕ) (column : ℕ → ℕ) (v w : List ℕ) : Type 0 where
  pub vector : IsVector p (length v) w
  pub clear : (j : ℕ) → j < length v → IsTaken r column j → slice_index w j ≡ 0
  pub kept : (j : ℕ) → j < length v → (IsTaken r column j → ⊥) → slice_index w j ≡ slice_index v j
