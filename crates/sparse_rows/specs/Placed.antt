-- A matrix whose rows are all stored, or only those that have an entry.
use Rattle.std.specs.Prelude.{◌≡◌, ◌<◌, ◌≤◌, ◌+◌, ◌==◌, ◌⊎◌, if◌then◌else◌, ℕ, Bool, true, false, List, [], ◌∷◌, length, map, slice_index, MatchOption, Option}
use Rattle.std.specs.List.{range_with_len}
use Rattle.residue_words.specs.Matrix.{Matrix, entry, row, zeros}
use Rattle.column_lists.specs.declared.sizes.TheConstants.{LARGEST_SIZE}
use Rattle.column_lists.specs.Numbers.{AreRising}
use Rattle.sparse_rows.specs.Rows.{AreZeroFrom, IsFilled, IsNextFilled, IsZeroRow}

-- row i, where the rows of A from row k on stand at these rows, and zeros elsewhere
abbrev pub row_among : Matrix → ℕ → List ℕ → ℕ → List ℕ
row_among A k [] i = zeros A.width
row_among A k (r ∷ rs) i = if r == i then row A k else row_among A (k + 1) rs i

-- the matrix of m rows that has the rows of A at these rows, and zeros elsewhere
abbrev pub expanded : ℕ → List ℕ → Matrix → Matrix
expanded m rows A = record {
  height = m;
  width = A.width;
  rows = map (row_among A 0 rows) (range_with_len 0 m);
}

-- the rows of A stand at these rows of a matrix of m rows, and each has an entry
pub record AreNamed (m : ℕ) (rows : List ℕ) (A : Matrix) : Type 0 where
  pub rising : AreRising rows
  pub below : (k : ℕ) → k < length rows → slice_index rows k < m
  pub many : length rows ≡ A.height
  pub filled : (k : ℕ) → k < length rows → IsFilled A k

-- the matrix of which each row is stored as it is in A, or only those that have an entry
abbrev pub placed : Bool → ℕ → List ℕ → Matrix → Matrix
placed true m rows A = A
placed false m rows A = expanded m rows A

-- what is stored of a matrix of m rows
abbrev pub IsPlaced : Bool → ℕ → List ℕ → Matrix → Type 0
IsPlaced true m rows A = (m ≤ LARGEST_SIZE) × (m ≡ A.height)
IsPlaced false m rows A = (m ≤ LARGEST_SIZE) × AreNamed m rows A

-- neither A nor B has an entry from row `from` on
abbrev pub AreBothZeroFrom : Matrix → Matrix → ℕ → Type 0
AreBothZeroFrom A B from = AreZeroFrom A from × AreZeroFrom B from

-- row i is the first from there on in which one of them has an entry
pub record IsNextInEither (A B : Matrix) (from i : ℕ) : Type 0 where
  pub low : from ≤ i
  pub below : i < A.height
  pub filled : IsFilled A i ⊎ IsFilled B i
  pub left : (k : ℕ) → from ≤ k → k < i → IsZeroRow A k
  pub right : (k : ℕ) → from ≤ k → k < i → IsZeroRow B k

-- two matrices, and a row from which on a next one is looked for
pub record MatricesFrom : Type 0 where
  pub left : Matrix
  pub right : Matrix
  pub from : ℕ

abbrev pub matrices_from : Matrix → Matrix → ℕ → MatricesFrom
matrices_from A B i = record { left = A; right = B; from = i }

-- `next` is the first filled row of A from `from` on, if there is one
abbrev pub IsFirstFilled : Matrix → ℕ → Option ℕ → Type 0
IsFirstFilled A from next = MatchOption next (AreZeroFrom A from) (IsNextFilled A from)

-- these are the first filled rows of A and B, which are of one height
pub record AreFirstFilled (A B : Matrix) (from : ℕ) (i j : Option ℕ) : Type 0 where
  pub height : A.height ≡ B.height
  pub left : IsFirstFilled A from i
  pub right : IsFirstFilled B from j

-- v and w have the same entries at the columns below n
abbrev pub AgreeBelow : ℕ → List ℕ → List ℕ → Type 0
AgreeBelow n v w = (j : ℕ) → j < n → slice_index w j ≡ slice_index v j

-- row i of A stands in w from column `by` on
abbrev pub HasRowAt : ℕ → Matrix → ℕ → List ℕ → Type 0
HasRowAt by A i w = (j : ℕ) → j < A.width → slice_index w (by + j) ≡ entry A i j

-- w is 0 from column k up to column n
abbrev pub IsZeroBetween : ℕ → ℕ → List ℕ → Type 0
IsZeroBetween k n w = (j : ℕ) → k ≤ j → j < n → slice_index w j ≡ 0
