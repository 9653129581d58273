-- What compressed rows stand for: a plain matrix with its modulus, a plain row, a list.
use Rattle.std.specs.Prelude.{◌≡◌, ◌≢◌, ◌<◌, ◌≤◌, ◌+◌, ◌*◌, ◌%◌, ◌==◌, ◌&&◌, if◌then◌else◌, ℕ, List, [], ◌∷◌, ◌++◌, length, map, replicate, slice_index, slice_set, take, All, Contains}
use Rattle.std.specs.List.{flat_map, range_with_len}
use Rattle.residue_words.specs.Matrix.{IsVector, Matrix, entry, list_of, row, zeros}
use Rattle.residue_words.specs.Residues.{sum_below}
pub use Rattle.column_lists.specs.Numbers.{AreBelow, AreDistinct, AreRising}
pub use Rattle.column_lists.specs.declared.sizes.TheConstants.{LARGEST_SIZE}
use Rattle.sparse_rows.specs.Stored.{entry_at}

-- a matrix of residues, and the modulus
pub record ResidueMatrix : Type 0 where
  pub modulus : ℕ
  pub matrix : Matrix

-- a row of residues, and the modulus
pub record ResidueRow : Type 0 where
  pub modulus : ℕ
  pub row : List ℕ

-- the support of a row: its columns with a nonzero entry, ascending, when the first entry stands at column k; and the entries there
abbrev pub support_from : ℕ → List ℕ → List ℕ
support_from k [] = []
support_from k (x ∷ xs) = if x == 0 then support_from (k + 1) xs else k ∷ support_from (k + 1) xs

abbrev pub support : List ℕ → List ℕ
support v = support_from 0 v

abbrev pub nonzeros : List ℕ → List ℕ
nonzeros [] = []
nonzeros (x ∷ xs) = if x == 0 then nonzeros xs else x ∷ nonzeros xs

-- how many entries of A are not 0
abbrev pub entry_count : Matrix → ℕ
entry_count A = sum_below A.height (λ i. length (support (row A i)))

-- row i of A has an entry other than 0
abbrev pub IsFilled : Matrix → ℕ → Type 0
IsFilled A i = 0 < length (support (row A i))

-- row i of A has none
abbrev pub IsZeroRow : Matrix → ℕ → Type 0
IsZeroRow A i = support (row A i) ≡ []

-- no row of A from `from` on is filled
abbrev pub AreZeroFrom : Matrix → ℕ → Type 0
AreZeroFrom A from = (k : ℕ) → from ≤ k → k < A.height → IsZeroRow A k

-- i is the first filled row of A from `from` on
pub record IsNextFilled (A : Matrix) (from i : ℕ) : Type 0 where
  pub low : from ≤ i
  pub below : i < A.height
  pub filled : IsFilled A i
  pub between : (k : ℕ) → from ≤ k → k < i → IsZeroRow A k

-- the filled rows of A, ascending
pub record AreFilled (A : Matrix) (rows : List ℕ) : Type 0 where
  pub rising : AreRising rows
  pub below : (k : ℕ) → k < length rows → slice_index rows k < A.height
  pub filled : (k : ℕ) → k < length rows → IsFilled A (slice_index rows k)
  pub all : (i : ℕ) → i < A.height → IsFilled A i → Contains rows i

-- the filled rows of A, ascending, each behind how many entries it has
pub record AreWeights (A : Matrix) (weights : List (ℕ × ℕ)) : Type 0 where
  pub filled : AreFilled A (map (λ w. w.1) weights)
  pub entries : All (λ w. w.0 ≡ length (support (row A w.1))) weights

-- ascending columns of A, off which all entries are 0
pub record AreEnough (A : Matrix) (columns : List ℕ) : Type 0 where
  pub rising : AreRising columns
  pub below : (k : ℕ) → k < length columns → slice_index columns k < A.width
  pub all : (i j : ℕ) → i < A.height → j < A.width → entry A i j ≢ 0 → Contains columns j

-- the same in any order, each once
pub record AreEnoughInSomeOrder (A : Matrix) (columns : List ℕ) : Type 0 where
  pub distinct : AreDistinct columns
  pub below : AreBelow A.width columns
  pub all : (i j : ℕ) → i < A.height → j < A.width → entry A i j ≢ 0 → Contains columns j

-- the columns in which some row of A has an entry, ascending
pub record AreOccupied (A : Matrix) (columns : List ℕ) : Type 0 where
  pub enough : AreEnough A columns
  pub occupied : (k : ℕ) → k < length columns →
      (i : ℕ) × (i < A.height) × (entry A i (slice_index columns k) ≢ 0)

-- the matrix with these rows by a function of the place
abbrev pub matrix_by : ℕ → ℕ → (ℕ → ℕ → ℕ) → Matrix
matrix_by m n f = record { height = m; width = n; rows = map (λ i. list_of n (f i)) (range_with_len 0 m) }

-- a value pushed at a place, and the sum of those pushed at one place
pub record Triple : Type 0 where
  pub i : ℕ
  pub j : ℕ
  pub v : ℕ

abbrev pub sum_at : ℕ → ℕ → List Triple → ℕ
sum_at i j [] = 0
sum_at i j (t ∷ ts) = (if t.i == i && t.j == j then t.v else 0) + sum_at i j ts

-- the triples that three lists have at one place after another
abbrev pub listed_triple : List ℕ → List ℕ → List ℕ → ℕ → Triple
listed_triple rows columns values k = record { i = slice_index rows k; j = slice_index columns k; v = slice_index values k }

abbrev pub listed_triples : List ℕ → List ℕ → List ℕ → List Triple
listed_triples rows columns values = map (listed_triple rows columns values) (range_with_len 0 (length rows))

-- the matrix of m x n that is built of these triples: at each place the sum modulo p
abbrev pub built : ℕ → ℕ → ℕ → List Triple → Matrix
built p m n ts = matrix_by m n (λ i j. sum_at i j ts % p)

-- the same of a row, a column and a value as code has them
abbrev pub triple : ℕ × ℕ × ℕ → Triple
triple t = record { i = t.0; j = t.1; v = t.2 }

-- such a value lies inside a matrix of m x n modulo p
pub record FitsMatrix (m n p : ℕ) (t : ℕ × ℕ × ℕ) : Type 0 where
  pub row : t.0 < m
  pub column : t.1 < n
  pub residue : t.2 < p

-- the sizes are in range, and each value lies inside
pub record AllFit (m n p : ℕ) (ts : List (ℕ × ℕ × ℕ)) : Type 0 where
  pub height : m ≤ LARGEST_SIZE
  pub width : n ≤ LARGEST_SIZE
  pub inside : All (FitsMatrix m n p) ts

-- the entries of row i at these columns
abbrev pub row_triples : ℕ → List ℕ → List ℕ → List (ℕ × ℕ × ℕ)
row_triples i [] vs = []
row_triples i (c ∷ cs) [] = []
row_triples i (c ∷ cs) (v ∷ vs) = (i, c, v) ∷ row_triples i cs vs

-- the nonzero entries of A, row by row, by ascending columns
abbrev pub triples_of : Matrix → List (ℕ × ℕ × ℕ)
triples_of A = flat_map (λ i. row_triples i (support (row A i)) (nonzeros (row A i)))
    (range_with_len 0 A.height)

-- what a builder has got so far
pub record Building : Type 0 where
  pub modulus : ℕ
  pub height : ℕ
  pub width : ℕ
  pub pushed : List Triple

abbrev pub transposed : Matrix → Matrix
transposed A = matrix_by A.width A.height (λ i j. entry A j i)

-- [A | B]
abbrev pub beside : Matrix → Matrix → Matrix
beside A B = record {
  height = A.height;
  width = A.width + B.width;
  rows = map (λ i. row A i ++ row B i) (range_with_len 0 A.height);
}

-- the rows of B below those of A
abbrev pub above : Matrix → Matrix → Matrix
above A B = record { height = A.height + B.height; width = A.width; rows = A.rows ++ B.rows }

-- the first k rows of A
abbrev pub first_rows : ℕ → Matrix → Matrix
first_rows k A = record { height = k; width = A.width; rows = take k A.rows }

-- some first rows of a matrix were appended
abbrev pub AppendsFirst : Matrix → Matrix → Matrix → Type 0
AppendsFirst from old new = (k : ℕ) × (k ≤ from.height) × (new ≡ above old (first_rows k from))

-- the rows of A that are named, in that order
abbrev pub selected : Matrix → List ℕ → Matrix
selected A rows = record { height = length rows; width = A.width; rows = map (row A) rows }

abbrev pub identity : ℕ → Matrix
identity n = matrix_by n n (λ i j. if i == j then 1 else 0)

-- A with more rows of zeros, at its end
abbrev pub with_zeros : Matrix → ℕ → Matrix
with_zeros A count = record {
  height = A.height + count;
  width = A.width;
  rows = A.rows ++ replicate count (zeros A.width);
}

-- these columns of A alone
abbrev pub narrowed : Matrix → List ℕ → Matrix
narrowed A columns = matrix_by A.height (length columns) (λ i k. entry A i (slice_index columns k))

-- the matrix of n columns that has the columns of A at these columns, and zeros elsewhere
abbrev pub widened : Matrix → ℕ → List ℕ → Matrix
widened A n columns = matrix_by A.height n (λ i. entry_at columns (row A i))

-- v was added to the entry at column j
pub record AddsAt (j v : ℕ) (old new : ResidueRow) : Type 0 where
  pub modulus : new.modulus ≡ old.modulus
  pub row : new.row ≡ slice_set old.row j ((slice_index old.row j + v) % old.modulus)

-- the multiple of the row that stands in these columns and values was added
pub record AddsMultiple (by : ℕ) (cols vals : List ℕ) (old new : ResidueRow) : Type 0 where
  pub modulus : new.modulus ≡ old.modulus
  pub vector : IsVector old.modulus (length old.row) new.row
  pub sums : (j : ℕ) → j < length old.row → slice_index new.row j
      ≡ (slice_index old.row j + by * entry_at cols vals j) % old.modulus
