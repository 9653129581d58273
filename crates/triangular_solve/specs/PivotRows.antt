-- The pivot rows on the columns in which they have an entry: how these columns are ordered, and what eliminating does to a row.
use Rattle.std.specs.Prelude.{◌≡◌, ◌≢◌, ◌<◌, ◌≤◌, ◌+◌, ◌*◌, ◌%◌, ℕ, List, length, map, slice_index, Option, Vec, IfNone, IfSome}
use Rattle.std.specs.declared.alloc.Global.{Global}
use Rattle.std.specs.List.{Contains}
use Rattle.residue_words.specs.Residues.{IsPrime, sum_below}
use Rattle.residue_words.specs.Matrix.{Matrix, IsVector, entry, list_of, zeros}
use Rattle.residue_words.specs.declared.plain.Pair.{Pair}
use Rattle.row_space.specs.Factors.{row_at, col_at}
use Rattle.sparse_rows.specs.Rows.{AreBelow, AreRising, ResidueMatrix, ResidueRow, support, LARGEST_SIZE}
use Rattle.lead_rows.specs.Accumulator.{IsClear}
use Rattle.lead_rows.specs.Scattered.{HaveDistinctColumns}
use Rattle.triangular_solve.specs.AscendingColumns.{IsPlaceOf, IsTable}

-- `places` has the place in the order of each of the sorted columns, as far as they are in it
pub record IsOrdering (sorted places columns : List ℕ) : Type 0 where
  pub long : length places ≡ length sorted
  pub placed : (t : ℕ) → t < length sorted → slice_index places t ≢ 4294967295 →
      IsPlaceOf columns (slice_index sorted t) (slice_index places t)
  pub every : (k : ℕ) → k < length columns → (t : ℕ) × IsPlaceOf places k t × (t < length sorted)

-- all of them are in it
pub record IsOrderOf (sorted places columns : List ℕ) : Type 0 where
  pub few : length sorted ≤ LARGEST_SIZE
  pub so_far : IsOrdering sorted places columns
  pub all : (t : ℕ) → t < length sorted → slice_index places t ≢ 4294967295

-- columns are looked up in a table of all, or else among the sorted ones, which have their places beside them
pub record HasLookup (columns : List ℕ) (table : Option (Vec ℕ Global)) (sorted places : List ℕ) : Type 0 where
  pub few : length columns ≤ LARGEST_SIZE
  pub right : IfSome table (λ t. IsTable columns t.items)
  pub order : IfNone table (AreRising sorted × IsOrderOf sorted places columns)

-- the columns of the pairs, in order, and then others, ascending
pub record HasPivotsFirst (qs : List Pair) (columns : List ℕ) : Type 0 where
  pub pivotal : (k : ℕ) → k < length qs → IsPlaceOf columns (col_at qs k) k
  pub ascending : (k t : ℕ) → length qs ≤ k → k < t → t < length columns →
      slice_index columns k < slice_index columns t
  pub distinct : HaveDistinctColumns columns

-- what is seen of pivot rows: their matrix, and the columns of the whole matrix for which its columns stand
pub record PlacedRows : Type 0 where
  pub rows : ResidueMatrix
  pub columns : List ℕ

abbrev pub placed_rows : ResidueMatrix → List ℕ → PlacedRows
placed_rows rows columns = record { rows = rows; columns = columns }

-- no more rows than columns, each of which begins on the diagonal
pub record AreUpper (A : Matrix) : Type 0 where
  pub short : A.height ≤ A.width
  pub diagonal : (k : ℕ) → k < A.height → entry A k k ≢ 0
  pub upper : (k i : ℕ) → k < A.height → i < k → entry A k i ≡ 0

-- upper triangular rows, whose columns stand for distinct others: those behind the pivots for ascending ones
pub record ArePlaced (placed : PlacedRows) : Type 0 where
  pub upper : AreUpper placed.rows.matrix
  pub width : placed.rows.matrix.width ≡ length placed.columns
  pub distinct : HaveDistinctColumns placed.columns
  pub ascending : (k t : ℕ) → placed.rows.matrix.height ≤ k → k < t → t < length placed.columns →
      slice_index placed.columns k < slice_index placed.columns t

-- the inverses of the pivots
pub record AreInverses (A : ResidueMatrix) (inverses : List ℕ) : Type 0 where
  pub many : length inverses ≡ A.matrix.height
  pub residues : (k : ℕ) → k < A.matrix.height → slice_index inverses k < A.modulus
  pub inverse : IsPrime A.modulus → (k : ℕ) → k < A.matrix.height →
      (entry A.matrix k k * slice_index inverses k) % A.modulus ≡ 1

-- they are the rows of these pairs, which are 0 in all other columns
pub record ArePivotRows (A : ResidueMatrix) (qs : List Pair) (placed : PlacedRows) : Type 0 where
  pub modulus : placed.rows.modulus ≡ A.modulus
  pub height : placed.rows.matrix.height ≡ length qs
  pub first : HasPivotsFirst qs placed.columns
  pub below : AreBelow A.matrix.width placed.columns
  pub entries : (k i : ℕ) → k < length qs → i < length placed.columns →
      entry placed.rows.matrix k i ≡ entry A.matrix (row_at qs k) (slice_index placed.columns i)
  pub others : (k j : ℕ) → k < length qs → j < A.matrix.width → ¬ Contains placed.columns j →
      entry A.matrix (row_at qs k) j ≡ 0

-- sums for the columns of the rows
pub record AreColumnSums (placed : PlacedRows) (sums : ResidueRow) : Type 0 where
  pub modulus : sums.modulus ≡ placed.rows.modulus
  pub vector : IsVector placed.rows.modulus (length placed.columns) sums.row

-- the first entry of `old`, at place k of a pivot, was taken away by f times the pivot's row
pub record Eliminates (placed : PlacedRows) (old new : List ℕ) (k f : ℕ) : Type 0 where
  pub inside : k < placed.rows.matrix.height
  pub nonzero : slice_index old k ≢ 0
  pub zero : (i : ℕ) → i ≤ k → slice_index new i ≡ 0
  pub residue : f < placed.rows.modulus
  pub sums : IsPrime placed.rows.modulus → (i : ℕ) → i < length placed.columns →
      slice_index old i ≡ (slice_index new i + f * entry placed.rows.matrix k i) % placed.rows.modulus

-- v is what is left and the coefficients times the rows so far; coefficients are still to come where sums are left
pub record IsEliminating (placed : PlacedRows) (v left coefficients : List ℕ) : Type 0 where
  pub residues : IsVector placed.rows.modulus placed.rows.matrix.height coefficients
  pub behind : (i t : ℕ) → slice_index left i ≢ 0 → i ≤ t → t < placed.rows.matrix.height →
      slice_index coefficients t ≡ 0
  pub sums : IsPrime placed.rows.modulus → (i : ℕ) → i < length placed.columns → slice_index v i
      ≡ (slice_index left i + sum_below placed.rows.matrix.height
      (λ k. slice_index coefficients k * entry placed.rows.matrix k i)) % placed.rows.modulus

-- 0 stands at the place of each pivot
abbrev pub IsEliminated : PlacedRows → List ℕ → Type 0
IsEliminated placed sums = (k : ℕ) → k < placed.rows.matrix.height → slice_index sums k ≡ 0

-- the entries of v in these columns stand in one row, and the others in the other
pub record IsSplitRow (columns v inner outer : List ℕ) : Type 0 where
  pub long : length inner ≡ length columns
  pub wide : length outer ≡ length v
  pub inside : (i : ℕ) → i < length columns → slice_index inner i ≡ slice_index v (slice_index columns i)
  pub none : (i : ℕ) → i < length columns → slice_index outer (slice_index columns i) ≡ 0
  pub outside : (j : ℕ) → j < length v → ¬ Contains columns j → slice_index outer j ≡ slice_index v j

-- where the sums are not 0 the columns ascend
abbrev pub AscendWhereNonzero : List ℕ → List ℕ → Type 0
AscendWhereNonzero columns sums = (k t : ℕ) → k < t → t < length columns → slice_index sums k ≢ 0 →
    slice_index sums t ≢ 0 →
    slice_index columns k < slice_index columns t

-- a row's sums on these columns ascend where they are not 0, and its other entries stand in none of the columns
pub record AreDisjointParts (columns sums passed : List ℕ) : Type 0 where
  pub ascending : AscendWhereNonzero columns sums
  pub apart : (i : ℕ) → i < length columns → slice_index passed (slice_index columns i) ≡ 0

-- the places of a row's entries from one on and before another
pub record PlaceRange : Type 0 where
  pub from : ℕ
  pub to : ℕ

abbrev pub place_range : ℕ → ℕ → PlaceRange
place_range from to = record { from = from; to = to }

-- the entries of w in these places came to the row: of those from the first place on the ones whose columns are less than `end`
pub record AppendsBefore (w : List ℕ) (range : PlaceRange) (end : ℕ) (old new : List ℕ) : Type 0 where
  pub long : length new ≡ length old
  pub not_less : range.from ≤ range.to
  pub inside : range.to ≤ length (support w)
  pub before : (t : ℕ) → range.from ≤ t → t < range.to → slice_index (support w) t < end
  pub after : (t : ℕ) → range.to ≤ t → t < length (support w) → end ≤ slice_index (support w) t
  pub there : (t : ℕ) → range.from ≤ t → t < range.to → slice_index new (slice_index (support w) t)
      ≡ slice_index w (slice_index (support w) t)
  pub others : (j : ℕ) → ((t : ℕ) → range.from ≤ t → t < range.to → slice_index (support w) t ≢ j) →
      slice_index new j ≡ slice_index old j

-- a row of sums and a row of entries, both zero, of one modulus
pub record IsRoom (sums passed : ResidueRow) : Type 0 where
  pub few : length sums.row ≤ LARGEST_SIZE
  pub clear : IsClear passed.modulus (length sums.row) sums
  pub zero : passed.row ≡ zeros (length passed.row)

-- the same, with as many sums as the pivot rows have columns
pub record IsRoomFor (placed : PlacedRows) (sums passed : ResidueRow) : Type 0 where
  pub modulus : passed.modulus ≡ placed.rows.modulus
  pub clear : IsClear placed.rows.modulus (length placed.columns) sums
  pub zero : passed.row ≡ zeros (length passed.row)

-- v is the rest and the coefficients times the rows, and the rest is 0 in the columns of pivots; sizes hold for any modulus
pub record ArePivotsReduced (placed : PlacedRows) (v rest coefficients : List ℕ) : Type 0 where
  pub vector : IsVector placed.rows.modulus (length v) rest
  pub residues : IsVector placed.rows.modulus placed.rows.matrix.height coefficients
  pub zero : (k : ℕ) → k < placed.rows.matrix.height → slice_index rest (slice_index placed.columns k) ≡ 0
  pub inside : IsPrime placed.rows.modulus → (i : ℕ) → i < length placed.columns →
      slice_index v (slice_index placed.columns i)
      ≡ (slice_index rest (slice_index placed.columns i)
      + sum_below placed.rows.matrix.height (λ k.
      slice_index coefficients k * entry placed.rows.matrix k i)) % placed.rows.modulus
  pub outside : (j : ℕ) → j < length v → ¬ Contains placed.columns j → slice_index rest j ≡ slice_index v j

-- row i of A on these columns
abbrev pub row_on : Matrix → List ℕ → ℕ → List ℕ
row_on A columns i = list_of (length columns) (λ k. entry A i (slice_index columns k))

-- the rows of the pairs on these columns
abbrev pub rows_on : Matrix → List ℕ → List Pair → Matrix
rows_on A columns qs = record {
  height = length qs;
  width = length columns;
  rows = map (λ q. row_on A columns q.row) qs;
}
