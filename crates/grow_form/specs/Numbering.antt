-- Columns that get numbers as they come, so that the newest one has the least number.
use Rattle.std.specs.Prelude.{◌≡◌, ◌≢◌, ◌<◌, ◌≤◌, ◌⊎◌, ◌+◌, ◌-◌, ◌==◌, if◌then◌else◌, ℕ, List, [], ◌∷◌, length, map}
use Rattle.std.specs.Prelude.{slice_index}
use Rattle.residue_words.specs.Matrix.{Matrix, list_of, row}
use Rattle.sparse_rows.specs.Rows.{ResidueMatrix, LARGEST_SIZE}
use Rattle.sparse_rows.specs.Stored.{spread}
use Rattle.lead_rows.specs.Leads.{KeptRows}
use Rattle.echelon_form.specs.Settling.{AreSettled, IsOrderOfLeads}

-- for each column 1 and its place among those that have come, or 0; these columns in the order in which they
-- came; how many have come; and how many numbers there are
pub record NumberedColumns : Type 0 where
  pub arrivals : List ℕ
  pub columns : List ℕ
  pub count : ℕ
  pub room : ℕ

-- 1 and the first place of j in a list, or 0
abbrev pub arrival : List ℕ → ℕ → ℕ
arrival [] j = 0
arrival (c ∷ cs) j = if j == c then 1 else if arrival cs j == 0 then 0 else arrival cs j + 1

-- these of n columns have come, and there are so many numbers
abbrev pub numbered : ℕ → ℕ → List ℕ → NumberedColumns
numbered n room columns = record {
  arrivals = list_of n (arrival columns);
  columns = columns;
  count = length columns;
  room = room;
}

-- none of n columns has come
abbrev pub no_columns : ℕ → ℕ → NumberedColumns
no_columns n room = numbered n room []

-- so many numbers more
abbrev pub with_numbers : NumberedColumns → ℕ → NumberedColumns
with_numbers N more = record {
  arrivals = N.arrivals;
  columns = N.columns;
  count = N.count;
  room = more + N.room;
}

-- so many columns more can come
abbrev pub HasRoomFor : NumberedColumns → ℕ → Type 0
HasRoomFor N count = (N.count + count ≤ N.room) ⊎ (N.room ≡ length N.arrivals)

-- of r numbers the column that came at place k has r - 1 - k, and one that hasn't come r, where no row has an
-- entry
abbrev pub number_of : NumberedColumns → ℕ → ℕ
number_of N j = N.room - slice_index N.arrivals j

-- the column that has this number
abbrev pub column_numbered : NumberedColumns → ℕ → ℕ
column_numbered N s = slice_index N.columns (N.room - 1 - s)

-- the columns that have come, and their places, belong to each other
pub record IsNumbering (N : NumberedColumns) : Type 0 where
  pub width_small : length N.arrivals ≤ LARGEST_SIZE
  pub within : N.room ≤ length N.arrivals
  pub few : N.count ≤ N.room
  pub long : length N.columns ≡ N.count
  pub inside : (k : ℕ) → k < N.count → slice_index N.columns k < length N.arrivals
  pub back : (k : ℕ) → k < N.count → slice_index N.arrivals (slice_index N.columns k) ≡ k + 1
  pub come : (j : ℕ) → j < length N.arrivals → slice_index N.arrivals j ≢ 0 →
      (slice_index N.arrivals j ≤ N.count) × (slice_index N.columns (slice_index N.arrivals j - 1) ≡ j)

-- these columns have come
abbrev pub HaveCome : NumberedColumns → List ℕ → Type 0
HaveCome N cols = (k : ℕ) → k < length cols → slice_index N.arrivals (slice_index cols k) ≢ 0

-- a row by numbers, moved to the columns: 0 at a column that hasn't come
abbrev pub at_columns : NumberedColumns → List ℕ → List ℕ
at_columns N w = list_of (length N.arrivals) (λ j. slice_index w (number_of N j))

-- each row moved so
abbrev pub seen_matrix : NumberedColumns → Matrix → Matrix
seen_matrix N A = record {
  height = A.height;
  width = length N.arrivals;
  rows = map (at_columns N) A.rows;
}

-- w is a row by numbers: its entries stand at numbers of columns that have come
pub record IsByNumbers (N : NumberedColumns) (w : List ℕ) : Type 0 where
  pub len : length w ≡ N.room
  pub zero : (s : ℕ) → s + N.count < N.room → slice_index w s ≡ 0

-- columns came, and rows by numbers stay where they were
pub record ComesBehind (old new : NumberedColumns) : Type 0 where
  pub width : length new.arrivals ≡ length old.arrivals
  pub room : new.room ≡ old.room
  pub more : old.count ≤ new.count
  pub kept : (j : ℕ) → slice_index old.arrivals j ≢ 0 → slice_index new.arrivals j ≢ 0
  pub same : (w : List ℕ) → IsByNumbers old w → at_columns new w ≡ at_columns old w

-- the matrix of one row that is the row of these columns and values by the numbers of the columns
pub record IsRowByNumbers (N : NumberedColumns) (p : ℕ) (cols vals : List ℕ)
    (r : ResidueMatrix) : Type 0 where
  pub modulus : r.modulus ≡ p
  pub height : r.matrix.height ≡ 1
  pub width : r.matrix.width ≡ N.room
  pub by_numbers : IsByNumbers N (row r.matrix 0)
  pub same : at_columns N (row r.matrix 0) ≡ spread (length N.arrivals) cols vals

-- these are numbers of columns that have come
abbrev pub AreUsed : NumberedColumns → List ℕ → Type 0
AreUsed N numbers = (k : ℕ) → k < length numbers → N.room ≤ slice_index numbers k + N.count

-- the matrix of one row that is the row of these numbers and values, moved to the columns
pub record IsRowAtColumns (N : NumberedColumns) (p : ℕ) (numbers vals : List ℕ)
    (r : ResidueMatrix) : Type 0 where
  pub modulus : r.modulus ≡ p
  pub height : r.matrix.height ≡ 1
  pub width : r.matrix.width ≡ length N.arrivals
  pub same : row r.matrix 0 ≡ at_columns N (spread N.room numbers vals)

-- kept rows by numbers, as callers see them
abbrev pub seen_rows : KeptRows → NumberedColumns → ResidueMatrix
seen_rows kept N = record { modulus = kept.modulus; matrix = seen_matrix N kept.matrix }

-- rows are kept by numbers: each leads at a column that has come
pub record AreKeptByNumbers (kept : KeptRows) (N : NumberedColumns) : Type 0 where
  pub width : kept.matrix.width ≡ N.room
  pub come : (k : ℕ) → k < kept.matrix.height → N.room ≤ slice_index kept.leads k + N.count

-- the rows are the kept ones when they are settled, by ascending leads
abbrev pub AreSettledByLeads : KeptRows → Matrix → Type 0
AreSettledByLeads kept E =
    (order : List (ℕ × ℕ)) × IsOrderOfLeads kept order × AreSettled kept order (length order) E
