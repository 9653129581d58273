-- Cells: values at places, where a matrix has 2^32 places a row.
use Rattle.std.specs.Prelude.{◌≡◌, ◌<◌, ◌≤◌, ◌+◌, ◌*◌, ◌-◌, ◌/◌, ◌%◌, ◌==◌, leb, if◌then◌else◌, Bool, true, ℕ, List, [], ◌∷◌, length, map, slice_index, slice_index_or, All}
use Rattle.std.specs.List.{range_with_len, sum_by}
use Rattle.matrix_cells.specs.declared.values_at_places.Cell.{Cell}

-- the place of row i and column j
abbrev pub place_of : ℕ → ℕ → ℕ
place_of i j = i * 4294967296 + j

abbrev pub row_of : Cell → ℕ
row_of c = c.place / 4294967296

abbrev pub column_of : Cell → ℕ
column_of c = c.place % 4294967296

-- the sum of the values at a place
abbrev pub weight : ℕ → List Cell → ℕ
weight t cells = sum_by (λ c. if c.place == t then c.val else 0) cells

-- the cell lies within a matrix of m x n
pub record IsWithin (m n : ℕ) (c : Cell) : Type 0 where
  pub row : row_of c < m
  pub column : column_of c < n

-- cells by strictly ascending places, of positive values below p
pub record AreEntries (p : ℕ) (cells : List Cell) : Type 0 where
  pub ascending : (i k : ℕ) (d : Cell) → i < k → k < length cells →
      (slice_index_or cells i d).place < (slice_index_or cells k d).place
  pub positive : All (λ c. 0 < c.val) cells
  pub residues : All (λ c. c.val < p) cells

-- they have at each place the sum modulo p of what these cells have there
pub record AreSums (p : ℕ) (cells kept : List Cell) : Type 0 where
  pub entries : AreEntries p kept
  pub sums : (t : ℕ) → weight t kept ≡ weight t cells % p

-- the cells without those whose value is 0
abbrev pub without_zeros : List Cell → List Cell
without_zeros [] = []
without_zeros (c ∷ cs) = if c.val == 0 then without_zeros cs else c ∷ without_zeros cs

-- the cells ascend by rows
abbrev pub IsByRows : List Cell → Type 0
IsByRows cells = (i k : ℕ) (d : Cell) → i ≤ k → k < length cells →
    row_of (slice_index_or cells i d) ≤ row_of (slice_index_or cells k d)

-- the first `at` cells lie in rows before row i, and the others don't
pub record IsCut (cells : List Cell) (i at : ℕ) : Type 0 where
  pub inside : at ≤ length cells
  pub before : (k : ℕ) (d : Cell) → k < at → row_of (slice_index_or cells k d) < i
  pub behind : (k : ℕ) (d : Cell) → at ≤ k → k < length cells → i ≤ row_of (slice_index_or cells k d)

-- where rows 0, 1, .., m - 1 begin, and where the last ends
pub record AreCuts (m : ℕ) (cells : List Cell) (starts : List ℕ) : Type 0 where
  pub long : length starts ≡ m + 1
  pub each : (i : ℕ) → i ≤ m → IsCut cells i (slice_index starts i)

-- cells of value 0 that stand in these rows
abbrev pub in_rows : List ℕ → List Cell
in_rows rows = map (λ i. record { place = place_of i 0; val = 0 }) rows

-- the cells that three lists have at one place after another
abbrev pub listed_cell : List ℕ → List ℕ → List ℕ → ℕ → Cell
listed_cell rows columns values k =
    record { place = place_of (slice_index rows k) (slice_index columns k); val = slice_index values k }

abbrev pub listed_cells : List ℕ → List ℕ → List ℕ → List Cell
listed_cells rows columns values = map (listed_cell rows columns values) (range_with_len 0 (length rows))

-- the cells in rows of other numbers
abbrev pub renumbered : List ℕ → List Cell → List Cell
renumbered [] cs = []
renumbered (k ∷ ks) [] = []
renumbered (k ∷ ks) (c ∷ cs) = record { place = place_of k (column_of c); val = c.val } ∷ renumbered ks cs

-- how many of the rows that begin at these places begin at k or before
abbrev pub begun : ℕ → List ℕ → ℕ
begun k [] = 0
begun k (s ∷ starts) = (if leb s k then 1 else 0) + begun k starts

-- the cells with these columns and values, where rows begin at `starts`
abbrev pub ordered_cell : List ℕ → List ℕ → List ℕ → ℕ → Cell
ordered_cell starts cols vals k =
    record { place = place_of (begun k starts - 1) (slice_index cols k); val = slice_index vals k }

unfoldable pub ordered_cells : List ℕ → List ℕ → List ℕ → List Cell
ordered_cells starts cols vals = map (ordered_cell starts cols vals) (range_with_len 0 (length cols))

-- the places of cells ascend strictly
abbrev pub HaveRisingPlaces : List Cell → Type 0
HaveRisingPlaces cells = (i k : ℕ) (d : Cell) → i < k → k < length cells →
    (slice_index_or cells i d).place < (slice_index_or cells k d).place

-- columns and values of cells that ascend strictly by places and lie before `next`, where the rows begin up to that of the last, and
-- whether no value is 0
pub record AreOrdered (starts cols vals : List ℕ) (next : ℕ) (nonzero : Bool) : Type 0 where
  pub long : length cols ≡ length vals
  pub narrow : All (λ j. j < 4294967296) cols
  pub ascending : HaveRisingPlaces (ordered_cells starts cols vals)
  pub before : All (λ c. c.place < next) (ordered_cells starts cols vals)
  pub short : length starts ≤ 4294967296
  pub few : (m : ℕ) → All (λ c. row_of c < m) (ordered_cells starts cols vals) → length starts ≤ m
  pub passed : All (λ c. row_of c < length starts) (ordered_cells starts cols vals)
  pub each : (i : ℕ) → i < length starts → IsCut (ordered_cells starts cols vals) i (slice_index starts i)
  pub positive : nonzero ≡ true → All (λ c. 0 < c.val) (ordered_cells starts cols vals)

-- item k belongs to this one of the parts that begin at `starts`
pub record IsRowOfPart (starts : List ℕ) (k row : ℕ) : Type 0 where
  pub begun : row < length starts
  pub before : slice_index starts row ≤ k
  pub behind : row + 1 < length starts → k < slice_index starts (row + 1)
