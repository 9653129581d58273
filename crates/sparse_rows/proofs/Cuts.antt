-- Cells by ascending places are the rows of a matrix.
use Rattle.std.proofs.Common.{ℕ, ◌≡◌, ◌≢◌, ◌+◌, ◌-◌, ◌<◌, ◌≤◌, inl, inr, List, length, map, get_or, slice_index, sym, ap, ◌∙◌, arith}
use Rattle.std.specs.List.{All, range_with_len}
use Rattle.std.proofs.lemmas.Bool.{cases_lt}
use Rattle.std.proofs.lemmas.List.{get_or-map, length-map}
use Rattle.std.proofs.lemmas.List.Elements.{All-get_or, All-weaker}
use Rattle.residue_words.specs.Matrix.{list_of}
use Rattle.residue_words.proofs.Vectors.{list_of_equal}
use Rattle.matrix_cells.specs.declared.values_at_places.Cell.{Cell}
use Rattle.matrix_cells.specs.Cells.{AreCuts, AreEntries, IsWithin, column_of, place_of, row_of, weight}
use Rattle.sparse_rows.specs.Rows.{matrix_by}
use Rattle.column_lists.specs.Parts.{part}
use Rattle.sparse_rows.specs.Stored.{IsSparse, IsStored, entry_at, spread, stored_matrix, stored_row}
use Rattle.sparse_rows.proofs.Spread.{entry_cover, entry_here}
use Rattle.matrix_cells.proofs.Ordered.{map_range_equal}
use Rattle.matrix_cells.proofs.Summing.{weight_here, weight_none}
use Rattle.matrix_cells.proofs.Cuts.{at_range, length_range, cell_at, are_starts}

module _ (p m n : ℕ) (cells : List Cell) (starts : List ℕ) (cuts : AreCuts m cells starts) (entries : AreEntries p cells) (within : All (IsWithin m n) cells) where
  abbrev pub columns : List ℕ
  columns = map column_of cells

  abbrev pub values : List ℕ
  values = map (λ c. c.val) cells

  -- a cell of row i stands at that row's place for its column
  place_is : (i k : ℕ) (d : Cell) → i < m → slice_index starts i ≤ k → k < slice_index starts (i + 1) → (get_or cells k d).place ≡ place_of i (column_of (get_or cells k d))
  place_is i k d l a b = omega (arith, (cuts.each i (omega arith)).behind k d a (omega (arith, (cuts.each (i + 1) (omega arith)).inside)), (cuts.each (i + 1) (omega arith)).before k d b)

  at_columns : (i k : ℕ) (d : Cell) → i < m → slice_index starts i + k < slice_index starts (i + 1) → slice_index (part starts columns i) k ≡ column_of (get_or cells (slice_index starts i + k) d)
  unfolding part
  at_columns i k d l b =
      at_range columns (slice_index starts i) (slice_index starts (i + 1)) k 0 (omega arith)
      ∙ get_or-map column_of cells (slice_index starts i + k) d 0 (omega (arith, (cuts.each (i + 1) (omega arith)).inside))

  at_values : (i k : ℕ) (d : Cell) → i < m → slice_index starts i + k < slice_index starts (i + 1) → slice_index (part starts values i) k ≡ (get_or cells (slice_index starts i + k) d).val
  unfolding part
  at_values i k d l b =
      at_range values (slice_index starts i) (slice_index starts (i + 1)) k 0 (omega arith)
      ∙ get_or-map (λ c. c.val) cells (slice_index starts i + k) d 0 (omega (arith, (cuts.each (i + 1) (omega arith)).inside))

  length_columns : (i : ℕ) → i < m → length (part starts columns i) ≡ slice_index starts (i + 1) - slice_index starts i
  unfolding part
  length_columns i l = length_range columns (slice_index starts i) (slice_index starts (i + 1)) (omega (arith, (cuts.each (i + 1) (omega arith)).inside, length-map cells column_of))

  length_values : (i : ℕ) → i < m → length (part starts values i) ≡ slice_index starts (i + 1) - slice_index starts i
  unfolding part
  length_values i l = length_range values (slice_index starts i) (slice_index starts (i + 1)) (omega (arith, (cuts.each (i + 1) (omega arith)).inside, length-map cells (λ c. c.val)))

  -- the cells of row i are stored as its columns and values
  row_sparse : Cell → (i : ℕ) → i < m → IsSparse p n (part starts columns i) (part starts values i)
  row_sparse d i l =
      let a : ℕ = slice_index starts i in
      let b : ℕ = slice_index starts (i + 1) in
      let end : b ≤ length cells = (cuts.each (i + 1) (omega arith)).inside in
      record {
        long = length_columns i l ∙ sym (length_values i l);
        rising = λ k t u w. omega (
          arith,
          at_columns i k d l (omega (arith, length_columns i l)),
          at_columns i t d l (omega (arith, length_columns i l)),
          place_is i (a + k) d l (omega arith) (omega (arith, length_columns i l)),
          place_is i (a + t) d l (omega arith) (omega (arith, length_columns i l)),
          entries.ascending (a + k) (a + t) d (omega arith) (omega (arith, length_columns i l)),
        );
        below = λ k u. omega (arith, at_columns i k d l (omega (arith, length_columns i l)), (All-get_or (IsWithin m n) cells (a + k) d (omega (arith, length_columns i l)) within).column);
        positive = λ k u. omega (arith, at_values i k d l (omega (arith, length_values i l)), All-get_or (λ c. 0 < c.val) cells (a + k) d (omega (arith, length_values i l)) entries.positive);
        residues = λ k u. omega (arith, at_values i k d l (omega (arith, length_values i l)), All-get_or (λ c. c.val < p) cells (a + k) d (omega (arith, length_values i l)) entries.residues);
      }

  -- the entry at column j of row i is the weight of its place
  entry_is : Cell → (i j : ℕ) → i < m → j < 4294967296 → entry_at (part starts columns i) (part starts values i) j ≡ weight (place_of i j) cells
  entry_is d i j l w =
      let a : ℕ = slice_index starts i in
      let b : ℕ = slice_index starts (i + 1) in
      let stored : IsSparse p n (part starts columns i) (part starts values i) = row_sparse d i l in
      elim (cell_at (place_of i j) cells) [
        | inl none ↦ elim (entry_cover (part starts columns i) (part starts values i) j) [
          | inl z ↦ z ∙ sym (weight_none (place_of i j) cells none)
          | inr k ↦ absurd (All-get_or (λ c. c.place ≢ place_of i j) cells (a + k.0) d (omega (arith, length_columns i l, k.1, (cuts.each (i + 1) (omega arith)).inside)) none
              (place_is i (a + k.0) d l (omega arith) (omega (arith, length_columns i l, k.1)) ∙ ap (place_of i) (sym (at_columns i k.0 d l (omega (arith, length_columns i l, k.1))) ∙ k.2)))
        ]
        | inr k ↦
            let place : (get_or cells k.0 d).place ≡ place_of i j = k.2 d in
            let low : a ≤ k.0 = elim (cases_lt k.0 a) [ inl u ↦ absurd (omega (arith, (cuts.each i (omega arith)).before k.0 d u)) | inr u ↦ u ] in
            let high : k.0 < b = elim (cases_lt k.0 b) [ inl u ↦ u | inr u ↦ absurd (omega (arith, (cuts.each (i + 1) (omega arith)).behind k.0 d u k.1)) ] in
            let same : a + (k.0 - a) ≡ k.0 = omega arith in
            let column : slice_index (part starts columns i) (k.0 - a) ≡ j = at_columns i (k.0 - a) d l (omega arith) ∙ ap (λ t. column_of (get_or cells t d)) same ∙ omega arith in
            ap (entry_at (part starts columns i) (part starts values i)) (sym column)
            ∙ entry_here (part starts columns i) (part starts values i) stored.long stored.rising (k.0 - a) (omega (arith, length_columns i l))
            ∙ at_values i (k.0 - a) d l (omega arith) ∙ ap (λ t. (get_or cells t d).val) same
            ∙ sym (weight_here p cells k.0 d entries k.1) ∙ ap (λ t. weight t cells) place
      ]

  -- the cells are stored as rows
  pub cells_stored : Cell → m ≤ 2147483648 → n ≤ 2147483648 → 2 ≤ p → p < 281474976710656 → IsStored p n starts columns values
  cells_stored d high wide two small =
      let count : length starts - 1 ≡ m = omega (arith, cuts.long) in
      record {
        height_small = omega (arith, cuts.long);
        width_small = wide;
        two_or_more = two;
        in_range = small;
        parts = rw (count, length-map cells column_of) (are_starts m cells starts d cuts (All-weaker (IsWithin m n) (λ c. row_of c < m) (λ c h. h.row) cells within));
        long = length-map cells column_of ∙ sym (length-map cells (λ c. c.val));
        each = λ i l. row_sparse d i (omega arith);
      }

  -- and stand for the matrix of the weights
  pub cells_matrix : Cell → n ≤ 2147483648 → stored_matrix n starts columns values ≡ matrix_by m n (λ i j. weight (place_of i j) cells)
  unfolding stored_row spread
  cells_matrix d wide =
      let count : length starts - 1 ≡ m = omega (arith, cuts.long) in
      ap (λ h. record { height = h; width = n; rows = map (stored_row n starts columns values) (range_with_len 0 h) }) count
      ∙ ap (λ r. record { height = m; width = n; rows = r }) (map_range_equal (stored_row n starts columns values) (λ i. list_of n (λ j. weight (place_of i j) cells)) 0 m
      (λ i a b. list_of_equal n (entry_at (part starts columns i) (part starts values i)) (λ j. weight (place_of i j) cells) (λ j l. entry_is d i j (omega arith) (omega arith))))
