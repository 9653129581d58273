-- Entries that three lists have in order, as cells.
use Rattle.std.proofs.Common.{ℕ, zero, suc, ◌≡◌, ◌+◌, ◌-◌, ◌<◌, ◌≤◌, inl, inr, List, length, map, get_or, slice_index, All, refl, sym, ap, ap₂, subst, ◌∙◌, arith}
use Rattle.std.specs.List.{range_with_len}
use Rattle.std.proofs.lemmas.Bool.{cases_eq}
use Rattle.std.proofs.lemmas.List.{ext_get_or, get_or-map, length-map}
use Rattle.std.proofs.lemmas.List.FromFn.{get_or-map-range_with_len, length-map-range_with_len}
use Rattle.std.proofs.lemmas.Simd.{map-map}
use Rattle.matrix_cells.specs.declared.values_at_places.Cell.{Cell}
use Rattle.matrix_cells.specs.Cells.{AreCuts, AreEntries, IsWithin, column_of, in_rows, listed_cell, listed_cells, place_of, row_of, weight}
use Rattle.sparse_rows.specs.Cells.{triple_of}
use Rattle.sparse_rows.specs.Rows.{FitsMatrix, built, listed_triple, listed_triples, matrix_by}
use Rattle.sparse_rows.proofs.Building.{entries_built}
use Rattle.matrix_cells.proofs.Ordered.{map_range_equal}
use Rattle.matrix_cells.proofs.InRows.{cuts_same}

-- what stands for a cell that isn't there
abbrev none : Cell
none = record { place = 0; val = 0 }

-- numbers of which each is less than the next ascend
chain : (f : ℕ → ℕ) (n : ℕ) → ((k : ℕ) → k + 1 < n → f k < f (k + 1)) → (d i k : ℕ) → i + suc d ≡ k → k < n → f i < f k
chain f n h zero i k q l = subst (λ t. f i < f t) (let next : i + 1 ≡ k = omega (arith, q) in next) (h i (omega (arith, q, l)))
chain f n h (suc d) i k q l =
    let m : ℕ = i + suc d in
    let last : f m < f k = subst (λ t. f m < f t) (let next : m + 1 ≡ k = omega (arith, q) in next) (h m (omega (arith, q, l))) in
    omega (arith, chain f n h d i m refl (omega (arith, q, l)), last)

module _ (rows columns values : List ℕ) where
  abbrev cells : List Cell
  cells = listed_cells rows columns values

  pub length_listed : length cells ≡ length rows
  length_listed = length-map-range_with_len (listed_cell rows columns values) 0 (length rows)

  at_listed : (k : ℕ) (d : Cell) → k < length rows → get_or cells k d ≡ listed_cell rows columns values k
  at_listed k d l = get_or-map-range_with_len (listed_cell rows columns values) 0 (length rows) k k d l (omega arith)

  all_listed : (P : Cell → Type 0) → ((k : ℕ) → k < length rows → P (listed_cell rows columns values k)) → All P cells
  all_listed P h i d l =
      let low : i < length rows = omega (arith, l, length_listed) in
      subst P (sym (at_listed i d low)) (h i low)

  -- a list that has of each cell what is asked of it
  list_listed : (xs : List ℕ) (f : Cell → ℕ) → length xs ≡ length rows → ((k : ℕ) → k < length rows → f (listed_cell rows columns values k) ≡ slice_index xs k) → xs ≡ map f cells
  list_listed xs f long each = ext_get_or 0 xs (map f cells) (long ∙ sym (length-map cells f ∙ length_listed)) (λ k l.
      let low : k < length rows = omega (arith, l, long) in
      sym (get_or-map f cells k none 0 (omega (arith, low, length_listed)) ∙ ap f (at_listed k none low) ∙ each k low))

  module _ (p m n : ℕ) (lc : length columns ≡ length rows) (lv : length values ≡ length rows) (wide : n ≤ 2147483648)
      (inside : (k : ℕ) → k < length rows → FitsMatrix m n p (slice_index rows k, slice_index columns k, slice_index values k))
      (positive : (k : ℕ) → k < length rows → 0 < slice_index values k)
      (rise : (k : ℕ) → k + 1 < length rows → place_of (slice_index rows k) (slice_index columns k) < place_of (slice_index rows (k + 1)) (slice_index columns (k + 1))) where
    row_here : (k : ℕ) → k < length rows → row_of (listed_cell rows columns values k) ≡ slice_index rows k
    row_here k l = let column = (inside k l).column in omega (arith, column)

    column_here : (k : ℕ) → k < length rows → column_of (listed_cell rows columns values k) ≡ slice_index columns k
    column_here k l = let column = (inside k l).column in omega (arith, column)

    places_rise : (i k : ℕ) → i < k → k < length rows → place_of (slice_index rows i) (slice_index columns i) < place_of (slice_index rows k) (slice_index columns k)
    places_rise i k a l = chain (λ k. place_of (slice_index rows k) (slice_index columns k)) (length rows) rise (k - i - 1) i k (omega (arith, a)) l

    pub rows_ascend : (i k : ℕ) → i ≤ k → k < length rows → slice_index rows i ≤ slice_index rows k
    rows_ascend i k a l = elim (cases_eq i k) [
      | inl e ↦ omega (arith, ap (slice_index rows) e)
      | inr d ↦ omega (arith, places_rise i k (omega (arith, a, d)) l, (inside k l).column)
    ]

    pub cuts_listed : (starts : List ℕ) → AreCuts m (in_rows rows) starts → AreCuts m cells starts
    cuts_listed starts cuts = cuts_same m rows starts cells length_listed (λ k d l. ap row_of (at_listed k d l) ∙ row_here k l) cuts

    pub columns_listed : columns ≡ map column_of cells
    columns_listed = list_listed columns column_of lc column_here

    pub values_listed : values ≡ map (λ c. c.val) cells
    values_listed = list_listed values (λ c. c.val) lv (λ k l. refl)

    pub within_listed : All (IsWithin m n) cells
    within_listed = all_listed (IsWithin m n) (λ k l. record {
      row = omega (arith, row_here k l, (inside k l).row);
      column = omega (arith, column_here k l, (inside k l).column);
    })

    pub entries_listed : AreEntries p cells
    entries_listed = record {
      ascending = λ i k d a l.
          let low : k < length rows = omega (arith, l, length_listed) in
          omega (arith, ap (λ (c : Cell). c.place) (at_listed i d (omega (arith, a, low))), ap (λ (c : Cell). c.place) (at_listed k d low), places_rise i k a low);
      positive = all_listed (λ c. 0 < c.val) positive;
      residues = all_listed (λ c. c.val < p) (λ k l. (inside k l).residue);
    }

    -- they make the matrix that is built of the triples
    pub built_listed : matrix_by m n (λ i j. weight (place_of i j) cells) ≡ built p m n (listed_triples rows columns values)
    built_listed = entries_built p m n cells wide entries_listed ∙ ap (built p m n) (map-map triple_of (listed_cell rows columns values) (range_with_len 0 (length rows))
        ∙ map_range_equal (λ k. triple_of (listed_cell rows columns values k)) (listed_triple rows columns values) 0 (length rows) (λ k a b.
        let low : k < length rows = omega (arith, b) in
        ap₂ (λ r c. record { i = r; j = c; v = slice_index values k }) (row_here k low) (column_here k low)))
