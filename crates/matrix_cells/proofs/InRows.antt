-- Cells that stand in given rows.
use Rattle.std.proofs.Common.{ℕ, ◌≡◌, ◌-◌, ◌<◌, ◌≤◌, List, length, get_or, slice_index, All, ap, ◌∙◌, arith}
use Rattle.std.proofs.lemmas.List.{get_or-map, length-map}
use Rattle.matrix_cells.specs.declared.values_at_places.Cell.{Cell}
use Rattle.matrix_cells.specs.Cells.{AreCuts, IsByRows, IsCut, in_rows, place_of, row_of}

-- cells in these rows
pub length_rows : (rows : List ℕ) → length (in_rows rows) ≡ length rows
length_rows rows = length-map rows (λ i. record { place = place_of i 0; val = 0 })

pub row_in : (rows : List ℕ) (k : ℕ) (d : Cell) → k < length rows → row_of (get_or (in_rows rows) k d) ≡ slice_index rows k
row_in rows k d l = ap row_of (get_or-map (λ (i : ℕ). record { place = place_of i 0; val = 0 }) rows k 0 d l) ∙ omega arith

pub rows_within : (rows : List ℕ) (m : ℕ) → ((k : ℕ) → k < length rows → slice_index rows k < m) → All (λ c. row_of c < m) (in_rows rows)
rows_within rows m h k d l =
    let low : k < length rows = omega (arith, l, length_rows rows) in
    omega (arith, row_in rows k d low, h k low)

pub by_rows : (rows : List ℕ) → ((k t : ℕ) → k ≤ t → t < length rows → slice_index rows k ≤ slice_index rows t) → IsByRows (in_rows rows)
by_rows rows h i k d a l =
    let low : k < length rows = omega (arith, l, length_rows rows) in
    omega (arith, row_in rows i d (omega (arith, a, low)), row_in rows k d low, h i k a low)

-- rows begin where cells in the same rows do
pub cuts_same : (m : ℕ) (rows starts : List ℕ) (cells : List Cell) → length cells ≡ length rows → ((k : ℕ) (d : Cell) → k < length rows → row_of (get_or cells k d) ≡ slice_index rows k) →
    AreCuts m (in_rows rows) starts → AreCuts m cells starts
cuts_same m rows starts cells long same cuts = record {
  long = cuts.long;
  each = λ i l.
      let cut : IsCut (in_rows rows) i (slice_index starts i) = cuts.each i l in
      record {
        inside = omega (arith, cut.inside, length_rows rows, long);
        before = λ k d a.
            let low : k < length rows = omega (arith, a, cut.inside, length_rows rows) in
            omega (arith, cut.before k d a, row_in rows k d low, same k d low);
        behind = λ k d a b.
            let low : k < length rows = omega (arith, b, long) in
            omega (arith, cut.behind k d a (omega (arith, low, length_rows rows)), row_in rows k d low, same k d low);
      };
}
