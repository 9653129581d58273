-- Cells by the places of their rows among the rows that have some.
use Rattle.std.proofs.Common.{ℕ, ◌≡◌, ◌<◌, ◌≤◌, inl, inr, List, length, map, get_or, slice_index, sym, refl, ap, subst, ◌∙◌, arith}
use Rattle.std.specs.List.{All, Contains}
use Rattle.std.proofs.lemmas.Bool.{cases_eq, cases_lt}
use Rattle.std.proofs.lemmas.List.{get_or-map, length-map}
use Rattle.std.proofs.lemmas.List.Elements.{All-get_or, All-weaker}
use Rattle.residue_words.specs.Matrix.{Matrix, entry, list_of, row}
use Rattle.residue_words.proofs.Vectors.{entry_matrix_of, list_of_equal, row_matrix_of}
use Rattle.matrix_cells.specs.declared.values_at_places.Cell.{Cell}
use Rattle.column_lists.specs.declared.sizes.TheConstants.{LARGEST_SIZE}
use Rattle.matrix_cells.specs.Cells.{AreEntries, IsWithin, column_of, place_of, renumbered, row_of, weight}
use Rattle.column_lists.specs.Columns.{AreOccurring, ArePlaces}
use Rattle.sparse_rows.specs.Placed.{AreNamed, expanded, row_among}
use Rattle.sparse_rows.specs.Rows.{matrix_by}
use Rattle.column_lists.proofs.Occurrences.{among_or_not, contained, contains_at}
use Rattle.sparse_rows.proofs.Expanding.{row_at, row_unnamed, support_has}
use Rattle.sparse_rows.proofs.Loops.{sized}
use Rattle.column_lists.proofs.Rising.{rising_short}
use Rattle.matrix_cells.proofs.Ordered.{map_range_equal}
use Rattle.matrix_cells.proofs.Summing.{weight_here, weight_none}
use Rattle.matrix_cells.proofs.Renumbering.{none, rows_low, moved, length_renumbered, at_renumbered, weight_moved}

module _ (p m n : ℕ) (cells : List Cell) (rows places : List ℕ) (wide : n ≤ 2147483648) (entries : AreEntries p cells) (within : All (IsWithin m n) cells)
    (occurring : AreOccurring (map row_of cells) rows) (stand : ArePlaces rows (map row_of cells) places) where
  long : length places ≡ length cells
  long = sym (length-map places (slice_index rows)) ∙ ap length stand.are ∙ length-map cells row_of

  low : (t : ℕ) → t < length cells → slice_index places t < length rows
  low t l = stand.below t (omega (arith, long))

  row_is : (t : ℕ) (d : Cell) → t < length cells → slice_index rows (slice_index places t) ≡ row_of (get_or cells t d)
  row_is t d l = sym (get_or-map (slice_index rows) places t 0 0 (omega (arith, long))) ∙ ap (λ xs. slice_index xs t) stand.are ∙ get_or-map row_of cells t d 0 l

  abbrev C : List Cell
  C = renumbered places cells

  many : length C ≡ length cells
  many = length_renumbered places cells long

  at_cell : (t : ℕ) (d : Cell) → t < length cells → get_or C t d ≡ moved (slice_index places t) (get_or cells t d)
  at_cell t d l = at_renumbered places cells t d long l

  pub renumbered_entries : AreEntries p C
  renumbered_entries = record {
    ascending = λ i k d a b.
        let lk : k < length cells = omega (arith, many) in
        let li : i < length cells = omega arith in
        let up : (get_or cells i d).place < (get_or cells k d).place = entries.ascending i k d a lk in
        let ri : slice_index rows (slice_index places i) ≡ row_of (get_or cells i d) = row_is i d li in
        let rk : slice_index rows (slice_index places k) ≡ row_of (get_or cells k d) = row_is k d lk in
        rw (at_cell i d li, at_cell k d lk) (elim (cases_lt (slice_index places i) (slice_index places k)) [
          | inl s ↦ omega arith
          | inr s ↦ elim (cases_eq (slice_index places i) (slice_index places k)) [
            | inl e ↦ omega (arith, ap (slice_index rows) e)
            | inr e ↦ absurd (omega (arith, occurring.rising (slice_index places k) (slice_index places i) (omega arith) (low i li)))
          ]
        ]);
    positive = λ t d l. rw (at_cell t d (omega (arith, many))) (All-get_or (λ c. 0 < c.val) cells t d (omega (arith, many)) entries.positive);
    residues = λ t d l. rw (at_cell t d (omega (arith, many))) (All-get_or (λ c. c.val < p) cells t d (omega (arith, many)) entries.residues);
  }

  pub renumbered_within : All (IsWithin (length rows) n) C
  renumbered_within = λ t d l.
      let b : t < length cells = omega (arith, many) in
      let w : IsWithin m n (get_or cells t d) = All-get_or (IsWithin m n) cells t d b within in
      rw (at_cell t d b) record { row = omega (arith, low t b); column = omega (arith, w.column) }

  weights : (r j : ℕ) → r < length rows → j < n → weight (place_of r j) C ≡ weight (place_of (slice_index rows r) j) cells
  weights r j l b = weight_moved rows occurring.rising r j l (omega arith) places cells long low (λ t q. row_is t none q)

  abbrev M : Matrix
  M = matrix_by (length rows) n (λ r j. weight (place_of r j) C)

  pub renumbered_named : AreNamed m rows M
  renumbered_named = record {
    rising = occurring.rising;
    below = λ k l.
        let w = contained (map row_of cells) (slice_index rows k) (occurring.inside k l) in
        let b : w.0 < length cells = omega (arith, w.1, length-map cells row_of) in
        omega (arith, w.2, get_or-map row_of cells w.0 none 0 b, (All-get_or (IsWithin m n) cells w.0 none b within).row);
    many = refl;
    filled = λ k l.
        let w = contained (map row_of cells) (slice_index rows k) (occurring.inside k l) in
        let b : w.0 < length cells = omega (arith, w.1, length-map cells row_of) in
        let c : Cell = get_or cells w.0 none in
        let j : ℕ = column_of c in
        let inside : j < n = (All-get_or (IsWithin m n) cells w.0 none b within).column in
        let place : place_of (slice_index rows k) j ≡ c.place = omega (arith, w.2, get_or-map row_of cells w.0 none 0 b) in
        let value : entry M k j ≡ c.val =
        entry_matrix_of (length rows) n (λ r j. weight (place_of r j) C) k j l inside ∙ weights k j l inside ∙ ap (λ t. weight t cells) place ∙ weight_here p cells w.0 none entries b in
        support_has (row M k) j (λ e. omega (arith, value, e, All-get_or (λ c. 0 < c.val) cells w.0 none b entries.positive));
  }

  pub renumbered_matrix : expanded m rows M ≡ matrix_by m n (λ i j. weight (place_of i j) cells)
  renumbered_matrix =
      ap (sized m n) (map_range_equal (row_among M 0 rows) (λ i. list_of n (λ j. weight (place_of i j) cells)) 0 m (λ i a l. elim (among_or_not rows i) [
        | inl w ↦ ap (row_among M 0 rows) (sym w.2) ∙ row_at M rows w.0 occurring.rising w.1 ∙ row_matrix_of (length rows) n (λ r j. weight (place_of r j) C) w.0 w.1
            ∙ list_of_equal n _ _ (λ j b. weights w.0 j w.1 b ∙ ap (λ t. weight (place_of t j) cells) w.2)
        | inr q ↦ row_unnamed M 0 rows i q ∙ list_of_equal n (λ j. 0) (λ j. weight (place_of i j) cells) (λ j b. sym (weight_none (place_of i j) cells (λ t d s e.
            let row : slice_index (map row_of cells) t ≡ i = get_or-map row_of cells t d 0 s ∙ omega arith in
            let h = contained rows i (occurring.all i (contains_at (map row_of cells) i t (omega (arith, length-map cells row_of)) row)) in
            q h.0 h.1 h.2)))
      ]))

-- rows that occur are as many as the numbers below their bound at most
pub occurring_few : (m : ℕ) (numbers rows : List ℕ) → AreOccurring numbers rows → ((k : ℕ) → k < length numbers → slice_index numbers k < m) → length rows ≤ m
occurring_few m numbers rows o below = rising_short rows m o.rising (λ k l. let w = contained numbers (slice_index rows k) (o.inside k l) in omega (arith, below w.0 w.1, w.2))

-- each number is among them
pub occurring_among : (numbers rows : List ℕ) → AreOccurring numbers rows → (k : ℕ) → k < length numbers → Contains rows (slice_index numbers k)
occurring_among numbers rows o k l = o.all (slice_index numbers k) (contains_at numbers (slice_index numbers k) k l refl)

-- the cells of a matrix by the places of their rows
pub record IsNumbered (p m n : ℕ) (cells : List Cell) (rows : List ℕ) (made : List Cell) : Type 0 where
  pub few : length rows ≤ LARGEST_SIZE
  pub within : All (IsWithin (length rows) n) made
  pub entries : AreEntries p made
  pub named : AreNamed m rows (matrix_by (length rows) n (λ r j. weight (place_of r j) made))
  pub matrix : expanded m rows (matrix_by (length rows) n (λ r j. weight (place_of r j) made)) ≡ matrix_by m n (λ i j. weight (place_of i j) cells)

pub is_numbered : (p m n : ℕ) (cells made : List Cell) (numbers numbers' rows rows' places : List ℕ) → m ≤ LARGEST_SIZE → n ≤ LARGEST_SIZE → AreEntries p cells → All (IsWithin m n) cells →
    numbers ≡ map row_of cells → numbers' ≡ map row_of cells → AreOccurring numbers rows → rows' ≡ rows → ArePlaces rows' numbers' places → made ≡ renumbered places cells → IsNumbered p m n cells rows made
is_numbered p m n cells made numbers numbers' rows rows' places high wide entries within en en' o er stand em =
    let occurring : AreOccurring (map row_of cells) rows = subst (λ xs. AreOccurring xs rows) en o in
    let places_are : ArePlaces rows (map row_of cells) places = subst (λ xs. ArePlaces xs (map row_of cells) places) er (subst (λ xs. ArePlaces rows' xs places) en' stand) in
    rw em record {
      few = omega (arith, occurring_few m (map row_of cells) rows occurring (rows_low cells m (All-weaker (IsWithin m n) (λ c. row_of c < m) (λ c h. h.row) cells within)));
      within = renumbered_within p m n cells rows places wide entries within occurring places_are;
      entries = renumbered_entries p m n cells rows places wide entries within occurring places_are;
      named = renumbered_named p m n cells rows places wide entries within occurring places_are;
      matrix = renumbered_matrix p m n cells rows places wide entries within occurring places_are;
    }
