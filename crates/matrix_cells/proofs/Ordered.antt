-- Cells that ascend by places, kept as rows: one more, where the rows begin, and the list of them all.
use Rattle.std.proofs.Common.{ℕ, zero, suc, ◌≡◌, ◌+◌, ◌-◌, ◌<◌, ◌≤◌, Bool, true, inl, inr, List, [], ◌∷◌, ◌++◌, length, map, replicate, cond, leb, get_or, slice_index, sym, refl, ap, ap₂, subst, ◌∙◌, arith}
use Rattle.std.specs.List.{All, range_with_len}
use Rattle.std.proofs.lemmas.Bool.{cases_eq, cases_lt, cond-true, cond-false, le-leb, lt-leb}
use Rattle.std.proofs.lemmas.List.{get_or_append_left, get_or-map, get_or_push, ext_get_or, length-append, length-map, length_push, length-replicate}
use Rattle.std.proofs.lemmas.List.Elements.{All-get_or, All-nil, All-push, All-weaker}
use Rattle.std.proofs.lemmas.List.FromFn.{get_or-map-range_with_len, length-map-range_with_len, map-range_with_len_more}
use Rattle.matrix_cells.specs.declared.values_at_places.Cell.{Cell}
use Rattle.matrix_cells.specs.Cells.{HaveRisingPlaces, AreCuts, AreOrdered, IsCut, IsRowOfPart, begun, column_of, ordered_cell, ordered_cells, place_of, row_of}
use Rattle.matrix_cells.proofs.Cuts.{cuts_all, each_resized}

-- equal functions give equal lists over a range
pub map_range_equal : {X : Type 0} (f g : ℕ → X) (k m : ℕ) → ((j : ℕ) → k ≤ j → j < k + m → f j ≡ g j) → map f (range_with_len k m) ≡ map g (range_with_len k m)
map_range_equal f g k zero h = refl
map_range_equal f g k (suc m) h = ap₂ ◌∷◌ (h k (omega arith) (omega arith)) (map_range_equal f g (k + 1) m (λ j l b. h j (omega arith) (omega arith)))

-- rows that begin behind a place don't count there, and where all begin before it all count
begun_none : (t n at : ℕ) → t < at → begun t (replicate n at) ≡ 0
begun_none t zero at l = refl
begun_none t (suc n) at l = ap₂ ◌+◌ (cond-false {A = ℕ} (leb at t) 1 0 (lt-leb at t l)) (begun_none t n at l)

begun_before : (t : ℕ) (starts : List ℕ) (n at : ℕ) → t < at → begun t (starts ++ replicate n at) ≡ begun t starts
begun_before t [] n at l = begun_none t n at l
begun_before t (s ∷ starts) n at l = ap (λ k. cond (leb s t) 1 0 + k) (begun_before t starts n at l)

begun_all : (t : ℕ) (starts : List ℕ) → ((i : ℕ) → i < length starts → slice_index starts i ≤ t) → begun t starts ≡ length starts
begun_all t [] h = refl
begun_all t (s ∷ starts) h = ap₂ ◌+◌ (cond-true {A = ℕ} (leb s t) 1 0 (le-leb s t (h 0 (omega arith)))) (begun_all t starts (λ i l. h (suc i) (omega arith))) ∙ omega arith

pub length_cells : (starts cols vals : List ℕ) → length (ordered_cells starts cols vals) ≡ length cols
unfolding ordered_cells
length_cells starts cols vals = length-map-range_with_len (ordered_cell starts cols vals) 0 (length cols)

pub at_cells : (starts cols vals : List ℕ) (k : ℕ) (d : Cell) → k < length cols → get_or (ordered_cells starts cols vals) k d ≡ ordered_cell starts cols vals k
unfolding ordered_cells
at_cells starts cols vals k d l = get_or-map-range_with_len (ordered_cell starts cols vals) 0 (length cols) k k d l (omega arith)

pub cells_none : ordered_cells [] [] [] ≡ []
unfolding ordered_cells
cells_none = refl

-- nothing yet
pub ordered_none : AreOrdered [] [] [] 0 true
ordered_none = record {
  long = refl;
  narrow = All-nil (λ j. j < 4294967296);
  ascending = subst HaveRisingPlaces (sym cells_none) (λ i k d a b. absurd (omega arith));
  before = subst (All (λ c. c.place < 0)) (sym cells_none) (All-nil (λ c. c.place < 0));
  short = omega arith;
  few = λ m h. omega arith;
  passed = subst (All (λ c. row_of c < 0)) (sym cells_none) (All-nil (λ c. row_of c < 0));
  each = λ i l. absurd (omega arith);
  positive = λ e. subst (All (λ c. 0 < c.val)) (sym cells_none) (All-nil (λ c. 0 < c.val));
}

-- one cell more, where the rows up to its own begin
pub cells_push : (starts cols vals : List ℕ) (n i j v : ℕ) → length cols ≡ length vals → ((t : ℕ) → t < length starts → slice_index starts t ≤ length cols) → length starts + n ≡ i + 1 →
    ordered_cells (starts ++ replicate n (length cols)) (cols ++ j ∷ []) (vals ++ v ∷ []) ≡ ordered_cells starts cols vals ++ record { place = place_of i j; val = v } ∷ []
unfolding ordered_cells
cells_push starts cols vals n i j v long inside many =
    let k = length cols in
    let starts' = starts ++ replicate n k in
    let f = ordered_cell starts' (cols ++ j ∷ []) (vals ++ v ∷ []) in
    let all : begun k starts' ≡ i + 1 = begun_all k starts' (λ t l. each_resized (λ t at. at ≤ k) starts n k inside (λ t a b. omega arith) t (omega (arith, length-append starts (replicate n k), length-replicate n k)))
    ∙ length-append starts (replicate n k) ∙ ap (λ t. length starts + t) (length-replicate n k) ∙ many in
    let last : f k ≡ record { place = place_of i j; val = v } =
    ap₂ (λ b c. record { place = place_of (b - 1) c; val = slice_index (vals ++ v ∷ []) k }) all (get_or_push cols j 0 k refl)
    ∙ ap₂ (λ r x. record { place = place_of r j; val = x }) (let one : i + 1 - 1 ≡ i = omega arith in one) (get_or_push vals v 0 k (sym long)) in
    let same : map f (range_with_len 0 k) ≡ map (ordered_cell starts cols vals) (range_with_len 0 k) = map_range_equal f (ordered_cell starts cols vals) 0 k (λ t a b.
    let low : t < k = omega arith in
    ap₂ (λ b c. record { place = place_of (b - 1) c; val = slice_index (vals ++ v ∷ []) t }) (begun_before t starts n k low) (get_or_append_left cols (j ∷ []) 0 t low)
    ∙ ap (λ x. record { place = place_of (begun t starts - 1) (slice_index cols t); val = x }) (get_or_append_left vals (v ∷ []) 0 t (omega arith))) in
    ap (λ t. map f (range_with_len 0 t)) (length_push cols j) ∙ map-range_with_len_more f 0 k k (omega arith) ∙ ap₂ (λ cells c. cells ++ c ∷ []) same last

-- the last cell is one of all
last_low : (cells : List Cell) (c : Cell) (m : ℕ) → All (λ c. row_of c < m) (cells ++ c ∷ []) → row_of c < m
last_low cells c m all =
    subst (λ c. row_of c < m) (get_or_push cells c c (length cells) refl) (All-get_or (λ c. row_of c < m) (cells ++ c ∷ []) (length cells) c (omega (arith, length_push cells c)) all)

ascending_push : (cells : List Cell) (c : Cell) → HaveRisingPlaces cells → All (λ k. k.place < c.place) cells → HaveRisingPlaces (cells ++ c ∷ [])
ascending_push cells c h before i k d a b =
    let long : length (cells ++ c ∷ []) ≡ length cells + 1 = length_push cells c in
    let first : get_or (cells ++ c ∷ []) i d ≡ get_or cells i d = get_or_append_left cells (c ∷ []) d i (omega arith) in
    elim (cases_lt k (length cells)) [
      | inl l ↦
          let second : get_or (cells ++ c ∷ []) k d ≡ get_or cells k d = get_or_append_left cells (c ∷ []) d k l in
          rw (first, second) (h i k d a l)
      | inr g ↦
          let second : get_or (cells ++ c ∷ []) k d ≡ c = get_or_push cells c d k (omega arith) in
          rw (first, second) (All-get_or (λ k. k.place < c.place) cells i d (omega arith) before)
    ]

-- where a row begins stays, with a cell behind it that doesn't lie before the row
cut_push : (cells : List Cell) (c : Cell) (i at : ℕ) → IsCut cells i at → i ≤ row_of c → IsCut (cells ++ c ∷ []) i at
cut_push cells c i at h low =
    let long : length (cells ++ c ∷ []) ≡ length cells + 1 = length_push cells c in
    record {
      inside = omega (arith, h.inside, long);
      before = λ k d l. rw (get_or_append_left cells (c ∷ []) d k (omega (arith, h.inside))) (h.before k d l);
      behind = λ k d a b. elim (cases_lt k (length cells)) [
        | inl l ↦ rw (get_or_append_left cells (c ∷ []) d k l) (h.behind k d a l)
        | inr g ↦ rw (get_or_push cells c d k (omega arith)) low
      ];
    }

-- a row up to that of the last cell begins at that cell, where all others lie before the row
cut_last : (cells : List Cell) (c : Cell) (i : ℕ) → All (λ k. row_of k < i) cells → i ≤ row_of c → IsCut (cells ++ c ∷ []) i (length cells)
cut_last cells c i passed low =
    let long : length (cells ++ c ∷ []) ≡ length cells + 1 = length_push cells c in
    record {
      inside = omega (arith, long);
      before = λ k d l. rw (get_or_append_left cells (c ∷ []) d k l) (All-get_or (λ k. row_of k < i) cells k d l passed);
      behind = λ k d a b. rw (get_or_push cells c d k (omega arith)) low;
    }

module _ (starts cols vals : List ℕ) (next : ℕ) (nonzero : Bool) (h : AreOrdered starts cols vals next nonzero) where
  abbrev cells : List Cell
  cells = ordered_cells starts cols vals

  -- rows begin at cells
  pub starts_inside : (t : ℕ) → t < length starts → slice_index starts t ≤ length cols
  starts_inside t l = omega (arith, (h.each t l).inside, length_cells starts cols vals)

  -- no row behind the next cell's has begun
  pub starts_few : (i j : ℕ) → j < 4294967296 → All (λ c. c.place < place_of i j) cells → length starts ≤ i + 1
  starts_few i j narrow before = h.few (i + 1) (All-weaker (λ c. c.place < place_of i j) (λ c. row_of c < i + 1) (λ c l. omega arith) cells before)

  pub ordered_push : (i j v n next' : ℕ) (nonzero' : Bool) → i < 4294967296 → j < 4294967296 → All (λ c. c.place < place_of i j) cells → length starts + n ≡ i + 1 → place_of i j < next' →
      (nonzero' ≡ true → (nonzero ≡ true) × (0 < v)) →
      AreOrdered (starts ++ replicate n (length cols)) (cols ++ j ∷ []) (vals ++ v ∷ []) next' nonzero'
  ordered_push i j v n next' nonzero' low narrow behind many later some =
      let c : Cell = record { place = place_of i j; val = v } in
      let k = length cols in
      let starts' = starts ++ replicate n k in
      let row : row_of c ≡ i = omega arith in
      let long : length starts' ≡ i + 1 = length-append starts (replicate n k) ∙ ap (λ t. length starts + t) (length-replicate n k) ∙ many in
      let size : length cells ≡ k = length_cells starts cols vals in
      let same : ordered_cells starts' (cols ++ j ∷ []) (vals ++ v ∷ []) ≡ cells ++ c ∷ [] = cells_push starts cols vals n i j v h.long starts_inside many in
      record {
        long = length_push cols j ∙ ap (λ t. t + 1) h.long ∙ sym (length_push vals v);
        narrow = All-push (λ j. j < 4294967296) cols j h.narrow narrow;
        ascending = subst HaveRisingPlaces (sym same) (ascending_push cells c h.ascending behind);
        before = subst (All (λ c. c.place < next')) (sym same) (All-push (λ c. c.place < next') cells c (All-weaker (λ b. b.place < place_of i j) (λ c. c.place < next') (λ c l. omega arith) cells behind) later);
        short = omega (arith, long);
        few = λ m all. omega (arith, long, row, last_low cells c m (subst (All (λ c. row_of c < m)) same all));
        passed = subst (All (λ c. row_of c < length starts')) (sym same) (All-push (λ c. row_of c < length starts') cells c (All-weaker (λ c. row_of c < length starts) (λ c. row_of c < length starts') (λ c l. omega arith) cells h.passed) (omega arith));
        each = λ t l. subst (λ cs. IsCut cs t (slice_index starts' t)) (sym same) (each_resized (IsCut (cells ++ c ∷ [])) starts n k (λ t b. cut_push cells c t (slice_index starts t) (h.each t b) (omega arith))
            (λ t a b. subst (IsCut (cells ++ c ∷ []) t) size (cut_last cells c t (All-weaker (λ c. row_of c < length starts) (λ c. row_of c < t) (λ c l. omega arith) cells h.passed) (omega arith))) t (omega arith));
        positive = λ e. subst (All (λ c. 0 < c.val)) (sym same) (All-push (λ c. 0 < c.val) cells c (h.positive (some e).0) (some e).1);
      }

  -- rows behind the last cell begin at its end
  pub ordered_cuts : (m n : ℕ) → All (λ c. row_of c < m) cells → length starts + n ≡ m + 1 → AreCuts m cells (starts ++ replicate n (length cols))
  ordered_cuts m n within many = subst (λ x. AreCuts m cells (starts ++ replicate n x)) (length_cells starts cols vals) (cuts_all m cells (length cells) n starts record {
    few = h.few m within;
    passed = λ t d a b. All-get_or (λ c. row_of c < length starts) cells t d b h.passed;
    ahead = λ t d a b. absurd (omega arith);
    each = h.each;
  } (omega arith) many)

  -- the cells' columns and values
  pub columns_are : cols ≡ map column_of cells
  columns_are = ext_get_or 0 cols (map column_of cells) (sym (length-map cells column_of ∙ length_cells starts cols vals)) (λ k l.
      let d : Cell = record { place = 0; val = 0 } in
      let low : slice_index cols k < 4294967296 = All-get_or (λ j. j < 4294967296) cols k 0 l h.narrow in
      sym (get_or-map column_of cells k d 0 (omega (arith, length_cells starts cols vals)) ∙ ap column_of (at_cells starts cols vals k d l) ∙ (let same : column_of (ordered_cell starts cols vals k) ≡ slice_index cols k = omega arith in same)))

  pub values_are : vals ≡ map (λ c. c.val) cells
  values_are = ext_get_or 0 vals (map (λ c. c.val) cells) (sym (length-map cells (λ c. c.val) ∙ length_cells starts cols vals ∙ h.long)) (λ k l.
      let d : Cell = record { place = 0; val = 0 } in
      let low : k < length cols = omega (arith, h.long) in
      sym (get_or-map (λ c. c.val) cells k d 0 (omega (arith, length_cells starts cols vals)) ∙ ap (λ (c : Cell). c.val) (at_cells starts cols vals k d low)))

  -- the first row begins before the first cell
  pub first_row : 0 < length cols → (0 < length starts) × (slice_index starts 0 ≡ 0)
  first_row some =
      let d : Cell = record { place = 0; val = 0 } in
      let one : 0 < length starts = omega (arith, All-get_or (λ c. row_of c < length starts) cells 0 d (omega (arith, length_cells starts cols vals)) h.passed) in (
        one,
        elim (cases_eq (slice_index starts 0) 0) [
          | inl z ↦ z
          | inr n ↦ absurd (omega (arith, (h.each 0 one).before 0 d (omega arith)))
        ],
      )

  -- the cell of a row's part
  pub cell_is : (k row : ℕ) → k < length cols → IsRowOfPart starts k row → get_or cells k record { place = 0; val = 0 } ≡ record { place = place_of row (slice_index cols k); val = slice_index vals k }
  cell_is k row l r =
      let d : Cell = record { place = 0; val = 0 } in
      let c : Cell = ordered_cell starts cols vals k in
      let at : get_or cells k d ≡ c = at_cells starts cols vals k d l in
      let inside : k < length cells = omega (arith, length_cells starts cols vals) in
      let low : row ≤ row_of c = subst (λ c. row ≤ row_of c) at ((h.each row r.begun).behind k d r.before inside) in
      let high : row_of c < row + 1 = elim (cases_lt (row + 1) (length starts)) [
        | inl b ↦ subst (λ c. row_of c < row + 1) at ((h.each (row + 1) b).before k d (r.behind b))
        | inr b ↦ omega (arith, subst (λ c. row_of c < length starts) at (All-get_or (λ c. row_of c < length starts) cells k d inside h.passed))
      ] in
      let narrow : slice_index cols k < 4294967296 = All-get_or (λ j. j < 4294967296) cols k 0 l h.narrow in
      let is : begun k starts - 1 ≡ row = omega arith in
      at ∙ ap (λ i. record { place = place_of i (slice_index cols k); val = slice_index vals k }) is

-- where there is no column there is no cell
pub cells_empty : (starts cols vals : List ℕ) → length cols ≡ 0 → ordered_cells starts cols vals ≡ []
unfolding ordered_cells
cells_empty starts cols vals none = ap (λ n. map (ordered_cell starts cols vals) (range_with_len 0 n)) none
