-- A matrix of which only the rows that have an entry are stored.
use Rattle.std.proofs.Common.{ℕ, zero, suc, ◌≡◌, ◌≢◌, ◌+◌, ◌<◌, ◌≤◌, inl, inr, Bool, true, false, List, [], ◌∷◌, ◌++◌, length, map, cond, eqb, replicate, slice_index, sym, refl, ap, ap₂, subst, ◌∙◌, arith}
use Rattle.std.specs.List.{range_with_len}
use Rattle.std.proofs.lemmas.Bool.{cases_eq, cases_lt, cond-true, cond-false, eq-eqb, false≢true, ne_eqb}
use Rattle.std.proofs.lemmas.List.{append-nil, append_assoc, get_or_append_left, get_or_past, get_or_push, length_push, replicate_more}
use Rattle.std.proofs.lemmas.List.FromFn.{get_or-map-range_with_len, length-map-range_with_len, map-range_with_len_more}
use Rattle.residue_words.specs.Matrix.{IsMatrix, IsVector, Matrix, entry, list_of, row, zeros}
use Rattle.residue_words.proofs.Sums.{sum_equal, sum_support}
use Rattle.residue_words.proofs.Vectors.{at_list_of, at_zeros, entry_matrix_of, entry_residue, is_matrix_of, length_list_of, list_of_equal, row_matrix_of, zeros_vector}
use Rattle.column_lists.specs.declared.sizes.TheConstants.{LARGEST_SIZE}
use Rattle.sparse_rows.specs.Placed.{AreNamed, IsPlaced, expanded, placed, row_among}
use Rattle.sparse_rows.specs.Rows.{AreEnough, AreOccupied, AreZeroFrom, IsNextFilled, entry_count, narrowed, nonzeros, support, transposed, widened, with_zeros}
use Rattle.column_lists.specs.Numbers.{AreRising}
use Rattle.sparse_rows.specs.Stored.{IsSparse, entry_at, spread, with_row}
use Rattle.sparse_rows.proofs.Loops.{length_zeros, row_before, row_last, sized}
use Rattle.column_lists.proofs.Occurrences.{contained, rising_push, among_or_not}
use Rattle.column_lists.proofs.Rising.{rising_short}
use Rattle.sparse_rows.proofs.Spread.{entry_cover, entry_here, entry_support, nonzeros_spread, sparse_none, spread_none, support_sparse, support_spread}
use Rattle.matrix_cells.proofs.Ordered.{map_range_equal}
use Rattle.column_lists.proofs.Exchanging.{turned}

-- at a row that is named stands its row
pub row_named : (A : Matrix) (k : ℕ) (rows : List ℕ) (t : ℕ) → AreRising rows → t < length rows → row_among A k rows (slice_index rows t) ≡ row A (k + t)
row_named A k [] t up l = absurd (omega arith)
row_named A k (r ∷ rs) zero up l = cond-true (eqb r r) _ _ (eq-eqb r r refl) ∙ ap (row A) (let e : k ≡ k + zero = omega arith in e)
row_named A k (r ∷ rs) (suc t) up l =
    let i : ℕ = slice_index rs t in
    cond-false (eqb r i) _ _ (ne_eqb r i (λ e. omega (arith, up 0 (suc t) (omega arith) l)))
    ∙ row_named A (k + 1) rs t (λ a b c d. up (suc a) (suc b) (omega arith) (omega arith)) (omega arith) ∙ ap (row A) (let e : k + 1 + t ≡ k + suc t = omega arith in e)

-- the same of all rows
pub row_at : (A : Matrix) (rows : List ℕ) (t : ℕ) → AreRising rows → t < length rows → row_among A 0 rows (slice_index rows t) ≡ row A t
row_at A rows t up l = row_named A 0 rows t up l ∙ ap (row A) (let e : 0 + t ≡ t = omega arith in e)

-- elsewhere stand zeros
pub row_unnamed : (A : Matrix) (k : ℕ) (rows : List ℕ) (i : ℕ) → ((t : ℕ) → t < length rows → slice_index rows t ≢ i) → row_among A k rows i ≡ zeros A.width
row_unnamed A k [] i n = refl
row_unnamed A k (r ∷ rs) i n = cond-false (eqb r i) _ _ (ne_eqb r i (n 0 (omega arith))) ∙ row_unnamed A (k + 1) rs i (λ t l. n (suc t) (omega arith))

-- the row at i
pub expanded_row : (m : ℕ) (rows : List ℕ) (A : Matrix) (i : ℕ) → i < m → row (expanded m rows A) i ≡ row_among A 0 rows i
expanded_row m rows A i l = get_or-map-range_with_len (row_among A 0 rows) 0 m i i [] l (omega arith)

-- zeros have no support
pub support_zeros : (n : ℕ) → support (zeros n) ≡ []
support_zeros n = ap support (sym (spread_none n [])) ∙ support_spread (sparse_none 1 n)

pub nonzeros_zeros : (n : ℕ) → nonzeros (zeros n) ≡ []
nonzeros_zeros n = ap nonzeros (sym (spread_none n [])) ∙ nonzeros_spread (sparse_none 1 n)

-- an entry of zeros is 0, also beyond them
pub zeros_at : (n j : ℕ) → slice_index (zeros n) j ≡ 0
zeros_at n j = elim (cases_lt j n) [ inl l ↦ at_zeros n j l | inr l ↦ get_or_past (zeros n) j 0 (omega (arith, length_zeros n)) ]

-- a row that has a nonzero entry has a support
pub support_has : (v : List ℕ) (j : ℕ) → slice_index v j ≢ 0 → 0 < length (support v)
support_has v j d = some (support v) (λ e. d (sym (entry_support v j) ∙ ap (λ cs. entry_at cs (nonzeros v) j) e))
  where
    some : (cs : List ℕ) → (cs ≢ []) → 0 < length cs
    some [] n = absurd (n refl)
    some (c ∷ cs) n = omega arith

-- and the other way round
pub has_entry : {p n : ℕ} {v : List ℕ} → IsVector p n v → 0 < length (support v) → (j : ℕ) × (j < n) × (slice_index v j ≢ 0)
has_entry {p} {n} {v} h l =
    let s : IsSparse p n (support v) (nonzeros v) = support_sparse h in
    let j : ℕ = slice_index (support v) 0 in
    let value : slice_index v j ≡ slice_index (nonzeros v) 0 = sym (entry_support v j) ∙ entry_here (support v) (nonzeros v) s.long s.rising 0 l in
    (j, s.below 0 l, λ e. omega (arith, s.positive 0 (omega (arith, s.long)), value))

-- what is made of each row is made of those that are stored, where zeros give zeros
pub expanded_rowwise : (m : ℕ) (rows : List ℕ) (A : Matrix) (n : ℕ) (g : List ℕ → List ℕ) → AreRising rows → length rows ≡ A.height → g (zeros A.width) ≡ zeros n →
    expanded m rows (sized A.height n (map (λ k. g (row A k)) (range_with_len 0 A.height))) ≡ sized m n (map (λ i. g (row (expanded m rows A) i)) (range_with_len 0 m))
expanded_rowwise m rows A n g up many none =
    let B : Matrix = sized A.height n (map (λ k. g (row A k)) (range_with_len 0 A.height)) in
    ap (sized m n) (map_range_equal (row_among B 0 rows) (λ i. g (row (expanded m rows A) i)) 0 m (λ i a l. elim (among_or_not rows i) [
      | inl w ↦ sym (ap (row_among B 0 rows) w.2) ∙ row_at B rows w.0 up w.1
          ∙ get_or-map-range_with_len (λ k. g (row A k)) 0 A.height w.0 w.0 [] (omega (arith, w.1)) (omega arith)
          ∙ ap g (sym (expanded_row m rows A i (omega arith) ∙ sym (ap (row_among A 0 rows) w.2) ∙ row_at A rows w.0 up w.1))
      | inr d ↦ row_unnamed B 0 rows i d ∙ sym none ∙ ap g (sym (expanded_row m rows A i (omega arith) ∙ row_unnamed A 0 rows i d))
    ]))

module _ (m : ℕ) (rows : List ℕ) (A : Matrix) (named : AreNamed m rows A) where
  abbrev E : Matrix
  E = expanded m rows A

  -- the row that is stored in place t
  pub at_row : (t : ℕ) → t < length rows → row E (slice_index rows t) ≡ row A t
  at_row t l = expanded_row m rows A (slice_index rows t) (named.below t l) ∙ row_at A rows t named.rising l

  -- and one that isn't stored
  pub off_rows : (i : ℕ) → i < m → ((t : ℕ) → t < length rows → slice_index rows t ≢ i) → row E i ≡ zeros A.width
  off_rows i l n = expanded_row m rows A i l ∙ row_unnamed A 0 rows i n

  pub expanded_sound : {p : ℕ} → 0 < p → IsMatrix p A → IsMatrix p E
  expanded_sound {p} pos s = record {
    len = length-map-range_with_len (row_among A 0 rows) 0 m;
    each = λ i l. elim (among_or_not rows i) [
      | inl w ↦ subst (λ k. IsVector p A.width (row E k)) w.2 (subst (IsVector p A.width) (sym (at_row w.0 w.1)) (s.each w.0 (omega (arith, w.1, named.many))))
      | inr n ↦ subst (IsVector p A.width) (sym (off_rows i l n)) (zeros_vector p A.width pos)
    ];
  }

  -- a row more, that has an entry
  pub expanded_push : {p : ℕ} (r : List ℕ) → IsMatrix p A → 0 < length (support r) →
      AreNamed (m + 1) (rows ++ m ∷ []) (with_row A r) × (expanded (m + 1) (rows ++ m ∷ []) (with_row A r) ≡ with_row E r)
  expanded_push {p} r s some =
      let B : Matrix = with_row A r in
      let more : List ℕ = rows ++ m ∷ [] in
      let up : AreRising more = rising_push rows m named.rising named.below in
      let old : (t : ℕ) → t < length rows → slice_index more t ≡ slice_index rows t = λ t l. get_or_append_left rows (m ∷ []) 0 t l in
      let new : slice_index more (length rows) ≡ m = get_or_push rows m 0 (length rows) refl in
      let long : length more ≡ length rows + 1 = length_push rows m in
      let last : row B (length rows) ≡ r = ap (row B) named.many ∙ row_last r s in (
        record {
          rising = up;
          below = λ k l. elim (cases_lt k (length rows)) [
            | inl b ↦ omega (arith, old k b, named.below k b)
            | inr b ↦ let e : k ≡ length rows = omega arith in omega (arith, ap (slice_index more) e, new)
          ];
          many = omega (arith, long, named.many);
          filled = λ k l. elim (cases_lt k (length rows)) [
            | inl b ↦ subst (λ v. 0 < length (support v)) (sym (row_before r s k (omega (arith, named.many)))) (named.filled k b)
            | inr b ↦ let e : k ≡ length rows = omega arith in subst (λ v. 0 < length (support v)) (sym (ap (row B) e ∙ last)) some
          ];
        },
        ap (sized (m + 1) A.width)
            (map-range_with_len_more (row_among B 0 more) 0 m m (omega arith)
            ∙ ap₂ (λ rs v. rs ++ v ∷ [])
            (map_range_equal (row_among B 0 more) (row_among A 0 rows) 0 m (λ i a l. elim (among_or_not rows i) [
              | inl w ↦ sym (ap (row_among B 0 more) (old w.0 w.1 ∙ w.2)) ∙ row_at B more w.0 up (omega (arith, w.1)) ∙ row_before r s w.0 (omega (arith, w.1, named.many))
                  ∙ sym (sym (ap (row_among A 0 rows) w.2) ∙ row_at A rows w.0 named.rising w.1)
              | inr n ↦ row_unnamed B 0 more i (λ t b e. elim (cases_lt t (length rows)) [
                | inl q ↦ n t q (sym (old t q) ∙ e)
                | inr q ↦ let same : t ≡ length rows = omega arith in omega (arith, ap (slice_index more) same, new)
              ]) ∙ sym (row_unnamed A 0 rows i n)
            ]))
            (sym (ap (row_among B 0 more) new) ∙ row_at B more (length rows) up (omega arith) ∙ last)),
      )

-- a row of zeros more
pub expanded_skip : (m : ℕ) (rows : List ℕ) (A : Matrix) → ((k : ℕ) → k < length rows → slice_index rows k < m) → expanded (m + 1) rows A ≡ with_row (expanded m rows A) (zeros A.width)
expanded_skip m rows A below =
    ap (sized (m + 1) A.width)
    (map-range_with_len_more (row_among A 0 rows) 0 m m (omega arith)
    ∙ ap (λ v. map (row_among A 0 rows) (range_with_len 0 m) ++ v ∷ []) (row_unnamed A 0 rows m (λ t l e. omega (arith, below t l))))

-- or many
pub expanded_zeros : (m : ℕ) (rows : List ℕ) (A : Matrix) → ((k : ℕ) → k < length rows → slice_index rows k < m) → (count : ℕ) →
    expanded (m + count) rows A ≡ with_zeros (expanded m rows A) count
expanded_zeros m rows A below zero =
    let E : Matrix = expanded m rows A in
    ap (λ t. expanded t rows A) (let e : m + zero ≡ m = omega arith in e) ∙ ap₂ (λ h rs. sized h A.width rs) (let e : m ≡ m + zero = omega arith in e) (sym (append-nil E.rows))
expanded_zeros m rows A below (suc count) =
    let E : Matrix = expanded m rows A in
    let z : List ℕ = zeros A.width in
    ap (λ t. expanded t rows A) (let e : m + suc count ≡ m + count + 1 = omega arith in e) ∙ expanded_skip (m + count) rows A (λ k l. omega (arith, below k l))
    ∙ ap (λ M. with_row M z) (expanded_zeros m rows A below count)
    ∙ ap₂ (λ h rs. sized h A.width rs) (let e : m + count + 1 ≡ m + suc count = omega arith in e)
    (append_assoc E.rows (replicate count z) (z ∷ []) ∙ ap (λ t. E.rows ++ t) (replicate_more count z ∙ ap (λ t. replicate t z) (let e : count + 1 ≡ suc count = omega arith in e)))

-- rows named stay so when more rows follow
pub named_higher : (m h : ℕ) (rows : List ℕ) (A : Matrix) → AreNamed m rows A → m ≤ h → AreNamed h rows A
named_higher m h rows A n l = record { rising = n.rising; below = λ k b. omega (arith, n.below k b); many = n.many; filled = n.filled }

module _ (m : ℕ) (rows : List ℕ) (A : Matrix) (named : AreNamed m rows A) where
  -- the entries of all rows are those that are stored
  pub expanded_entries : entry_count (expanded m rows A) ≡ entry_count A
  expanded_entries =
      let f : ℕ → ℕ = λ i. length (support (row (expanded m rows A) i)) in
      sum_support m A.height f (slice_index rows) (λ k l. named.below k (omega (arith, named.many))) (λ k t a b. named.rising k t a (omega (arith, named.many)))
      (λ i l. elim (among_or_not rows i) [
        | inl w ↦ inr (w.0, omega (arith, w.1, named.many), w.2)
        | inr n ↦ inl (ap (λ v. length (support v)) (off_rows m rows A named i l n) ∙ ap length (support_zeros A.width))
      ])
      ∙ sum_equal A.height _ _ (λ k l. ap (λ v. length (support v)) (at_row m rows A named k (omega (arith, named.many))))

  -- the first row named from `from` on
  pub next_named : (from k : ℕ) → k < length rows → from ≤ slice_index rows k → ((t : ℕ) → t < k → slice_index rows t < from) → IsNextFilled (expanded m rows A) from (slice_index rows k)
  next_named from k l low before = record {
    low = low;
    below = named.below k l;
    filled = subst (λ v. 0 < length (support v)) (sym (at_row m rows A named k l)) (named.filled k l);
    between = λ i a b. ap support (off_rows m rows A named i (omega (arith, named.below k l)) (λ t q e. elim (cases_lt t k) [
      | inl s ↦ omega (arith, before t s)
      | inr s ↦ elim (cases_eq k t) [
        | inl u ↦ omega (arith, ap (slice_index rows) u)
        | inr u ↦ omega (arith, named.rising k t (omega arith) q)
      ]
    ])) ∙ support_zeros A.width;
  }

  -- or none
  pub none_named : (from : ℕ) → ((t : ℕ) → t < length rows → slice_index rows t < from) → AreZeroFrom (expanded m rows A) from
  none_named from before = λ i a b. ap support (off_rows m rows A named i b (λ t q e. omega (arith, before t q))) ∙ support_zeros A.width

  -- the columns in which they have entries
  pub expanded_enough : (columns : List ℕ) → AreEnough A columns → AreEnough (expanded m rows A) columns
  expanded_enough columns enough = record {
    rising = enough.rising;
    below = enough.below;
    all = λ i j l b d. elim (among_or_not rows i) [
      | inl w ↦ enough.all w.0 j (omega (arith, w.1, named.many)) b (λ e. d (sym (ap (λ k. entry (expanded m rows A) k j) w.2) ∙ ap (λ v. slice_index v j) (at_row m rows A named w.0 w.1) ∙ e))
      | inr n ↦ absurd (d (ap (λ v. slice_index v j) (off_rows m rows A named i l n) ∙ zeros_at A.width j))
    ];
  }

  pub enough_stored : (columns : List ℕ) → AreEnough (expanded m rows A) columns → AreEnough A columns
  enough_stored columns enough = record {
    rising = enough.rising;
    below = enough.below;
    all = λ t j l b d. enough.all (slice_index rows t) j (named.below t (omega (arith, named.many))) b (λ e. d (ap (λ v. slice_index v j) (sym (at_row m rows A named t (omega (arith, named.many)))) ∙ e));
  }

  pub expanded_occupied : (columns : List ℕ) → AreOccupied A columns → AreOccupied (expanded m rows A) columns
  expanded_occupied columns o = record {
    enough = expanded_enough columns o.enough;
    occupied = λ k l.
        let w = o.occupied k l in
        let q : w.0 < length rows = omega (arith, w.1, named.many) in
        (slice_index rows w.0, named.below w.0 q, λ e. w.2 (ap (λ v. slice_index v (slice_index columns k)) (sym (at_row m rows A named w.0 q)) ∙ e));
  }

  -- narrowed to columns that hold all entries
  pub expanded_narrowed : {p : ℕ} (columns : List ℕ) → IsMatrix p A → AreEnough A columns →
      AreNamed m rows (narrowed A columns) × (expanded m rows (narrowed A columns) ≡ narrowed (expanded m rows A) columns)
  expanded_narrowed {p} columns s enough = (
    record {
      rising = named.rising;
      below = named.below;
      many = named.many;
      filled = λ k l.
          let low : k < A.height = omega (arith, named.many) in
          let w = has_entry (s.each k low) (named.filled k l) in
          let c = contained columns w.0 (enough.all k w.0 low w.1 w.2) in
          support_has (row (narrowed A columns) k) c.0
          (λ e. w.2 (ap (entry A k) (sym c.2) ∙ sym (entry_matrix_of A.height (length columns) (λ i t. entry A i (slice_index columns t)) k c.0 low c.1) ∙ e));
    },
    expanded_rowwise m rows A (length columns) (λ v. list_of (length columns) (λ k. slice_index v (slice_index columns k))) named.rising named.many
        (list_of_equal (length columns) _ (λ j. 0) (λ k l. zeros_at A.width (slice_index columns k))),
  )

  -- with the columns moved
  pub expanded_widened : {p : ℕ} (n : ℕ) (columns : List ℕ) → IsMatrix p A → length columns ≡ A.width → AreRising columns → ((k : ℕ) → k < length columns → slice_index columns k < n) →
      AreNamed m rows (widened A n columns) × (expanded m rows (widened A n columns) ≡ widened (expanded m rows A) n columns)
  expanded_widened {p} n columns s many up below = (
    record {
      rising = named.rising;
      below = named.below;
      many = named.many;
      filled = λ k l.
          let low : k < A.height = omega (arith, named.many) in
          let w = has_entry (s.each k low) (named.filled k l) in
          let q : w.0 < length columns = omega (arith, w.1) in
          support_has (row (widened A n columns) k) (slice_index columns w.0)
          (λ e. w.2 (sym (entry_matrix_of A.height n (λ i. entry_at columns (row A i)) k (slice_index columns w.0) low (below w.0 q) ∙ entry_here columns (row A k) (many ∙ sym (s.each k low).len) up w.0 q) ∙ e));
    },
    expanded_rowwise m rows A n (λ v. list_of n (entry_at columns v)) named.rising named.many
        (list_of_equal n _ (λ j. 0) (λ j l. elim (entry_cover columns (zeros A.width) j) [
          | inl z ↦ z
          | inr w ↦ ap (entry_at columns (zeros A.width)) (sym w.2) ∙ entry_here columns (zeros A.width) (many ∙ sym (length_zeros A.width)) up w.0 w.1 ∙ zeros_at A.width w.0
        ])),
  )

  -- the transposed matrix has columns where the rows stand
  pub transposed_expanded : widened (transposed A) m rows ≡ transposed (expanded m rows A)
  transposed_expanded =
      let column : ℕ → List ℕ = λ j. list_of A.height (λ k. entry A k j) in
      ap (sized A.width m) (map_range_equal (λ j. list_of m (entry_at rows (row (transposed A) j))) (λ j. list_of m (λ i. entry (expanded m rows A) i j)) 0 A.width (λ j a l.
      ap (λ v. list_of m (entry_at rows v)) (row_matrix_of A.width A.height (λ j k. entry A k j) j (omega arith))
      ∙ list_of_equal m (entry_at rows (column j)) (λ i. entry (expanded m rows A) i j) (λ i b. elim (among_or_not rows i) [
        | inl w ↦ ap (entry_at rows (column j)) (sym w.2) ∙ entry_here rows (column j) (named.many ∙ sym (length_list_of A.height _)) named.rising w.0 w.1
            ∙ at_list_of A.height (λ k. entry A k j) w.0 (omega (arith, w.1, named.many)) ∙ ap (λ v. slice_index v j) (sym (at_row m rows A named w.0 w.1)) ∙ ap (λ k. entry (expanded m rows A) k j) w.2
        | inr n ↦ elim (entry_cover rows (column j) i) [
          | inl z ↦ z ∙ sym (ap (λ v. slice_index v j) (off_rows m rows A named i b n) ∙ zeros_at A.width j)
          | inr w ↦ absurd (n w.0 w.1 w.2)
        ]
      ])))

-- and the rows of the transposed matrix are those of the columns that occur
pub transposed_narrowed : (A : Matrix) (columns : List ℕ) → AreOccupied A columns →
    AreNamed A.width columns (transposed (narrowed A columns)) × (expanded A.width columns (transposed (narrowed A columns)) ≡ transposed A)
transposed_narrowed A columns o =
    let w : ℕ = length columns in
    let T : Matrix = transposed (narrowed A columns) in
    let cut : (t : ℕ) → t < w → row T t ≡ list_of A.height (λ i. entry A i (slice_index columns t)) = λ t l.
    row_matrix_of w A.height (λ j i. entry (narrowed A columns) i j) t l ∙ list_of_equal A.height _ _ (λ i b. entry_matrix_of A.height w (λ i k. entry A i (slice_index columns k)) i t b l) in (
      record {
        rising = o.enough.rising;
        below = o.enough.below;
        many = refl;
        filled = λ t l.
            let q = o.occupied t l in
            support_has (row T t) q.0 (λ e. q.2 (sym (ap (λ v. slice_index v q.0) (cut t l) ∙ at_list_of A.height (λ i. entry A i (slice_index columns t)) q.0 q.1) ∙ e));
      },
      ap (sized A.width A.height) (map_range_equal (row_among T 0 columns) (λ j. list_of A.height (λ i. entry A i j)) 0 A.width (λ j a l. elim (among_or_not columns j) [
        | inl q ↦ ap (row_among T 0 columns) (sym q.2) ∙ row_at T columns q.0 o.enough.rising q.1 ∙ cut q.0 q.1 ∙ ap (λ t. list_of A.height (λ i. entry A i t)) q.2
        | inr n ↦ row_unnamed T 0 columns j n ∙ list_of_equal A.height (λ k. 0) (λ i. entry A i j) (λ i b. sym (elim (cases_eq (entry A i j) 0) [
          | inl e ↦ e
          | inr d ↦ let c = contained columns j (o.enough.all i j b (omega arith) d) in absurd (n c.0 c.1 c.2)
        ]))
      ])),
    )

-- both ways to store: how high the matrix is
pub placed_height : (b : Bool) (m : ℕ) (rows : List ℕ) (A : Matrix) → IsPlaced b m rows A → (placed b m rows A).height ≡ m
placed_height true m rows A h = sym h.1
placed_height false m rows A h = refl

-- how wide
pub placed_width : (b : Bool) (m : ℕ) (rows : List ℕ) (A : Matrix) → (placed b m rows A).width ≡ A.width
placed_width true m rows A = refl
placed_width false m rows A = refl

-- it is a matrix of residues
pub placed_sound : (b : Bool) (m : ℕ) (rows : List ℕ) (A : Matrix) {p : ℕ} → 0 < p → IsMatrix p A → IsPlaced b m rows A → IsMatrix p (placed b m rows A)
placed_sound true m rows A pos s h = s
placed_sound false m rows A pos s h = expanded_sound m rows A h.1 pos s

-- its entries
pub placed_entries : (b : Bool) (m : ℕ) (rows : List ℕ) (A : Matrix) → IsPlaced b m rows A → entry_count (placed b m rows A) ≡ entry_count A
placed_entries true m rows A h = refl
placed_entries false m rows A h = expanded_entries m rows A h.1

-- its columns
pub placed_occupied : (b : Bool) (m : ℕ) (rows : List ℕ) (A : Matrix) (columns : List ℕ) → IsPlaced b m rows A → AreOccupied A columns → AreOccupied (placed b m rows A) columns
placed_occupied true m rows A columns h o = o
placed_occupied false m rows A columns h o = expanded_occupied m rows A h.1 columns o

pub placed_enough : (b : Bool) (m : ℕ) (rows : List ℕ) (A : Matrix) (columns : List ℕ) → IsPlaced b m rows A → AreEnough (placed b m rows A) columns → AreEnough A columns
placed_enough true m rows A columns h o = o
placed_enough false m rows A columns h o = enough_stored m rows A h.1 columns o

-- narrowed
pub placed_narrowed : (b : Bool) (m : ℕ) (rows : List ℕ) (A : Matrix) {p : ℕ} (columns : List ℕ) → IsMatrix p A → IsPlaced b m rows A → AreEnough A columns →
    IsPlaced b m rows (narrowed A columns) × (placed b m rows (narrowed A columns) ≡ narrowed (placed b m rows A) columns)
placed_narrowed true m rows A columns s h enough = (h, refl)
placed_narrowed false m rows A columns s h enough = let q = expanded_narrowed m rows A h.1 columns s enough in ((h.0, q.0), q.1)

-- widened
pub placed_widened : (b : Bool) (m : ℕ) (rows : List ℕ) (A : Matrix) {p : ℕ} (n : ℕ) (columns : List ℕ) → IsMatrix p A → IsPlaced b m rows A →
    length columns ≡ A.width → AreRising columns → ((k : ℕ) → k < length columns → slice_index columns k < n) →
    IsPlaced b m rows (widened A n columns) × (placed b m rows (widened A n columns) ≡ widened (placed b m rows A) n columns)
placed_widened true m rows A n columns s h many up below = (h, refl)
placed_widened false m rows A n columns s h many up below = let q = expanded_widened m rows A h.1 n columns s many up below in ((h.0, q.0), q.1)

-- the row that is stored in this place
pub listed_row : (b : Bool) (m : ℕ) (rows : List ℕ) (A V : Matrix) → b ≡ false → IsPlaced b m rows A → placed b m rows A ≡ V → (i place : ℕ) → place < length rows → slice_index rows place ≡ i →
    row V i ≡ row A place
listed_row true m rows A V e h v i place l q = absurd (false≢true (sym e))
listed_row false m rows A V e h v i place l q = ap (λ M. row M i) (sym v) ∙ ap (row (expanded m rows A)) (sym q) ∙ at_row m rows A h.1 place l

-- and one that isn't stored
pub unlisted_row : (b : Bool) (m : ℕ) (rows : List ℕ) (A V : Matrix) → b ≡ false → IsPlaced b m rows A → placed b m rows A ≡ V → (i : ℕ) → i < V.height → ((t : ℕ) → t < length rows → slice_index rows t ≢ i) →
    row V i ≡ zeros A.width
unlisted_row true m rows A V e h v i l n = absurd (false≢true (sym e))
unlisted_row false m rows A V e h v i l n = ap (λ M. row M i) (sym v) ∙ off_rows m rows A h.1 i (omega (arith, ap (λ M. M.height) v)) n

-- the rows that are listed
pub listed : (b : Bool) (m : ℕ) (rows : List ℕ) (A : Matrix) → b ≡ false → IsPlaced b m rows A → (m ≤ LARGEST_SIZE) × AreNamed m rows A
listed true m rows A e h = absurd (false≢true (sym e))
listed false m rows A e h = h

-- and what they stand for
pub listed_is : (b : Bool) (m : ℕ) (rows : List ℕ) (A : Matrix) → b ≡ false → placed b m rows A ≡ expanded m rows A
listed_is true m rows A e = absurd (false≢true (sym e))
listed_is false m rows A e = refl

-- back to the two ways
pub listed_placed : (b : Bool) (m : ℕ) (rows : List ℕ) (A : Matrix) → b ≡ false → m ≤ LARGEST_SIZE → AreNamed m rows A → IsPlaced b m rows A
listed_placed true m rows A e l h = absurd (false≢true (sym e))
listed_placed false m rows A e l h = (l, h)

-- the transposed matrix, where each row is to be stored
pub transposed_placed : (b : Bool) (m : ℕ) (rows : List ℕ) (A M : Matrix) → IsPlaced b m rows A → M ≡ cond b (transposed A) (widened (transposed A) m rows) → M ≡ transposed (placed b m rows A)
transposed_placed true m rows A M h e = e
transposed_placed false m rows A M h e = e ∙ transposed_expanded m rows A h.1

-- and where those are that have an entry
pub transposed_listed : (b : Bool) (m : ℕ) (rows : List ℕ) (A M : Matrix) {p : ℕ} (columns : List ℕ) → IsMatrix p (transposed (narrowed A columns)) → IsPlaced b m rows A → AreOccupied A columns →
    M ≡ cond b (transposed (narrowed A columns)) (widened (transposed (narrowed A columns)) m rows) →
    AreNamed A.width columns M × (expanded A.width columns M ≡ transposed (placed b m rows A))
transposed_listed true m rows A M columns s h o e = rw e (transposed_narrowed A columns o)
transposed_listed false m rows A M columns s h o e =
    let t = transposed_narrowed A columns o in
    let w = expanded_widened A.width columns (transposed (narrowed A columns)) t.0 m rows s h.1.many h.1.rising h.1.below in
    rw e (w.0, w.1 ∙ ap (λ T. widened T m rows) t.1 ∙ transposed_expanded m rows A h.1)

-- how high it can be
pub placed_small : (b : Bool) (m : ℕ) (rows : List ℕ) (A : Matrix) → IsPlaced b m rows A → m ≤ LARGEST_SIZE
placed_small true m rows A h = h.0
placed_small false m rows A h = h.0

-- what is stored, as it is read
pub placed_read : (b : Bool) (m : ℕ) (rows rows' : List ℕ) (A A' : Matrix) → rows' ≡ rows → A' ≡ A → IsPlaced b m rows A → IsPlaced b m rows' A'
placed_read b m rows rows' A A' er ea h = rw (er, ea) h

-- the next row listed
pub listed_next : (b : Bool) (m : ℕ) (rows : List ℕ) (A V : Matrix) → b ≡ false → IsPlaced b m rows A → placed b m rows A ≡ V → (from place : ℕ) → place < length rows →
    ((t : ℕ) → t < place → slice_index rows t < from) → ((t : ℕ) → place ≤ t → t < length rows → from ≤ slice_index rows t) → IsNextFilled V from (slice_index rows place)
listed_next true m rows A V e h v from place l before behind = absurd (false≢true (sym e))
listed_next false m rows A V e h v from place l before behind =
    subst (λ M. IsNextFilled M from (slice_index rows place)) v (next_named m rows A h.1 from place l (behind place (omega arith) l) before)

-- or none
pub listed_none : (b : Bool) (m : ℕ) (rows : List ℕ) (A V : Matrix) → b ≡ false → IsPlaced b m rows A → placed b m rows A ≡ V → (from place : ℕ) → length rows ≤ place →
    ((t : ℕ) → t < place → slice_index rows t < from) → AreZeroFrom V from
listed_none true m rows A V e h v from place l before = absurd (false≢true (sym e))
listed_none false m rows A V e h v from place l before = subst (λ M. AreZeroFrom M from) v (none_named m rows A h.1 from (λ t b. before t (omega arith)))

-- an empty row more
pub listed_skip : (b : Bool) (m : ℕ) (rows : List ℕ) (A V : Matrix) → b ≡ false → IsPlaced b m rows A → placed b m rows A ≡ V → (cs vs : List ℕ) → length cs ≡ 0 →
    placed b (m + 1) rows A ≡ with_row V (spread V.width cs vs)
listed_skip true m rows A V e h v cs vs l = absurd (false≢true (sym e))
listed_skip false m rows A V e h v (c ∷ cs) vs l = absurd (omega arith)
listed_skip false m rows A V e h v [] vs l =
    expanded_skip m rows A h.1.below ∙ ap (with_row (expanded m rows A)) (sym (spread_none A.width vs)) ∙ ap (λ M. with_row M (spread M.width [] vs)) v

-- empty rows more
pub listed_zeros : (b : Bool) (m : ℕ) (rows : List ℕ) (A V : Matrix) → b ≡ false → IsPlaced b m rows A → placed b m rows A ≡ V → (count : ℕ) → placed b (m + count) rows A ≡ with_zeros V count
listed_zeros true m rows A V e h v count = absurd (false≢true (sym e))
listed_zeros false m rows A V e h v count = expanded_zeros m rows A h.1.below count ∙ ap (λ M. with_zeros M count) v

pub listed_higher : (b : Bool) (m count : ℕ) (rows : List ℕ) (A : Matrix) → b ≡ false → IsPlaced b m rows A → m + count ≤ LARGEST_SIZE → IsPlaced b (m + count) rows A
listed_higher true m count rows A e h l = absurd (false≢true (sym e))
listed_higher false m count rows A e h l = (l, named_higher m (m + count) rows A h.1 (omega arith))

-- fewer rows are stored than the matrix has
pub listed_few : (b : Bool) (m : ℕ) (rows : List ℕ) (A : Matrix) → b ≡ false → IsPlaced b m rows A → A.height ≤ m
listed_few true m rows A e h = absurd (false≢true (sym e))
listed_few false m rows A e h = omega (arith, rising_short rows m h.1.rising h.1.below, h.1.many)

-- a row more, that has an entry
pub listed_push : (b : Bool) (m : ℕ) (rows rows' : List ℕ) (A A' V : Matrix) {p q : ℕ} (cs vs : List ℕ) → b ≡ false → IsMatrix p A → IsPlaced b m rows A → placed b m rows A ≡ V → m < LARGEST_SIZE →
    IsSparse q V.width cs vs → (length cs ≢ 0) → rows' ≡ rows ++ m ∷ [] → A' ≡ with_row A (spread A.width cs vs) →
    IsPlaced b (m + 1) rows' A' × (placed b (m + 1) rows' A' ≡ with_row V (spread V.width cs vs))
listed_push true m rows rows' A A' V cs vs e s h v l sparse some er ea = absurd (false≢true (sym e))
listed_push false m rows rows' A A' V {p} {q} cs vs e s h v l sparse some er ea =
    let w : V.width ≡ A.width = ap (λ M. M.width) (sym v) in
    let r : List ℕ = spread A.width cs vs in
    let here : IsSparse q A.width cs vs = subst (λ n. IsSparse q n cs vs) w sparse in
    let more = expanded_push m rows A h.1 r s (omega (arith, ap length (support_spread here))) in
    rw (er, ea) ((omega arith, more.0), more.1 ∙ ap (λ M. with_row M r) v ∙ ap (λ n. with_row V (spread n cs vs)) (sym w))

-- the transposed and narrowed matrix is one of residues
pub turned_sound : {p : ℕ} {A : Matrix} (columns : List ℕ) → IsMatrix p A → AreOccupied A columns → IsMatrix p (transposed (narrowed A columns))
turned_sound {p} {A} columns s o =
    is_matrix_of p (length columns) A.height (λ j i. entry (narrowed A columns) i j) (λ j i a b.
    omega (arith, entry_matrix_of A.height (length columns) (λ i k. entry A i (slice_index columns k)) i j b a, entry_residue p A s i (slice_index columns j) b (o.enough.below j a)))

-- a column has at most as many entries as there are rows
pub column_short : {p : ℕ} {A : Matrix} → IsMatrix p A → (j : ℕ) → j < A.width → length (support (row (transposed A) j)) ≤ A.height
column_short {p} {A} m j l =
    let turned : IsMatrix p (transposed A) = is_matrix_of p A.width A.height (λ j i. entry A i j) (λ j i a b. entry_residue p A m i j b a) in
    let s : IsSparse p A.height (support (row (transposed A) j)) (nonzeros (row (transposed A) j)) = support_sparse (turned.each j l) in
    rising_short (support (row (transposed A) j)) A.height s.rising s.below

-- what a test for an empty list says
pub empty_length : (n : ℕ) (b : Bool) → b ≡ eqb n 0 → b ≡ true → n ≡ 0
empty_length n b e t = elim (cases_eq n 0) [ inl z ↦ z | inr d ↦ absurd (false≢true (sym (ne_eqb n 0 d) ∙ sym e ∙ t)) ]

pub filled_length : (n : ℕ) (b : Bool) → b ≡ eqb n 0 → b ≡ false → n ≢ 0
filled_length n b e f z = false≢true (sym f ∙ e ∙ eq-eqb n 0 z)
