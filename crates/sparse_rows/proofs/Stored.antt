-- Rows one after another in one list, and the matrix that they stand for.
use Rattle.std.proofs.Common.{ℕ, zero, suc, ◌≡◌, ◌+◌, ◌-◌, ◌<◌, ◌≤◌, inl, inr, List, [], ◌∷◌, ◌++◌, length, map, slice_index, sym, ap, ap₂, subst, ◌∙◌, arith}
use Rattle.std.specs.List.{range_with_len}
use Rattle.std.proofs.lemmas.List.{length-append, length_push}
use Rattle.std.proofs.lemmas.List.FromFn.{get_or-map-range_with_len, length-map-range_with_len, map-range_with_len_more}
use Rattle.std.proofs.lemmas.Bool.{cases_lt}
use Rattle.residue_words.specs.Matrix.{IsMatrix, Matrix, row}
use Rattle.residue_words.specs.Residues.{sum_below}
use Rattle.residue_words.proofs.Sums.{sum_more, sum_none}
use Rattle.sparse_rows.specs.Rows.{entry_count, nonzeros, support}
use Rattle.column_lists.specs.Parts.{AreStarts, part}
use Rattle.sparse_rows.specs.Stored.{IsSparse, IsStored, spread, stored_matrix, stored_row, with_row}
use Rattle.matrix_cells.proofs.Ordered.{map_range_equal}
use Rattle.sparse_rows.proofs.Spread.{nonzeros_spread, spread_vector, support_spread}
use Rattle.column_lists.proofs.Parts.{starts_below, length_part, part_before, part_end, starts_push}

-- the matrix of this size with these rows
abbrev sized : ℕ → ℕ → List (List ℕ) → Matrix
sized h w r = record { height = h; width = w; rows = r }

-- the number of rows that are stored, and one more
height_is : {p n : ℕ} {starts cs vs : List ℕ} → IsStored p n starts cs vs → length starts ≡ (length starts - 1) + 1
height_is s = s.parts.long

-- a start more makes one row more
height_more : (starts : List ℕ) (e : ℕ) → length (starts ++ e ∷ []) - 1 ≡ length starts
height_more starts e = omega (arith, length_push starts e)

-- the parts of the values
pub value_parts : {p n : ℕ} {starts cs vs : List ℕ} → IsStored p n starts cs vs → AreStarts (length starts - 1) (length vs) starts
value_parts {p} {n} {starts} {cs} {vs} s = subst (λ t. AreStarts (length starts - 1) t starts) s.long s.parts

module _ (p n : ℕ) (starts cs vs : List ℕ) (stored : IsStored p n starts cs vs) (cs' vs' : List ℕ) (row_stored : IsSparse p n cs' vs') where
  ends : List ℕ
  ends = starts ++ length (cs ++ cs') ∷ []

  -- both lists end together
  ends_values : starts ++ length (vs ++ vs') ∷ [] ≡ ends
  unfolding ends
  ends_values = ap (λ e. starts ++ e ∷ []) (omega (arith, length-append vs vs', length-append cs cs', stored.long, row_stored.long))

  earlier_columns : (i : ℕ) → i < length starts - 1 → part ends (cs ++ cs') i ≡ part starts cs i
  unfolding ends
  earlier_columns i l = part_before starts cs cs' (length (cs ++ cs')) i (omega arith) (stored.parts.rising i l) (starts_below stored.parts (i + 1) (omega arith))

  earlier_values : (i : ℕ) → i < length starts - 1 → part ends (vs ++ vs') i ≡ part starts vs i
  unfolding ends
  earlier_values i l =
      part_before starts vs vs' (length (cs ++ cs')) i (omega arith) (stored.parts.rising i l) (starts_below (value_parts stored) (i + 1) (omega arith))

  end_columns : part ends (cs ++ cs') (length starts - 1) ≡ cs'
  unfolding ends
  end_columns = part_end starts cs cs' (length starts - 1) (height_is stored) stored.parts.last

  end_values : part ends (vs ++ vs') (length starts - 1) ≡ vs'
  end_values =
      ap (λ e. part e (vs ++ vs') (length starts - 1)) (sym ends_values)
      ∙ part_end starts vs vs' (length starts - 1) (height_is stored) (value_parts stored).last

  -- one row more is stored
  pub stored_push : length starts ≤ 2147483648 → IsStored p n (starts ++ length (cs ++ cs') ∷ []) (cs ++ cs') (vs ++ vs')
  unfolding ends
  stored_push small = record {
    height_small = omega (arith, length_push starts (length (cs ++ cs')));
    width_small = stored.width_small;
    two_or_more = stored.two_or_more;
    in_range = stored.in_range;
    parts = subst (λ h. AreStarts h (length (cs ++ cs')) ends) (omega (arith, height_more starts (length (cs ++ cs')), height_is stored)) (starts_push (length starts - 1) starts cs cs' stored.parts);
    long = omega (arith, length-append vs vs', length-append cs cs', stored.long, row_stored.long);
    each = λ i l. elim (cases_lt i (length starts - 1)) [
      | inl b ↦ rw (earlier_columns i b, earlier_values i b) (stored.each i b)
      | inr b ↦
          let last : i ≡ length starts - 1 = omega (arith, height_more starts (length (cs ++ cs'))) in
          subst (λ k. IsSparse p n (part ends (cs ++ cs') k) (part ends (vs ++ vs') k)) (sym last) (rw (end_columns, end_values) row_stored)
    ];
  }

  -- and the matrix has this row more
  rows_push : (stored_matrix n (starts ++ length (cs ++ cs') ∷ []) (cs ++ cs') (vs ++ vs')).rows ≡ (stored_matrix n starts cs vs).rows ++ spread n cs' vs' ∷ []
  unfolding ends stored_row
  rows_push =
      let h : ℕ = length starts - 1 in
      let old : ℕ → List ℕ = stored_row n starts cs vs in
      let new : ℕ → List ℕ = stored_row n ends (cs ++ cs') (vs ++ vs') in
      ap (λ k. map new (range_with_len 0 k)) (omega (arith, height_more starts (length (cs ++ cs')), height_is stored))
      ∙ map-range_with_len_more new 0 h h (omega arith)
      ∙ ap₂ (λ r s. r ++ s ∷ [])
      (map_range_equal new old 0 h (λ j a b. ap₂ (spread n) (earlier_columns j (omega arith)) (earlier_values j (omega arith))))
      (ap₂ (spread n) end_columns end_values)

  pub matrix_push : stored_matrix n (starts ++ length (cs ++ cs') ∷ []) (cs ++ cs') (vs ++ vs') ≡ with_row (stored_matrix n starts cs vs) (spread n cs' vs')
  matrix_push =
      ap₂ (λ h r. sized h n r) (omega (arith, height_more starts (length (cs ++ cs')), height_is stored)) rows_push

-- the row at i
pub row_stored : (n : ℕ) (starts cs vs : List ℕ) (i : ℕ) → i < length starts - 1 → row (stored_matrix n starts cs vs) i ≡ stored_row n starts cs vs i
row_stored n starts cs vs i l = get_or-map-range_with_len (stored_row n starts cs vs) 0 (length starts - 1) i i [] l (omega arith)

-- its support and its nonzero entries are what is stored
pub support_stored : {p n : ℕ} {starts cs vs : List ℕ} → IsStored p n starts cs vs → (i : ℕ) → i < length starts - 1 → support (row (stored_matrix n starts cs vs) i) ≡ part starts cs i
unfolding stored_row
support_stored {p} {n} {starts} {cs} {vs} s i l = ap support (row_stored n starts cs vs i l) ∙ support_spread (s.each i l)

-- and its nonzero entries what is stored beside it
pub nonzeros_stored : {p n : ℕ} {starts cs vs : List ℕ} → IsStored p n starts cs vs → (i : ℕ) → i < length starts - 1 → nonzeros (row (stored_matrix n starts cs vs) i) ≡ part starts vs i
unfolding stored_row
nonzeros_stored {p} {n} {starts} {cs} {vs} s i l = ap nonzeros (row_stored n starts cs vs i l) ∙ nonzeros_spread (s.each i l)

-- it is a matrix of residues
pub stored_sound : {p n : ℕ} {starts cs vs : List ℕ} → IsStored p n starts cs vs → IsMatrix p (stored_matrix n starts cs vs)
unfolding stored_row
stored_sound {p} {n} {starts} {cs} {vs} s = record {
  len = length-map-range_with_len (stored_row n starts cs vs) 0 (length starts - 1);
  each = λ i l. rw (row_stored n starts cs vs i l) (spread_vector (omega (arith, s.two_or_more)) (s.each i l));
}

-- the lengths of the supports up to row k
entries_until : {p n : ℕ} {starts cs vs : List ℕ} → IsStored p n starts cs vs → (k : ℕ) → k ≤ length starts - 1 →
    sum_below k (λ i. length (support (row (stored_matrix n starts cs vs) i))) ≡ slice_index starts k
entries_until {p} {n} {starts} {cs} {vs} s zero l = sum_none _ ∙ sym s.parts.first
entries_until {p} {n} {starts} {cs} {vs} s (suc k) l =
    let f : ℕ → ℕ = λ i. length (support (row (stored_matrix n starts cs vs) i)) in
    let more : sum_below (k + 1) f ≡ sum_below k f + f k = sum_more k f in
    omega (
      arith,
      more,
      entries_until s k (omega arith),
      ap length (support_stored s k (omega arith)),
      length_part cs s.parts k (omega arith),
      ap (λ t. sum_below t f) (let e : suc k ≡ k + 1 = omega arith in e),
      ap (slice_index starts) (let e : suc k ≡ k + 1 = omega arith in e),
    )

-- all supports together
pub entry_count_stored : {p n : ℕ} {starts cs vs : List ℕ} → IsStored p n starts cs vs → entry_count (stored_matrix n starts cs vs) ≡ length cs
entry_count_stored {p} {n} {starts} {cs} {vs} s = entries_until s (length starts - 1) (omega arith) ∙ s.parts.last
