-- The factors that are gathered from an eliminated block.
use Rattle.std.proofs.Common.{ℕ, ◌≡◌, ◌≢◌, ◌+◌, ◌-◌, ◌<◌, ◌≤◌, inl, inr, List, [], ◌∷◌, ◌++◌, length, map, replicate, slice_index, take, sym, refl, ap, ap₂, subst, ◌∙◌, arith, length-append}
use Rattle.std.proofs.Math.ListN.{get_or-append}
use Rattle.std.proofs.Math.Seq.{get_or-append_seam}
use Rattle.std.proofs.lemmas.Bool.{cases_eq, cases_lt}
use Rattle.std.proofs.lemmas.List.{get_or_append_left, get_or-append_right, get_or-replicate, get_or-take, length-map, length-replicate, length-take, length-take-le, map-append}
use Rattle.residue_words.specs.declared.plain.Pair.{Pair}
use Rattle.residue_words.specs.Matrix.{Matrix, IsMatrix, IsVector, entry, row, zeros}
use Rattle.residue_words.proofs.Vectors.{at_zeros, zeros_vector}
use Rattle.sparse_rows.specs.Rows.{AreRising, ResidueMatrix, with_zeros}
use Rattle.sparse_rows.specs.Stored.{with_row}
use Rattle.dense_rows.specs.Rows.{entry_of}
use Rattle.dense_rows.specs.Dense.{Gathers}
use Rattle.dense_finish.specs.Factors.{IsLeftFactor}
use Rattle.dense_finish.specs.Pivots.{ArePivotPlaces}
use Rattle.sparse_rows.proofs.Loops.{matrix_more, row_before, row_last}

pub places_none : (rows columns row_indices names : List ℕ) {pivots : List Pair} → pivots ≡ [] → ArePivotPlaces (take 0 rows) columns row_indices names pivots
places_none rows columns row_indices names {pivots} is = record { long = ap length is; row = λ k l. absurd (omega arith); column = λ k l. absurd (omega arith) }

-- an item behind a list, by a field
seen_last : (f : Pair → ℕ) (pivots : List Pair) (x : Pair) (k : ℕ) → k ≡ length pivots → slice_index (map f (pivots ++ x ∷ [])) k ≡ f x
seen_last f pivots x k e =
    ap₂ (λ l t. slice_index l t) (map-append f pivots (x ∷ [])) (e ∙ sym (length-map pivots f)) ∙ get_or-append_seam (map f pivots) (f x) [] 0

seen_before : (f : Pair → ℕ) (pivots : List Pair) (x : Pair) (k : ℕ) → k < length pivots → slice_index (map f (pivots ++ x ∷ [])) k ≡ slice_index (map f pivots) k
seen_before f pivots x k l = ap (λ l. slice_index l k) (map-append f pivots (x ∷ [])) ∙ get_or-append (map f pivots) (f x ∷ []) 0 k (omega (arith, length-map pivots f))

pub places_more : (rows columns row_indices names : List ℕ) {pivots : List Pair} (k : ℕ) → k < length rows → ArePivotPlaces (take k rows) columns row_indices names pivots →
    ArePivotPlaces (take (k + 1) rows) columns row_indices names
    (pivots ++ record { row = slice_index row_indices (slice_index rows k); col = slice_index names (slice_index columns k) } ∷ [])
places_more rows columns row_indices names {pivots} k l h = record {
  long = length-append pivots (last ∷ []) ∙ omega (arith, h.long, fewer, more);
  row = λ t lt. elim (cases_eq t k) [
    | inl e ↦ seen_last (λ q. q.row) pivots last t (omega (arith, h.long, fewer)) ∙ ap (λ s. slice_index row_indices (slice_index rows s)) (sym e) ∙ ap (slice_index row_indices) (sym (read t lt))
    | inr d ↦
        let less : t < k = omega (arith, more) in
        seen_before (λ q. q.row) pivots last t (omega (arith, h.long, fewer)) ∙ h.row t (omega (arith, fewer))
        ∙ ap (slice_index row_indices) (get_or-take k rows t 0 less ∙ sym (read t lt))
  ];
  column = λ t lt. elim (cases_eq t k) [
    | inl e ↦ seen_last (λ q. q.col) pivots last t (omega (arith, h.long, fewer)) ∙ ap (λ s. slice_index names (slice_index columns s)) (sym e)
    | inr d ↦ seen_before (λ q. q.col) pivots last t (omega (arith, h.long, fewer, more)) ∙ h.column t (omega (arith, fewer, more))
  ];
}
  where
    last : Pair
    last = record { row = slice_index row_indices (slice_index rows k); col = slice_index names (slice_index columns k) }

    fewer : length (take k rows) ≡ k
    fewer = omega (arith, length-take k rows)

    more : length (take (k + 1) rows) ≡ k + 1
    more = omega (arith, length-take (k + 1) rows)

    read : (t : ℕ) → t < length (take (k + 1) rows) → slice_index (take (k + 1) rows) t ≡ slice_index rows t
    read t lt = get_or-take (k + 1) rows t 0 (omega (arith, more))

-- rows of zeros behind a matrix
zeros_before : {p : ℕ} {A : Matrix} (count : ℕ) → IsMatrix p A → (i : ℕ) → i < A.height → row (with_zeros A count) i ≡ row A i
zeros_before {p} {A} count m i l = get_or_append_left A.rows (replicate count (zeros A.width)) [] i (omega (arith, m.len))

zeros_behind : {p : ℕ} {A : Matrix} (count : ℕ) → IsMatrix p A → (i : ℕ) → A.height ≤ i → i < A.height + count → row (with_zeros A count) i ≡ zeros A.width
zeros_behind {p} {A} count m i low l =
    get_or-append_right A.rows (replicate count (zeros A.width)) A.height i [] m.len low ∙ get_or-replicate count (i - A.height) (zeros A.width) [] (omega arith)

matrix_zeros : {p : ℕ} {A : Matrix} (count : ℕ) → 0 < p → IsMatrix p A → IsMatrix p (with_zeros A count)
matrix_zeros {p} {A} count pos m = record {
  len = length-append A.rows (replicate count (zeros A.width)) ∙ omega (arith, m.len, length-replicate count (zeros A.width));
  each = λ i l. elim (cases_lt i A.height) [
    | inl less ↦ subst (IsVector p A.width) (sym (zeros_before count m i less)) (m.each i less)
    | inr more ↦ subst (IsVector p A.width) (sym (zeros_behind count m i more l)) (zeros_vector p A.width pos)
  ];
}

-- the left factor's first rows, of which the first `next` with entries are there
pub record IsLeftSoFar (p : ℕ) (row_indices columns : List ℕ) (rows : List (List ℕ)) (next : ℕ) (L : ResidueMatrix) : Type 0 where
  pub modulus : L.modulus ≡ p
  pub matrix : IsMatrix p L.matrix
  pub width : L.matrix.width ≡ length columns
  pub passed : (t : ℕ) → t < next → slice_index row_indices t < L.matrix.height
  pub coming : (t : ℕ) → next ≤ t → t < length row_indices → L.matrix.height ≤ slice_index row_indices t
  pub filled : (t k : ℕ) → t < next → k < length columns → entry L.matrix (slice_index row_indices t) k ≡ entry_of rows t (slice_index columns k)
  pub others : (x k : ℕ) → x < L.matrix.height → k < length columns → ((t : ℕ) → t < length row_indices → slice_index row_indices t ≢ x) → entry L.matrix x k ≡ 0

pub left_none : {p : ℕ} (row_indices columns : List ℕ) (rows : List (List ℕ)) {L : ResidueMatrix} → L.modulus ≡ p → L.matrix ≡ record { height = 0; width = length columns; rows = [] } →
    IsLeftSoFar p row_indices columns rows 0 L
left_none {p} row_indices columns rows {L} modulus is = record {
  modulus = modulus;
  matrix = rw is record { len = refl; each = λ i l. absurd (omega arith) };
  width = ap (λ A. A.width) is;
  passed = λ t l. absurd (omega arith);
  coming = λ t a l. omega (arith, ap (λ A. A.height) is);
  filled = λ t k l. absurd (omega arith);
  others = λ x k l. absurd (omega (arith, ap (λ A. A.height) is));
}

-- rows of zeros are appended, up to the next row with entries
pub left_zeros : (count : ℕ) → {p next : ℕ} {row_indices columns : List ℕ} {rows : List (List ℕ)} {L M : ResidueMatrix} → 0 < p → IsLeftSoFar p row_indices columns rows next L →
    ((t : ℕ) → next ≤ t → t < length row_indices → L.matrix.height + count ≤ slice_index row_indices t) →
    M.modulus ≡ L.modulus → M.matrix ≡ with_zeros L.matrix count → IsLeftSoFar p row_indices columns rows next M
left_zeros count {p} {next} {row_indices} {columns} {rows} {L} {M} pos h room modulus is = record {
  modulus = modulus ∙ h.modulus;
  matrix = rw is (matrix_zeros count pos h.matrix);
  width = ap (λ A. A.width) is ∙ h.width;
  passed = λ t l. omega (arith, high, h.passed t l);
  coming = λ t a l. omega (arith, high, room t a l);
  filled = λ t k l lk. before (slice_index row_indices t) k (h.passed t l) ∙ h.filled t k l lk;
  others = λ x k l lk none. elim (cases_lt x L.matrix.height) [
    | inl less ↦ before x k less ∙ h.others x k less lk none
    | inr more ↦
        ap (λ A. entry A x k) is ∙ ap (λ u. slice_index u k) (zeros_behind count h.matrix x more (omega (arith, high)))
        ∙ at_zeros L.matrix.width k (omega (arith, h.width))
  ];
}
  where
    high : M.matrix.height ≡ L.matrix.height + count
    high = ap (λ A. A.height) is

    before : (x k : ℕ) → x < L.matrix.height → entry M.matrix x k ≡ entry L.matrix x k
    before x k l = ap (λ A. entry A x k) is ∙ ap (λ u. slice_index u k) (zeros_before count h.matrix x l)

-- a row with the first of the entries at these columns, behind which there are none
pub gathered_all : {n : ℕ} {row : List ℕ} (v columns : List ℕ) (count : ℕ) → count ≤ length columns → n ≡ length columns → Gathers n (take count columns) v row →
    ((k : ℕ) → count ≤ k → k < length columns → slice_index v (slice_index columns k) ≡ 0) → (k : ℕ) → k < length columns → slice_index row k ≡ slice_index v (slice_index columns k)
gathered_all {n} {row} v columns count inside wide put none k l = elim (cases_lt k count) [
  | inl less ↦ put.put k (omega (arith, long)) ∙ ap (slice_index v) (get_or-take count columns k 0 less)
  | inr more ↦ put.others k (omega arith) (λ j lj e. omega (arith, long)) ∙ sym (none k more l)
]
  where
    long : length (take count columns) ≡ count
    long = length-take-le count columns inside

-- the next row with entries is appended
pub left_filled : {p next : ℕ} {row_indices columns v : List ℕ} {rows : List (List ℕ)} {L M : ResidueMatrix} → IsLeftSoFar p row_indices columns rows next L → AreRising row_indices →
    IsVector p (length columns) v → M.modulus ≡ L.modulus → M.matrix ≡ with_row L.matrix v → next < length row_indices → slice_index row_indices next ≡ L.matrix.height →
    ((k : ℕ) → k < length columns → slice_index v k ≡ entry_of rows next (slice_index columns k)) → IsLeftSoFar p row_indices columns rows (next + 1) M
left_filled {p} {next} {row_indices} {columns} {v} {rows} {L} {M} h rising vector modulus is some at read = record {
  modulus = modulus ∙ h.modulus;
  matrix = rw is (matrix_more h.matrix (rw h.width vector));
  width = ap (λ A. A.width) is ∙ h.width;
  passed = λ t l. elim (cases_eq t next) [
    | inl e ↦ omega (arith, high, at, ap (slice_index row_indices) e)
    | inr d ↦ omega (arith, high, h.passed t (omega arith))
  ];
  coming = λ t a l. omega (arith, high, at, rising next t (omega arith) l);
  filled = λ t k l lk. elim (cases_eq t next) [
    | inl e ↦ last (slice_index row_indices t) k (ap (slice_index row_indices) e ∙ at) ∙ read k lk ∙ ap (λ s. entry_of rows s (slice_index columns k)) (sym e)
    | inr d ↦ before (slice_index row_indices t) k (h.passed t (omega arith)) ∙ h.filled t k (omega arith) lk
  ];
  others = λ x k l lk none. elim (cases_eq x L.matrix.height) [
    | inl e ↦ absurd (none next some (at ∙ sym e))
    | inr d ↦ let less : x < L.matrix.height = omega (arith, high) in before x k less ∙ h.others x k less lk none
  ];
}
  where
    high : M.matrix.height ≡ L.matrix.height + 1
    high = ap (λ A. A.height) is

    before : (x k : ℕ) → x < L.matrix.height → entry M.matrix x k ≡ entry L.matrix x k
    before x k l = ap (λ A. entry A x k) is ∙ ap (λ u. slice_index u k) (row_before v h.matrix x l)

    last : (x k : ℕ) → x ≡ L.matrix.height → entry M.matrix x k ≡ slice_index v k
    last x k e = ap (λ A. entry A x k) is ∙ ap (λ t. entry (with_row L.matrix v) t k) e ∙ ap (λ u. slice_index u k) (row_last v h.matrix)

-- all rows are there
pub left_all : {p m next : ℕ} {row_indices columns : List ℕ} {rows : List (List ℕ)} {L : ResidueMatrix} → L.matrix.height ≡ m → length row_indices ≤ next →
    IsLeftSoFar p row_indices columns rows next L → IsLeftFactor m row_indices columns rows L.matrix
left_all end le h = record {
  height = end;
  width = h.width;
  filled = λ t k l lk. h.filled t k (omega arith) lk;
  others = λ x k l lk none. h.others x k (omega arith) lk none;
}
