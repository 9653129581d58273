-- The rows of triangular pairs, as they stand on the columns that they occupy.
use Rattle.std.proofs.Common.{ℕ, ◌≡◌, ◌≢◌, ◌+◌, ◌*◌, ◌%◌, ◌<◌, ◌≤◌, List, [], ◌∷◌, ◌++◌, get_or, length, map, slice_index, take, inl, inr, sym, ap, ap₂, ◌∙◌, arith}
use Rattle.std.specs.List.{Contains}
use Rattle.std.proofs.lemmas.Bool.{cases_eq, cases_lt}
use Rattle.std.proofs.lemmas.List.{get_or-map, get_or_append_left, get_or_push, length-map, length-take-le, length_push, map_push, take_more}
use Rattle.residue_words.specs.declared.plain.Pair.{Pair}
use Rattle.residue_words.specs.Residues.{IsPrime}
use Rattle.residue_words.specs.Matrix.{Matrix, IsMatrix, entry, row}
use Rattle.residue_words.proofs.Vectors.{at_list_of}
use Rattle.row_space.specs.Factors.{row_at, col_at}
use Rattle.row_space.proofs.Counting.{pigeonhole}
use Rattle.sparse_rows.specs.Rows.{AreBelow, AreOccupied, ResidueMatrix, nonzeros, selected}
use Rattle.sparse_rows.specs.Stored.{with_row}
use Rattle.sparse_rows.proofs.Spread.{support_sparse}
use Rattle.pivot_table.specs.Order.{Triangular}
use Rattle.triangular_solve.specs.PivotRows.{ArePivotRows, AreUpper, HasPivotsFirst, placed_rows, row_on, rows_on}
use Rattle.triangular_solve.proofs.Eliminating.{AreInversesBelow, first_place}
use Rattle.triangular_solve.proofs.JoinedRows.{support_value}
use Rattle.triangular_solve.proofs.Listing.{no_pair}

pub pair_row : (pairs : List Pair) (k : ℕ) → k < length pairs → (get_or pairs k no_pair).row ≡ row_at pairs k
pair_row pairs k l = sym (get_or-map (λ (q : Pair). q.row) pairs k no_pair 0 l)

-- the columns of triangular pairs are distinct
pub triangular_distinct : {A : Matrix} {qs : List Pair} → Triangular A qs → (k t : ℕ) → k < t → t < length qs → col_at qs k ≢ col_at qs t
triangular_distinct {A} {qs} tri k t a l e = (tri.nonzero t l).2 (ap (entry A (row_at qs t)) (sym e) ∙ tri.after k t a l)

-- so there are no more pairs than columns
pub triangular_short : {A : Matrix} {qs : List Pair} → Triangular A qs → length qs ≤ A.width
triangular_short {A} {qs} tri = pigeonhole (length qs) A.width (col_at qs) (λ k l. (tri.nonzero k l).1) (λ k t lk lt e. elim (cases_eq k t) [
  | inl s ↦ s
  | inr d ↦ elim (cases_lt k t) [ inl a ↦ absurd (triangular_distinct tri k t a lt e) | inr g ↦ absurd (triangular_distinct tri t k (omega arith) lk (sym e)) ]
])

-- the selected rows
pub selected_height : (A : Matrix) (qs : List Pair) → (selected A (map (λ (q : Pair). q.row) qs)).height ≡ length qs
selected_height A qs = length-map qs (λ (q : Pair). q.row)

pub selected_row : (A : Matrix) (qs : List Pair) (k : ℕ) → k < length qs → row (selected A (map (λ (q : Pair). q.row) qs)) k ≡ row A (row_at qs k)
selected_row A qs k l = get_or-map (row A) (map (λ (q : Pair). q.row) qs) k 0 [] (omega (arith, selected_height A qs))

-- each entry of theirs stands in an occupied column
pub occupied_has : (A : Matrix) (qs : List Pair) {columns : List ℕ} → AreOccupied (selected A (map (λ (q : Pair). q.row) qs)) columns → (k j : ℕ) → k < length qs → j < A.width → entry A (row_at qs k) j ≢ 0 → Contains columns j
occupied_has A qs {columns} o k j l lj ne =
    o.enough.all k j (omega (arith, selected_height A qs)) lj (λ z. ne (ap (λ w. slice_index w j) (sym (selected_row A qs k l)) ∙ z))

pub occupied_pivotal : {A : Matrix} {qs : List Pair} {columns : List ℕ} → Triangular A qs → AreOccupied (selected A (map (λ (q : Pair). q.row) qs)) columns → (k : ℕ) → k < length qs → Contains columns (col_at qs k)
occupied_pivotal {A} {qs} {columns} tri o k l = let n = tri.nonzero k l in occupied_has A qs o k (col_at qs k) l n.1 n.2

-- one row more is placed
pub rows_on_more : (A : Matrix) (columns : List ℕ) (qs : List Pair) (k : ℕ) (w : List ℕ) → k < length qs → w ≡ row_on A columns (get_or qs k no_pair).row →
    with_row (rows_on A columns (take k qs)) w ≡ rows_on A columns (take (k + 1) qs)
rows_on_more A columns qs k w l e =
    ap (λ (w : List ℕ). with_row (rows_on A columns (take k qs)) w) e
    ∙ ap₂ (λ h rs. sized h (length columns) rs) (ap (λ n. n + 1) (length-take-le k qs (omega arith)) ∙ sym (length-take-le (k + 1) qs (omega arith)))
    (sym (ap (map (λ (q : Pair). row_on A columns q.row)) (take_more qs k no_pair l) ∙ map_push (λ (q : Pair). row_on A columns q.row) (take k qs) (get_or qs k no_pair)))
  where
    sized : ℕ → ℕ → List (List ℕ) → Matrix
    sized h w rs = record { height = h; width = w; rows = rs }

-- an entry of the placed rows
pub placed_entry : (A : Matrix) (columns : List ℕ) (qs : List Pair) (k i : ℕ) → k < length qs → i < length columns → entry (rows_on A columns qs) k i ≡ entry A (row_at qs k) (slice_index columns i)
placed_entry A columns qs k i l li =
    ap (λ w. slice_index w i) (get_or-map (λ (q : Pair). row_on A columns q.row) qs k no_pair [] l)
    ∙ at_list_of (length columns) (λ t. entry A (get_or qs k no_pair).row (slice_index columns t)) i li
    ∙ ap (λ r. entry A r (slice_index columns i)) (pair_row qs k l)

-- they are upper triangular
pub rows_on_upper : {A : Matrix} {columns : List ℕ} {qs : List Pair} → Triangular A qs → HasPivotsFirst qs columns → AreUpper (rows_on A columns qs)
rows_on_upper {A} {columns} {qs} tri first = record {
  short = pigeonhole (length qs) (length columns) (λ k. k) (λ k l. (first.pivotal k l).0) (λ k t lk lt e. e);
  diagonal = λ k l z. (tri.nonzero k l).2 (sym (placed_entry A columns qs k k l (first.pivotal k l).0 ∙ ap (entry A (row_at qs k)) (first.pivotal k l).1) ∙ z);
  upper = λ k i l a. placed_entry A columns qs k i l (first.pivotal i (omega arith)).0 ∙ ap (entry A (row_at qs k)) (first.pivotal i (omega arith)).1 ∙ tri.after i k a l;
}

-- all of it
pub rows_placed : {A B : ResidueMatrix} {qs : List Pair} {columns occupied : List ℕ} → Triangular A.matrix qs → B.modulus ≡ A.modulus → B.matrix ≡ rows_on A.matrix columns qs → HasPivotsFirst qs columns → AreBelow A.matrix.width columns →
    AreOccupied (selected A.matrix (map (λ (q : Pair). q.row) qs)) occupied → ((j : ℕ) → Contains occupied j → Contains columns j) → ArePivotRows A qs (placed_rows B columns)
rows_placed {A} {B} {qs} {columns} {occupied} tri m e first below o all = record {
  modulus = m;
  height = ap (λ (M : Matrix). M.height) e;
  first = first;
  below = below;
  entries = λ k i l li. ap (λ (M : Matrix). entry M k i) e ∙ placed_entry A.matrix columns qs k i l li;
  others = λ k j l lj none. elim (cases_eq (entry A.matrix (row_at qs k) j) 0) [ inl z ↦ z | inr ne ↦ absurd (none (all j (occupied_has A.matrix qs o k j l lj ne))) ];
}

-- the first value of a placed row is its pivot
pub first_pivot : {p : ℕ} {A : Matrix} {vs : List ℕ} (k : ℕ) → IsMatrix p A → AreUpper A → k < A.height → vs ≡ nonzeros (row A k) → (0 < length vs) × (slice_index vs 0 ≡ entry A k k)
first_pivot {p} {A} {vs} k m upper l e =
    let s = support_sparse (m.each k l) in
    let f = first_place (m.each k l) k (upper.diagonal k l) (λ i li. upper.upper k i l li) in
    (omega (arith, f.0, s.long, ap length e), ap (λ us. slice_index us 0) e ∙ support_value (row A k) s.rising s.long 0 f.0 ∙ ap (slice_index (row A k)) f.1)

-- one inverse more
pub inverses_more : {A : ResidueMatrix} {k : ℕ} {inverses next : List ℕ} → AreInversesBelow A k inverses → (i : ℕ) → i < A.modulus → (IsPrime A.modulus → (entry A.matrix k k * i) % A.modulus ≡ 1) → next ≡ inverses ++ i ∷ [] →
    AreInversesBelow A (k + 1) next
inverses_more {A} {k} {inverses} {next} so_far i low inv e = record {
  many = ap length e ∙ length_push inverses i ∙ ap (λ n. n + 1) so_far.many;
  residues = λ t l. elim (cases_lt t k) [
    | inl b ↦ omega (arith, old t b, so_far.residues t b)
    | inr g ↦ let s : t ≡ k = omega arith in omega (arith, ap (slice_index next) s, here)
  ];
  inverse = λ prime t l. elim (cases_lt t k) [
    | inl b ↦ ap (λ x. (entry A.matrix t t * x) % A.modulus) (old t b) ∙ so_far.inverse prime t b
    | inr g ↦ let s : t ≡ k = omega arith in ap (λ t. (entry A.matrix t t * slice_index next t) % A.modulus) s ∙ ap (λ x. (entry A.matrix k k * x) % A.modulus) here ∙ inv prime
  ];
}
  where
    old : (t : ℕ) → t < k → slice_index next t ≡ slice_index inverses t
    old t l = ap (λ xs. slice_index xs t) e ∙ get_or_append_left inverses (i ∷ []) 0 t (omega (arith, so_far.many))

    here : slice_index next k ≡ i
    here = ap (λ xs. slice_index xs k) e ∙ get_or_push inverses i 0 k (so_far.many)
