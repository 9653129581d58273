-- Lists of pairs behind each other, and matrices beside and above each other.
use Rattle.std.proofs.Common.{ℕ, ◌≡◌, ◌+◌, ◌-◌, ◌<◌, inl, inr, List, [], ◌++◌, length, map, slice_index, sym, ap, subst, ◌∙◌, arith, length-append}
use Rattle.std.proofs.lemmas.Bool.{cases_lt}
use Rattle.std.proofs.lemmas.List.{get_or_append_left, get_or-append-add, get_or-map, length-map, map-append}
use Rattle.std.proofs.lemmas.List.FromFn.{get_or-map-range_with_len, length-map-range_with_len}
use Rattle.residue_words.specs.declared.plain.Pair.{Pair}
use Rattle.residue_words.specs.Matrix.{Matrix, IsMatrix, IsVector, entry, row}
use Rattle.row_space.specs.Factors.{row_at, col_at}
use Rattle.sparse_rows.specs.Rows.{above, beside}
use Rattle.schur_rows.specs.Round.{pivot_rows}

-- what holds of the first n numbers and of the m behind them holds of all
pub each_of : (n m : ℕ) (P : ℕ → Type 0) → ((k : ℕ) → k < n → P k) → ((t : ℕ) → t < m → P (n + t)) → (k : ℕ) → k < n + m → P k
each_of n m P first second k l = elim (cases_lt k n) [
  | inl low ↦ first k low
  | inr high ↦ let e : n + (k - n) ≡ k = omega arith in subst P e (second (k - n) (omega arith))
]

-- the same for two numbers of which the second is the larger
pub pairs_of : (n m : ℕ) (P : ℕ → ℕ → Type 0) → ((k t : ℕ) → k < t → t < n → P k t) → ((k t : ℕ) → k < n → t < m → P k (n + t)) →
    ((k t : ℕ) → k < t → t < m → P (n + k) (n + t)) → (k t : ℕ) → k < t → t < n + m → P k t
pairs_of n m P first across second k t a l = elim (cases_lt t n) [
  | inl low ↦ first k t a low
  | inr high ↦
      let e : n + (t - n) ≡ t = omega arith in
      subst (P k) e (elim (cases_lt k n) [
        | inl low ↦ across k (t - n) low (omega arith)
        | inr more ↦ let f : n + (k - n) ≡ k = omega arith in subst (λ i. P i (n + (t - n))) f (second (k - n) (t - n) (omega arith) (omega arith))
      ])
]

field_first : (f : Pair → ℕ) (qs ps : List Pair) (k : ℕ) → k < length qs → slice_index (map f (qs ++ ps)) k ≡ slice_index (map f qs) k
field_first f qs ps k l = ap (λ xs. slice_index xs k) (map-append f qs ps) ∙ get_or_append_left (map f qs) (map f ps) 0 k (omega (arith, length-map qs f))

field_second : (f : Pair → ℕ) (qs ps : List Pair) (t : ℕ) → slice_index (map f (qs ++ ps)) (length qs + t) ≡ slice_index (map f ps) t
field_second f qs ps t =
    ap (λ xs. slice_index xs (length qs + t)) (map-append f qs ps) ∙ ap (λ n. slice_index (map f qs ++ map f ps) (n + t)) (sym (length-map qs f)) ∙ get_or-append-add (map f qs) (map f ps) t 0

pub row_first : (qs ps : List Pair) (k : ℕ) → k < length qs → row_at (qs ++ ps) k ≡ row_at qs k
row_first qs ps k l = field_first (λ q. q.row) qs ps k l

pub row_second : (qs ps : List Pair) (t : ℕ) → row_at (qs ++ ps) (length qs + t) ≡ row_at ps t
row_second qs ps t = field_second (λ q. q.row) qs ps t

pub col_first : (qs ps : List Pair) (k : ℕ) → k < length qs → col_at (qs ++ ps) k ≡ col_at qs k
col_first qs ps k l = field_first (λ q. q.col) qs ps k l

pub col_second : (qs ps : List Pair) (t : ℕ) → col_at (qs ++ ps) (length qs + t) ≡ col_at ps t
col_second qs ps t = field_second (λ q. q.col) qs ps t

-- the pivot rows
pub pivot_height : (A : Matrix) (qs : List Pair) → (pivot_rows A qs).height ≡ length qs
pivot_height A qs = length-map qs (λ (q : Pair). q.row)

pub pivot_row : (A : Matrix) (qs : List Pair) (k : ℕ) → k < length qs → row (pivot_rows A qs) k ≡ row A (row_at qs k)
pivot_row A qs k l = get_or-map (row A) (map (λ (q : Pair). q.row) qs) k 0 [] (omega (arith, pivot_height A qs))

pub pivots_matrix : {p : ℕ} {A : Matrix} (qs : List Pair) → IsMatrix p A → ((k : ℕ) → k < length qs → row_at qs k < A.height) → IsMatrix p (pivot_rows A qs)
pivots_matrix {p} {A} qs m inside = record {
  len = length-map (map (λ (q : Pair). q.row) qs) (row A);
  each = λ k l. let low : k < length qs = omega (arith, pivot_height A qs) in subst (IsVector p A.width) (sym (pivot_row A qs k low)) (m.each (row_at qs k) (inside k low));
}

-- rows above others
pub above_first : {p : ℕ} {T : Matrix} (U : Matrix) → IsMatrix p T → (k : ℕ) → k < T.height → row (above T U) k ≡ row T k
above_first {p} {T} U m k l = get_or_append_left T.rows U.rows [] k (omega (arith, m.len))

pub above_second : {p : ℕ} {T : Matrix} (U : Matrix) → IsMatrix p T → (t : ℕ) → row (above T U) (T.height + t) ≡ row U t
above_second {p} {T} U m t = ap (λ n. row (above T U) (n + t)) (sym m.len) ∙ get_or-append-add T.rows U.rows t []

pub above_matrix : {p : ℕ} {T U : Matrix} → IsMatrix p T → IsMatrix p U → U.width ≡ T.width → IsMatrix p (above T U)
above_matrix {p} {T} {U} mt mu wide = record {
  len = omega (arith, length-append T.rows U.rows, mt.len, mu.len);
  each = each_of T.height U.height (λ k. IsVector p T.width (row (above T U) k))
      (λ k l. subst (IsVector p T.width) (sym (above_first U mt k l)) (mt.each k l))
      (λ t l. subst (IsVector p T.width) (sym (above_second U mt t)) (subst (λ n. IsVector p n (row U t)) wide (mu.each t l)));
}

-- rows beside others
beside_at : (C L : Matrix) (i : ℕ) → i < C.height → row (beside C L) i ≡ row C i ++ row L i
beside_at C L i l = get_or-map-range_with_len (λ i. row C i ++ row L i) 0 C.height i i [] l (omega arith)

pub beside_first : {p : ℕ} {C : Matrix} (L : Matrix) → IsMatrix p C → (i k : ℕ) → i < C.height → k < C.width → entry (beside C L) i k ≡ entry C i k
beside_first {p} {C} L m i k li lk = ap (λ u. slice_index u k) (beside_at C L i li) ∙ get_or_append_left (row C i) (row L i) 0 k (omega (arith, (m.each i li).len))

pub beside_second : {p : ℕ} {C : Matrix} (L : Matrix) → IsMatrix p C → (i t : ℕ) → i < C.height → entry (beside C L) i (C.width + t) ≡ entry L i t
beside_second {p} {C} L m i t li =
    ap (λ u. slice_index u (C.width + t)) (beside_at C L i li) ∙ ap (λ n. slice_index (row C i ++ row L i) (n + t)) (sym (m.each i li).len) ∙ get_or-append-add (row C i) (row L i) t 0

pub beside_matrix : {p : ℕ} {C L : Matrix} → IsMatrix p C → IsMatrix p L → L.height ≡ C.height → IsMatrix p (beside C L)
beside_matrix {p} {C} {L} mc ml high = record {
  len = length-map-range_with_len (λ i. row C i ++ row L i) 0 C.height;
  each = λ i l.
      let vc : IsVector p C.width (row C i) = mc.each i l in
      let vl : IsVector p L.width (row L i) = ml.each i (omega arith) in
      record {
        len = ap length (beside_at C L i l) ∙ omega (arith, length-append (row C i) (row L i), vc.len, vl.len);
        residues = each_of C.width L.width (λ k. entry (beside C L) i k < p)
            (λ k lk. subst (λ x. x < p) (sym (beside_first L mc i k l lk)) (vc.residues k lk))
            (λ t lt. subst (λ x. x < p) (sym (beside_second L mc i t l)) (vl.residues t lt));
      };
}
