-- The entries of matrices put together of others, and that they are matrices of residues.
use Rattle.std.proofs.Common.{ℕ, ◌≡◌, ◌+◌, ◌-◌, ◌<◌, ◌≤◌, inl, inr, List, [], ◌∷◌, ◌++◌, length, map, slice_index, slice_index_or, cond, eqb, refl, sym, ap, ap₂, ◌∙◌, arith}
use Rattle.std.specs.List.{range_with_len}
use Rattle.std.proofs.lemmas.Bool.{cases_eq, cases_lt, cond-true, cond-false, eq-eqb, ne_eqb}
use Rattle.std.proofs.lemmas.List.{get_or_append_left, get_or-append_right, length-append}
use Rattle.std.proofs.lemmas.List.FromFn.{get_or-map-range_with_len, length-map-range_with_len}
use Rattle.residue_words.specs.Matrix.{Matrix, IsMatrix, IsVector, entry, row}
use Rattle.residue_words.proofs.Vectors.{at_list_of, entry_matrix_of, entry_residue, is_matrix_of, length_list_of, list_equal, vector_of}
use Rattle.sparse_rows.specs.Rows.{beside, identity, transposed}
use Rattle.sparse_rows.proofs.Loops.{sized}
use Rattle.sparse_rows.proofs.Spread.{map_range_equal}
use Rattle.row_space.specs.Solution.{augmented}
use Rattle.kernel_solve.specs.Column.{column, column_matrix}

-- a transposed matrix
pub transposed_entry : (M : Matrix) (i j : ℕ) → i < M.width → j < M.height → entry (transposed M) i j ≡ entry M j i
transposed_entry M i j a b = entry_matrix_of M.width M.height (λ i j. entry M j i) i j a b

-- two matrices side by side
beside_row : (A B : Matrix) (i : ℕ) → i < A.height → row (beside A B) i ≡ row A i ++ row B i
beside_row A B i l = get_or-map-range_with_len (λ i. row A i ++ row B i) 0 A.height i i [] l (omega arith)

pub beside_left : {p : ℕ} {A : Matrix} → IsMatrix p A → (B : Matrix) (i j : ℕ) → i < A.height → j < A.width → entry (beside A B) i j ≡ entry A i j
beside_left {p} {A} m B i j a b = ap (λ u. slice_index u j) (beside_row A B i a) ∙ get_or_append_left (row A i) (row B i) 0 j (omega (arith, (m.each i a).len))

pub beside_right : {p : ℕ} {A : Matrix} → IsMatrix p A → (B : Matrix) (i j : ℕ) → i < A.height → entry (beside A B) i (A.width + j) ≡ entry B i j
beside_right {p} {A} m B i j a =
    ap (λ u. slice_index u (A.width + j)) (beside_row A B i a) ∙ get_or-append_right (row A i) (row B i) A.width (A.width + j) 0 (m.each i a).len (omega arith)
    ∙ ap (slice_index (row B i)) (let e : A.width + j - A.width ≡ j = omega arith in e)

pub beside_matrix : {p : ℕ} {A B : Matrix} → IsMatrix p A → IsMatrix p B → A.height ≡ B.height → IsMatrix p (beside A B)
beside_matrix {p} {A} {B} a b same = record {
  len = length-map-range_with_len (λ i. row A i ++ row B i) 0 A.height;
  each = λ i l. rw (beside_row A B i l) (record {
    len = length-append (row A i) (row B i) ∙ ap₂ (λ x y. x + y) (a.each i l).len (b.each i (omega arith)).len;
    residues = λ j o. elim (cases_lt j A.width) [
      | inl s ↦ omega (arith, get_or_append_left (row A i) (row B i) 0 j (omega (arith, (a.each i l).len)), (a.each i l).residues j s)
      | inr s ↦ omega (arith, get_or-append_right (row A i) (row B i) A.width j 0 (a.each i l).len s, (b.each i (omega arith)).residues (j - A.width) (omega arith))
    ];
  });
}

-- a list of one item
pub one_item : {X : Type 0} (d : X) (xs : List X) → length xs ≡ 1 → xs ≡ slice_index_or xs 0 d ∷ []
one_item d [] e = absurd (omega arith)
one_item d (x ∷ []) e = refl
one_item d (x ∷ y ∷ xs) e = absurd (omega arith)

-- a column is a vector, and beside a matrix it is the matrix with this side
pub column_vector : {p : ℕ} {B : Matrix} → IsMatrix p B → 0 < B.width → IsVector p B.height (column B)
column_vector {p} {B} m some = vector_of p B.height (λ i. entry B i 0) (λ i l. entry_residue p B m i 0 l some)

pub beside_column : {p : ℕ} (A : Matrix) {B : Matrix} → IsMatrix p B → A.height ≡ B.height → B.width ≡ 1 → beside A B ≡ augmented A (column B)
beside_column {p} A {B} m heights narrow =
    let g : ℕ → List ℕ = λ i. row A i ++ row B i in
    let f : ℕ → List ℕ = λ i. row A i ++ slice_index (column B) i ∷ [] in
    let same : (i : ℕ) → 0 ≤ i → i < 0 + A.height → g i ≡ f i = λ i a l.
    let inside : i < B.height = omega arith in
    ap (λ u. row A i ++ u) (one_item 0 (row B i) ((m.each i inside).len ∙ narrow) ∙ ap (λ x. x ∷ []) (sym (at_list_of B.height (λ i. entry B i 0) i inside))) in
    ap (λ w. sized A.height (A.width + w) (map g (range_with_len 0 A.height))) narrow ∙ ap (sized A.height (A.width + 1)) (map_range_equal g f 0 A.height same)

-- the identity
identity_entry : (n i j : ℕ) → i < n → j < n → entry (identity n) i j ≡ cond (eqb i j) 1 0
identity_entry n i j a b = entry_matrix_of n n (λ i j. cond (eqb i j) 1 0) i j a b

pub identity_same : (n i : ℕ) → i < n → entry (identity n) i i ≡ 1
identity_same n i l = identity_entry n i i l l ∙ cond-true (eqb i i) 1 0 (eq-eqb i i refl)

pub identity_other : (n i j : ℕ) → i < n → j < n → (i ≡ j → ⊥) → entry (identity n) i j ≡ 0
identity_other n i j a b d = identity_entry n i j a b ∙ cond-false (eqb i j) 1 0 (ne_eqb i j d)

pub identity_matrix : (p n : ℕ) → 2 ≤ p → IsMatrix p (identity n)
identity_matrix p n two = is_matrix_of p n n (λ i j. cond (eqb i j) 1 0) (λ i j a b. elim (cases_eq i j) [
  | inl e ↦ omega (arith, cond-true {A = ℕ} (eqb i j) 1 0 (eq-eqb i j e))
  | inr d ↦ omega (arith, cond-false {A = ℕ} (eqb i j) 1 0 (ne_eqb i j d))
])

-- the column of a list is the list
pub column_again : (x : List ℕ) → column (column_matrix x) ≡ x
column_again x =
    list_equal (length x) (column (column_matrix x)) x (length_list_of (length x) _) refl (λ i l.
    at_list_of (length x) _ i l ∙ entry_matrix_of (length x) 1 (λ i j. slice_index x i) i 0 l (omega arith))

-- of residues it is a matrix of residues
pub column_is_matrix : {p : ℕ} {x : List ℕ} → IsVector p (length x) x → IsMatrix p (column_matrix x)
column_is_matrix {p} {x} v = is_matrix_of p (length x) 1 (λ i j. slice_index x i) (λ i j a b. v.residues i a)
