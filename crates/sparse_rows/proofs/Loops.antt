-- What the loops keep, and how it grows.
use Rattle.std.proofs.Common.{ℕ, ◌≡◌, ◌+◌, ◌-◌, ◌*◌, ◌%◌, ◌<◌, ◌≤◌, inl, inr, List, [], ◌∷◌, ◌++◌, length, map, take, cond, eqb, slice_index, slice_set, sym, subst, ap, ap₂, ◌∙◌, arith}
use Rattle.std.specs.List.{range_with_len}
use Rattle.std.specs.Prelude.{◌==◌, if◌then◌else◌}
use Rattle.std.proofs.lemmas.Bool.{cases_eq, cases_lt, cond-true, cond-false, eq-eqb, ne_eqb}
use Rattle.std.proofs.lemmas.List.{get_or_append_left, get_or-append_right, get_or_push, get_or-set_other, get_or-set_same, get_or-take, length-append, length-set, length-take-le, length_push, map_push, take_more}
use Rattle.std.proofs.lemmas.List.FromFn.{map-range_with_len_more}
use Rattle.residue_words.specs.Matrix.{Matrix, list_of, row, zeros}
use Rattle.residue_words.proofs.Vectors.{at_list_of, at_zeros, length_list_of, list_equal}
use Rattle.residue_words.specs.Residues.{sum_below}
use Rattle.residue_words.specs.Matrix.{IsMatrix, IsVector, entry}
use Rattle.residue_words.proofs.Residues.{add_same}
use Rattle.residue_words.proofs.Sums.{sum_more, sum_none}
use native.Mathlib.Nat.{mod-mod, zero-mod}
use Rattle.sparse_rows.proofs.Spread.{entry_beyond, entry_push_other, entry_push_same, sum_over_support}
use Rattle.sparse_rows.specs.Rows.{ResidueMatrix, ResidueRow, matrix_by, nonzeros, selected, support}
use Rattle.sparse_rows.specs.Stored.{entry_at, with_row}

-- the matrix of this size with these rows
abbrev pub sized : ℕ → ℕ → List (List ℕ) → Matrix
sized h w r = record { height = h; width = w; rows = r }

-- a matrix that is made row by row
pub matrix_by_more : (i n : ℕ) (f : ℕ → ℕ → ℕ) (r : List ℕ) → r ≡ list_of n (f i) → with_row (matrix_by i n f) r ≡ matrix_by (i + 1) n f
matrix_by_more i n f r e =
    ap (λ rs. sized (i + 1) n rs)
    (ap (λ t. map (λ k. list_of n (f k)) (range_with_len 0 i) ++ t ∷ []) e ∙ sym (map-range_with_len_more (λ k. list_of n (f k)) 0 i i (omega arith)))

-- the rows before stay, and the last is v
pub row_before : {p : ℕ} {A : Matrix} (v : List ℕ) → IsMatrix p A → (i : ℕ) → i < A.height → row (with_row A v) i ≡ row A i
row_before {p} {A} v m i l = get_or_append_left A.rows (v ∷ []) [] i (omega (arith, m.len))

pub row_last : {p : ℕ} {A : Matrix} (v : List ℕ) → IsMatrix p A → row (with_row A v) A.height ≡ v
row_last {p} {A} v m = get_or_push A.rows v [] A.height m.len

-- one row more leaves a matrix of residues
pub matrix_more : {p : ℕ} {A : Matrix} {v : List ℕ} → IsMatrix p A → IsVector p A.width v → IsMatrix p (with_row A v)
matrix_more {p} {A} {v} m vector = record {
  len = length_push A.rows v ∙ ap (λ t. t + 1) m.len;
  each = λ i l. elim (cases_eq i A.height) [
    | inl e ↦ subst (IsVector p A.width) (sym (ap (row (with_row A v)) e ∙ row_last v m)) vector
    | inr d ↦ subst (IsVector p A.width) (sym (row_before v m i (omega arith))) (m.each i (omega arith))
  ];
}

-- one named row more
pub selected_more : (A : Matrix) (named : List ℕ) (i : ℕ) → with_row (selected A named) (row A i) ≡ selected A (named ++ i ∷ [])
selected_more A named i = ap₂ (λ h rs. sized h A.width rs) (sym (length_push named i)) (sym (map_push (row A) named i))

-- a cleared row is as long as before, and 0
pub length_zeros : (n : ℕ) → length (zeros n) ≡ n
length_zeros n = length_list_of n (λ j. 0)

-- each entry of a cleared row is 0
pub zero_at : (u : List ℕ) (n : ℕ) → u ≡ zeros n → (k : ℕ) → k < length u → slice_index u k ≡ 0
zero_at u n e k l = ap (λ t. slice_index t k) e ∙ at_zeros n k (omega (arith, ap length e, length_zeros n))

-- the row with a single 1
pub unit_row : (n i : ℕ) → i < n → slice_set (zeros n) i 1 ≡ list_of n (λ j. if i == j then 1 else 0)
unit_row n i l =
    let f : ℕ → ℕ = λ j. cond (eqb i j) 1 0 in
    list_equal n _ _ (length-set (zeros n) i 1 ∙ length_list_of n _) (length_list_of n f) (λ j h. elim (cases_eq i j) [
      | inl e ↦ ap (slice_index (slice_set (zeros n) i 1)) (sym e) ∙ get_or-set_same (zeros n) i 1 0 (omega (arith, length_list_of n (λ k. 0)))
          ∙ sym (at_list_of n f j h ∙ cond-true (eqb i j) 1 0 (eq-eqb i j e))
      | inr d ↦ get_or-set_other (zeros n) i j 1 0 (λ q. d (sym q)) ∙ at_zeros n j h ∙ sym (at_list_of n f j h ∙ cond-false (eqb i j) 1 0 (ne_eqb i j d))
    ])

-- the rows so far are the first of the identity matrix
pub record IsIdentitySoFar (p n i : ℕ) (rows : ResidueMatrix) (row : ResidueRow) : Type 0 where
  pub modulus : rows.modulus ≡ p
  pub matrix : rows.matrix ≡ matrix_by i n (λ i j. if i == j then 1 else 0)
  pub row_modulus : row.modulus ≡ p
  pub row_length : length row.row ≡ n

-- the rows so far are those that are named so far
pub record IsSelectionSoFar (from : ResidueMatrix) (named : List ℕ) (made : ResidueMatrix) : Type 0 where
  pub modulus : made.modulus ≡ from.modulus
  pub matrix : made.matrix ≡ selected from.matrix named

-- the first n terms of the product of a stored row with a column
unfoldable pub sparse_dot : List ℕ → List ℕ → List ℕ → ℕ → ℕ
sparse_dot cs vs x n = sum_below n (λ t. slice_index vs t * slice_index x (slice_index cs t))

pub sparse_dot_none : (p : ℕ) (cs vs x : List ℕ) → 0 ≡ sparse_dot cs vs x 0 % p
unfolding sparse_dot
sparse_dot_none p cs vs x = sym (ap (λ t. t % p) (sum_none _) ∙ zero-mod p)

-- a term more
pub sparse_dot_more : (p : ℕ) (cs vs x : List ℕ) (n sum product next : ℕ) → sum ≡ sparse_dot cs vs x n % p → product ≡ (slice_index vs n * slice_index x (slice_index cs n)) % p →
    next ≡ (sum + product) % p → next ≡ sparse_dot cs vs x (n + 1) % p
unfolding sparse_dot
sparse_dot_more p cs vs x n sum product next a b c =
    let term : ℕ → ℕ = λ t. slice_index vs t * slice_index x (slice_index cs t) in
    c ∙ add_same p sum (sum_below n term) product (term n) (ap (λ t. t % p) a ∙ mod-mod _ p) (ap (λ t. t % p) b ∙ mod-mod _ p) ∙ ap (λ t. t % p) (sym (sum_more n term))

-- all terms
pub sparse_dot_all : {p n : ℕ} {v : List ℕ} → IsVector p n v → (x : List ℕ) → sparse_dot (support v) (nonzeros v) x (length (support v)) ≡ sum_below n (λ j. slice_index v j * slice_index x j)
unfolding sparse_dot
sparse_dot_all h x = sym (sum_over_support h (slice_index x))

-- the entry at i of the product of a matrix with a column
abbrev pub product_entry : ResidueMatrix → List ℕ → ℕ → ℕ
product_entry m x i = sum_below m.matrix.width (λ j. entry m.matrix i j * slice_index x j) % m.modulus

-- the first k stored entries are copied from `by` on
pub record IsCopiedSoFar (by k : ℕ) (cs vs old new : List ℕ) : Type 0 where
  pub long : length new ≡ length old
  pub before : (j : ℕ) → j < by → slice_index new j ≡ slice_index old j
  pub inside : (j : ℕ) → by + j < length old → slice_index new (by + j) ≡ entry_at (take k cs) (take k vs) j

module _ (by k : ℕ) (cs vs old new : List ℕ) (long : length cs ≡ length vs) (rising : (s t : ℕ) → s < t → t < length cs → slice_index cs s < slice_index cs t)
    (l : k < length cs) (so_far : IsCopiedSoFar by k cs vs old new) where
  -- the columns so far are below the next
  earlier : (t : ℕ) → t < length (take k cs) → slice_index (take k cs) t < slice_index cs k
  earlier t b =
      let low : t < k = omega (arith, length-take-le k cs (omega arith)) in
      omega (arith, get_or-take k cs t 0 low, rising t k low l)

  -- so the row is 0 from there on
  pub copied_behind : (m : ℕ) → by + slice_index cs k ≤ m → m < length new → slice_index new m ≡ 0
  copied_behind m a b =
      let e : by + (m - by) ≡ m = omega arith in
      ap (slice_index new) (sym e) ∙ so_far.inside (m - by) (omega (arith, so_far.long))
      ∙ entry_beyond (take k cs) (take k vs) (slice_index cs k) (m - by) earlier (omega arith)

  pub copied_more : (next : List ℕ) → by + slice_index cs k < length old → next ≡ slice_set new (by + slice_index cs k) (slice_index vs k) → IsCopiedSoFar by (k + 1) cs vs old next
  copied_more next within e =
      let c : ℕ = slice_index cs k in
      let v : ℕ = slice_index vs k in
      let columns : take (k + 1) cs ≡ take k cs ++ c ∷ [] = take_more cs k 0 l in
      let values : take (k + 1) vs ≡ take k vs ++ v ∷ [] = take_more vs k 0 (omega arith) in
      let same : length (take k cs) ≡ length (take k vs) = length-take-le k cs (omega arith) ∙ sym (length-take-le k vs (omega arith)) in
      record {
        long = ap length e ∙ length-set new (by + c) v ∙ so_far.long;
        before = λ j b. ap (λ u. slice_index u j) e ∙ get_or-set_other new (by + c) j v 0 (λ q. omega arith) ∙ so_far.before j b;
        inside = λ j b. ap (λ u. slice_index u (by + j)) e ∙ elim (cases_eq c j) [
          | inl q ↦
              let here : slice_index (slice_set new (by + c) v) (by + c) ≡ v = get_or-set_same new (by + c) v 0 (omega (arith, so_far.long)) in
              ap (λ i. slice_index (slice_set new (by + c) v) (by + i)) (sym q) ∙ here
              ∙ sym (ap (entry_at (take (k + 1) cs) (take (k + 1) vs)) (sym q) ∙ ap₂ (λ a b. entry_at a b c) columns values ∙ entry_push_same (take k cs) (take k vs) c v same earlier)
          | inr d ↦
              get_or-set_other new (by + c) (by + j) v 0 (λ q. d (omega arith)) ∙ so_far.inside j b
              ∙ sym (ap₂ (λ a b. entry_at a b j) columns values ∙ entry_push_other (take k cs) (take k vs) c v j same d)
        ];
      }

-- a row beside another
pub beside_row : (u v first both : List ℕ) (n m : ℕ) → length u ≡ n → length v ≡ m → length both ≡ n + m →
    ((j : ℕ) → j < n → slice_index first j ≡ slice_index u j) → ((j : ℕ) → j < n → slice_index both j ≡ slice_index first j) →
    ((j : ℕ) → j < m → slice_index both (n + j) ≡ slice_index v j) → both ≡ u ++ v
beside_row u v first both n m lu lv lb a b c = list_equal (n + m) both (u ++ v) lb (omega (arith, length-append u v)) (λ j l. elim (cases_lt j n) [
  | inl s ↦ b j s ∙ a j s ∙ sym (get_or_append_left u v 0 j (omega arith))
  | inr s ↦
      let e : n + (j - n) ≡ j = omega arith in
      ap (slice_index both) (sym e) ∙ c (j - n) (omega arith) ∙ sym (get_or-append_right u v n j 0 lu s)
])

-- the rows so far are those of two matrices side by side
pub record IsBesideSoFar (A B : ResidueMatrix) (i : ℕ) (rows : ResidueMatrix) (to : ResidueRow) : Type 0 where
  pub modulus : rows.modulus ≡ A.modulus
  pub matrix : rows.matrix ≡ sized i (A.matrix.width + B.matrix.width) (map (λ k. row A.matrix k ++ row B.matrix k) (range_with_len 0 i))
  pub row_modulus : to.modulus ≡ A.modulus
  pub row_length : length to.row ≡ A.matrix.width + B.matrix.width

-- one row more of two matrices side by side
pub beside_more : (A B : Matrix) (i w : ℕ) (r : List ℕ) → r ≡ row A i ++ row B i →
    with_row (sized i w (map (λ k. row A k ++ row B k) (range_with_len 0 i))) r ≡ sized (i + 1) w (map (λ k. row A k ++ row B k) (range_with_len 0 (i + 1)))
beside_more A B i w r e =
    ap (λ rs. sized (i + 1) w rs)
    (ap (λ t. map (λ k. row A k ++ row B k) (range_with_len 0 i) ++ t ∷ []) e ∙ sym (map-range_with_len_more (λ k. row A k ++ row B k) 0 i i (omega arith)))
