-- Lists of residues and matrices by their entries.
use Rattle.std.proofs.Common.{ℕ, ◌≡◌, ◌≢◌, ◌+◌, ◌*◌, ◌%◌, ◌<◌, ◌≤◌, ◌⊎◌, inl, inr, cond, eqb, List, [], ◌∷◌, ◌++◌, length, map, slice_index, sym, refl, ap, ap₂, ◌∙◌, arith, mod-lt, zero-mul, one-mul, mul_comm, mod-eq_of_lt, eq-eqb, ne_eqb}
use native.Mathlib.Nat.{mod-mod}
use Rattle.std.proofs.lemmas.Bool.{cases_lt, cases_eq, cond-true, cond-false}
use Rattle.residue_words.proofs.Sums.{sum_equal, sum_single, sum_pair, sum_reduce, sum_reduce_right, sum_linear, sum_through}
use Rattle.std.specs.List.{range_with_len}
use Rattle.std.proofs.lemmas.List.{ext_get_or}
use Rattle.std.proofs.lemmas.List.FromFn.{length-map-range_with_len, get_or-map-range_with_len, map-range_with_len_more}
use Rattle.residue_words.specs.Residues.{sum_below}
use Rattle.residue_words.specs.Matrix.{Matrix, IsVector, IsMatrix, IsCombination, row, entry, list_of, dot, combine, apply, zeros}

-- the list of n values has n elements
pub length_list_of : (n : ℕ) (f : ℕ → ℕ) → length (list_of n f) ≡ n
length_list_of n f = length-map-range_with_len f 0 n

-- its element at j is the value at j
pub at_list_of : (n : ℕ) (f : ℕ → ℕ) (j : ℕ) → j < n → slice_index (list_of n f) j ≡ f j
at_list_of n f j l = get_or-map-range_with_len f 0 n j j 0 l (omega arith)

-- one value more
pub list_of_more : (n : ℕ) (f : ℕ → ℕ) → list_of (n + 1) f ≡ list_of n f ++ f n ∷ []
list_of_more n f = map-range_with_len_more f 0 n n (omega arith)

-- lists of equal length with equal elements are equal
pub list_equal : (n : ℕ) (u v : List ℕ) → length u ≡ n → length v ≡ n → ((j : ℕ) → j < n → slice_index u j ≡ slice_index v j) → u ≡ v
list_equal n u v a b h = ext_get_or 0 u v (omega arith) (λ i l. h i (omega arith))

-- lists of equal values are equal
pub list_of_equal : (n : ℕ) (f g : ℕ → ℕ) → ((j : ℕ) → j < n → f j ≡ g j) → list_of n f ≡ list_of n g
list_of_equal n f g h = list_equal n _ _ (length_list_of n f) (length_list_of n g) (λ j l. at_list_of n f j l ∙ h j l ∙ sym (at_list_of n g j l))

-- values of equal lists are equal
pub list_of_inner : (n : ℕ) (f g : ℕ → ℕ) → list_of n f ≡ list_of n g → (j : ℕ) → j < n → f j ≡ g j
list_of_inner n f g e j l = sym (at_list_of n f j l) ∙ ap (λ u. slice_index u j) e ∙ at_list_of n g j l

-- a list is the list of its elements
pub list_of_self : (n : ℕ) (v : List ℕ) → length v ≡ n → list_of n (slice_index v) ≡ v
list_of_self n v e = list_equal n _ v (length_list_of n (slice_index v)) e (λ j l. at_list_of n (slice_index v) j l)

-- a list of residues
pub vector_of : (p n : ℕ) (f : ℕ → ℕ) → ((j : ℕ) → j < n → f j < p) → IsVector p n (list_of n f)
vector_of p n f h = record { len = length_list_of n f; residues = λ j l. omega (arith, at_list_of n f j l, h j l) }

-- vectors with equal entries are equal
pub vector_equal : (p n : ℕ) (u v : List ℕ) → IsVector p n u → IsVector p n v → ((j : ℕ) → j < n → slice_index u j ≡ slice_index v j) → u ≡ v
vector_equal p n u v a b h = list_equal n u v a.len b.len h

-- the zero vector
pub at_zeros : (n j : ℕ) → j < n → slice_index (zeros n) j ≡ 0
at_zeros n j l = at_list_of n (λ j. 0) j l

pub zeros_vector : (p n : ℕ) → 0 < p → IsVector p n (zeros n)
zeros_vector p n pos = vector_of p n (λ j. 0) (λ j l. pos)

-- the entries of y A
pub at_combine : (p : ℕ) (y : List ℕ) (A : Matrix) (j : ℕ) → j < A.width → slice_index (combine p y A) j ≡ sum_below A.height (λ i. slice_index y i * entry A i j) % p
at_combine p y A j l = at_list_of A.width (λ j. sum_below A.height (λ i. slice_index y i * entry A i j) % p) j l

-- the entries of A x
pub at_apply : (p : ℕ) (A : Matrix) (x : List ℕ) (i : ℕ) → i < A.height → slice_index (apply p A x) i ≡ sum_below A.width (λ j. entry A i j * slice_index x j) % p
at_apply p A x i l = at_list_of A.height (λ i. sum_below A.width (λ j. entry A i j * slice_index x j) % p) i l

-- y A is a vector of residues, and so is A x
pub combine_vector : (p : ℕ) (y : List ℕ) (A : Matrix) → 0 < p → IsVector p A.width (combine p y A)
combine_vector p y A pos = vector_of p A.width (λ j. sum_below A.height (λ i. slice_index y i * entry A i j) % p) (λ j l. mod-lt _ pos)

pub apply_vector : (p : ℕ) (A : Matrix) (x : List ℕ) → 0 < p → IsVector p A.height (apply p A x)
apply_vector p A x pos = vector_of p A.height (λ i. sum_below A.width (λ j. entry A i j * slice_index x j) % p) (λ i l. mod-lt _ pos)

-- the matrix with the entries f i j
abbrev pub matrix_of : ℕ → ℕ → (ℕ → ℕ → ℕ) → Matrix
matrix_of height width f = record { height = height; width = width; rows = map (λ i. list_of width (f i)) (range_with_len 0 height) }

-- its row at i
pub row_matrix_of : (h w : ℕ) (f : ℕ → ℕ → ℕ) (i : ℕ) → i < h → row (matrix_of h w f) i ≡ list_of w (f i)
row_matrix_of h w f i l = get_or-map-range_with_len (λ i. list_of w (f i)) 0 h i i [] l (omega arith)

-- its entry
pub entry_matrix_of : (h w : ℕ) (f : ℕ → ℕ → ℕ) (i j : ℕ) → i < h → j < w → entry (matrix_of h w f) i j ≡ f i j
entry_matrix_of h w f i j a b = ap (λ u. slice_index u j) (row_matrix_of h w f i a) ∙ at_list_of w (f i) j b

-- it is a matrix of residues where its entries are residues
pub is_matrix_of : (p h w : ℕ) (f : ℕ → ℕ → ℕ) → ((i j : ℕ) → i < h → j < w → f i j < p) → IsMatrix p (matrix_of h w f)
is_matrix_of p h w f small = record {
  len = length-map-range_with_len (λ i. list_of w (f i)) 0 h;
  each = λ i l. rw (row_matrix_of h w f i l) (vector_of p w (f i) (λ j k. small i j l k));
}

-- an entry of a matrix of residues is a residue
pub entry_residue : (p : ℕ) (A : Matrix) → IsMatrix p A → (i j : ℕ) → i < A.height → j < A.width → entry A i j < p
entry_residue p A m i j a b = (m.each i a).residues j b

-- the matrix with these sizes and rows
abbrev with_rows : ℕ → ℕ → List (List ℕ) → Matrix
with_rows h w r = record { height = h; width = w; rows = r }

-- matrices of equal sizes with equal entries are equal
pub matrix_equal : (p : ℕ) (A B : Matrix) → IsMatrix p A → IsMatrix p B → A.height ≡ B.height → A.width ≡ B.width →
    ((i j : ℕ) → i < A.height → j < A.width → entry A i j ≡ entry B i j) → A ≡ B
matrix_equal p A B a b height width same =
    let rows : A.rows ≡ B.rows = ext_get_or [] A.rows B.rows (omega (arith, a.len, b.len)) (λ i l.
    let la : i < A.height = omega (arith, a.len) in
    let lb : i < B.height = omega arith in
    list_equal A.width _ _ (a.each i la).len ((b.each i lb).len ∙ sym width) (λ j k. same i j la k)) in
    ap (λ h. with_rows h A.width A.rows) height ∙ ap (λ w. with_rows B.height w A.rows) width ∙ ap (with_rows B.height B.width) rows

-- the unit coefficients of the row k
abbrev pub delta : ℕ → ℕ → ℕ
delta k i = cond (eqb i k) 1 0

pub delta_same : (k : ℕ) → delta k k ≡ 1
delta_same k = cond-true (eqb k k) 1 0 (eq-eqb k k refl)

pub delta_other : (k i : ℕ) → i ≢ k → delta k i ≡ 0
delta_other k i d = cond-false (eqb i k) 1 0 (ne_eqb i k d)

-- a sum with unit coefficients is one term
pub sum_delta : (n k : ℕ) (f : ℕ → ℕ) → k < n → sum_below n (λ i. delta k i * f i) ≡ f k
sum_delta n k f l =
    sum_single n (λ i. delta k i * f i) k l (λ i s d. ap (λ x. x * f i) (delta_other k i d) ∙ zero-mul (f i))
    ∙ ap (λ x. x * f k) (delta_same k) ∙ one-mul (f k)

-- the combination with one coefficient 1 and the others 0 is a row
pub combine_single : (p : ℕ) (y : List ℕ) (A : Matrix) (k : ℕ) → 2 ≤ p → IsMatrix p A → k < A.height → slice_index y k ≡ 1 →
    ((i : ℕ) → i < A.height → i ≢ k → slice_index y i ≡ 0) → combine p y A ≡ row A k
combine_single p y A k two m l one others = vector_equal p A.width _ _ (combine_vector p y A (omega arith)) (m.each k l) (λ j lj.
    at_combine p y A j lj
    ∙ ap (λ x. x % p)
    (sum_single A.height (λ i. slice_index y i * entry A i j) k l (λ i li d. ap (λ x. x * entry A i j) (others i li d) ∙ zero-mul (entry A i j))
    ∙ ap (λ x. x * entry A k j) one ∙ one-mul (entry A k j))
    ∙ mod-eq_of_lt (entry_residue p A m k j l lj))

-- each row of A is in its row space
pub row_combination : (p : ℕ) (A : Matrix) (k : ℕ) → 2 ≤ p → IsMatrix p A → k < A.height → IsCombination p A (row A k)
row_combination p A k two m l = (
  list_of A.height (delta k),
  vector_of p A.height (delta k) (λ j lj. elim (cases_eq j k) [ inl e ↦ omega (arith, ap (delta k) e, delta_same k) | inr d ↦ omega (arith, delta_other k j d) ]),
  sym (combine_single p (list_of A.height (delta k)) A k two m l (at_list_of A.height (delta k) k l ∙ delta_same k)
      (λ i li d. at_list_of A.height (delta k) i li ∙ delta_other k i d)),
)

-- what is in the row space of A is a vector of residues
pub combination_vector : (p : ℕ) (A : Matrix) (v : List ℕ) → 0 < p → IsCombination p A v → IsVector p A.width v
combination_vector p A v pos c = rw c.2 (combine_vector p c.0 A pos)

-- the combination c y + d z
abbrev pub mix : ℕ → ℕ → ℕ → ℕ → List ℕ → List ℕ → List ℕ
mix p n c d y z = list_of n (λ i. (c * slice_index y i + d * slice_index z i) % p)

pub at_mix : (p n c d : ℕ) (y z : List ℕ) (i : ℕ) → i < n → slice_index (mix p n c d y z) i ≡ (c * slice_index y i + d * slice_index z i) % p
at_mix p n c d y z i l = at_list_of n (λ i. (c * slice_index y i + d * slice_index z i) % p) i l

pub mix_vector : (p n c d : ℕ) (y z : List ℕ) → 0 < p → IsVector p n (mix p n c d y z)
mix_vector p n c d y z pos = vector_of p n (λ i. (c * slice_index y i + d * slice_index z i) % p) (λ i l. mod-lt _ pos)

-- (c y + d z) . w
pub dot_linear : (p n c d : ℕ) (y z w : List ℕ) → dot p n (mix p n c d y z) w ≡ (c * dot p n y w + d * dot p n z w) % p
dot_linear p n c d y z w =
    ap (λ x. x % p) (sum_equal n (λ k. slice_index (mix p n c d y z) k * slice_index w k) (λ k. (c * slice_index y k + d * slice_index z k) % p * slice_index w k)
    (λ k l. ap (λ x. x * slice_index w k) (at_mix p n c d y z k l)))
    ∙ sum_linear p n c d (slice_index y) (slice_index z) (slice_index w)

-- (c y + d z) A, by entries
pub combine_linear : (p c d : ℕ) (y z : List ℕ) (A : Matrix) → combine p (mix p A.height c d y z) A ≡ mix p A.width c d (combine p y A) (combine p z A)
combine_linear p c d y z A = list_of_equal A.width _ _ (λ j l.
    ap (λ x. x % p) (sum_equal A.height (λ i. slice_index (mix p A.height c d y z) i * entry A i j) (λ i. (c * slice_index y i + d * slice_index z i) % p * entry A i j)
    (λ k lk. ap (λ x. x * entry A k j) (at_mix p A.height c d y z k lk)))
    ∙ sum_linear p A.height c d (slice_index y) (slice_index z) (λ i. entry A i j)
    ∙ ap₂ (λ a b. (c * a + d * b) % p) (sym (at_combine p y A j l)) (sym (at_combine p z A j l)))

-- A (c x + d z), by entries
pub apply_linear : (p c d : ℕ) (A : Matrix) (x z : List ℕ) → apply p A (mix p A.width c d x z) ≡ mix p A.height c d (apply p A x) (apply p A z)
apply_linear p c d A x z = list_of_equal A.height _ _ (λ i l.
    ap (λ x. x % p) (sum_equal A.width (λ j. entry A i j * slice_index (mix p A.width c d x z) j) (λ j. (c * slice_index x j + d * slice_index z j) % p * entry A i j)
    (λ k lk. ap (λ t. entry A i k * t) (at_mix p A.width c d x z k lk) ∙ mul_comm (entry A i k) _))
    ∙ sum_linear p A.width c d (slice_index x) (slice_index z) (λ j. entry A i j)
    ∙ ap₂ (λ a b. (c * a + d * b) % p) (turned x i ∙ sym (at_apply p A x i l)) (turned z i ∙ sym (at_apply p A z i l)))
  where
    turned : (v : List ℕ) (i : ℕ) → sum_below A.width (λ j. slice_index v j * entry A i j) % p ≡ sum_below A.width (λ j. entry A i j * slice_index v j) % p
    turned v i = ap (λ x. x % p) (sum_equal A.width (λ j. slice_index v j * entry A i j) (λ j. entry A i j * slice_index v j) (λ j l. mul_comm (slice_index v j) (entry A i j)))

-- the row space is closed under c u + d v
pub combination_mix : (p c d : ℕ) (A : Matrix) (u v : List ℕ) → 0 < p → IsCombination p A u → IsCombination p A v → IsCombination p A (mix p A.width c d u v)
combination_mix p c d A u v pos a b = (
  mix p A.height c d a.0 b.0,
  mix_vector p A.height c d a.0 b.0 pos,
  ap₂ (mix p A.width c d) a.2 b.2 ∙ sym (combine_linear p c d a.0 b.0 A),
)

-- (y A) . x is y . (A x)
pub dot_combine : (p : ℕ) (y : List ℕ) (A : Matrix) (x : List ℕ) → dot p A.width (combine p y A) x ≡ dot p A.height y (apply p A x)
dot_combine p y A x =
    ap (λ t. t % p) (sum_equal A.width (λ j. slice_index (combine p y A) j * slice_index x j) (λ j. sum_below A.height (λ i. slice_index y i * entry A i j) % p * slice_index x j)
    (λ j l. ap (λ t. t * slice_index x j) (at_combine p y A j l)))
    ∙ sum_reduce p A.width (λ j. sum_below A.height (λ i. slice_index y i * entry A i j)) (slice_index x)
    ∙ ap (λ t. t % p) (sym (sum_pair A.height A.width (slice_index y) (entry A) (slice_index x)))
    ∙ sym (sum_reduce_right p A.height (slice_index y) (λ i. sum_below A.width (λ j. entry A i j * slice_index x j)))
    ∙ ap (λ t. t % p) (sum_equal A.height (λ i. slice_index y i * (sum_below A.width (λ j. entry A i j * slice_index x j) % p)) (λ i. slice_index y i * slice_index (apply p A x) i)
    (λ i l. ap (λ t. slice_index y i * t) (sym (at_apply p A x i l))))

-- a vector that is a sum of rows of B is in its row space
pub combination_of : (p : ℕ) (B : Matrix) (v : List ℕ) (c : ℕ → ℕ) → 0 < p → IsVector p B.width v →
    ((j : ℕ) → j < B.width → slice_index v j % p ≡ sum_below B.height (λ k. c k * entry B k j) % p) → IsCombination p B v
combination_of p B v c pos vector same =
    let y : List ℕ = list_of B.height (λ k. c k % p) in (
      y,
      vector_of p B.height (λ k. c k % p) (λ k l. mod-lt (c k) pos),
      list_equal B.width v (combine p y B) vector.len (length_list_of B.width _) (λ j l.
          sym (mod-eq_of_lt (vector.residues j l)) ∙ same j l
          ∙ sym (sum_reduce p B.height c (λ k. entry B k j))
          ∙ ap (λ x. x % p) (sum_equal B.height (λ k. c k % p * entry B k j) (λ k. slice_index y k * entry B k j) (λ k b. ap (λ x. x * entry B k j) (sym (at_list_of B.height (λ k. c k % p) k b))))
          ∙ sym (at_combine p y B j l)),
    )

-- coefficients of the rows of A in those of B, for all rows at once
pick : (p : ℕ) (A B : Matrix) → ((i : ℕ) → i < A.height → IsCombination p B (row A i)) → (i : ℕ) → (i < A.height) ⊎ (A.height ≤ i) → List ℕ
pick p A B h i (inl l) = (h i l).0
pick p A B h i (inr l) = []

picked : (p : ℕ) (A B : Matrix) (h : (i : ℕ) → i < A.height → IsCombination p B (row A i)) (i : ℕ) (c : (i < A.height) ⊎ (A.height ≤ i)) → i < A.height →
    row A i ≡ combine p (pick p A B h i c) B
unfolding pick
picked p A B h i (inl l) _ = (h i l).2
picked p A B h i (inr l) s = absurd (omega arith)

-- where each row of A is in the row space of B, the row space of A is
pub combination_through : (p : ℕ) (A B : Matrix) (v : List ℕ) → 0 < p → A.width ≡ B.width → ((i : ℕ) → i < A.height → IsCombination p B (row A i)) →
    IsCombination p A v → IsCombination p B v
combination_through p A B v pos width h c =
    let f : ℕ → List ℕ = λ i. pick p A B h i (cases_lt i A.height) in
    let y : List ℕ = c.0 in
    let w : ℕ → ℕ = λ k. sum_below A.height (λ i. slice_index y i * slice_index (f i) k) in
    let long : length v ≡ B.width = ap length c.2 ∙ length_list_of A.width _ ∙ width in (
      list_of B.height (λ k. w k % p),
      vector_of p B.height (λ k. w k % p) (λ k l. mod-lt (w k) pos),
      list_equal B.width v (combine p (list_of B.height (λ k. w k % p)) B) long (length_list_of B.width _) (λ j l.
          ap (λ u. slice_index u j) c.2 ∙ at_combine p y A j (omega arith)
          ∙ sum_through p A.height B.height (slice_index y) (λ i. entry A i j) (λ i. slice_index (f i)) (λ k. entry B k j)
          (λ i li. ap (λ u. slice_index u j % p) (picked p A B h i (cases_lt i A.height) li) ∙ ap (λ x. x % p) (at_combine p (f i) B j l) ∙ mod-mod _ p)
          ∙ sym (sum_reduce p B.height w (λ k. entry B k j))
          ∙ ap (λ x. x % p) (sum_equal B.height (λ k. w k % p * entry B k j) (λ k. slice_index (list_of B.height (λ k. w k % p)) k * entry B k j)
          (λ k lk. ap (λ x. x * entry B k j) (sym (at_list_of B.height (λ k. w k % p) k lk))))
          ∙ sym (at_combine p (list_of B.height (λ k. w k % p)) B j l)),
    )
