-- The inverse is read off the form of [A | I].
use Rattle.std.proofs.Common.{ℕ, zero, suc, ◌≡◌, ◌≢◌, ◌+◌, ◌-◌, ◌*◌, ◌%◌, ◌<◌, ◌≤◌, inl, inr, List, length, slice_index, sym, refl, ap, ap₂, subst, ◌∙◌, arith, mod-eq_of_lt, mul-one, mul-zero, mul_comm}
use Rattle.std.proofs.lemmas.Bool.{cases_eq, cases_lt}
use Rattle.residue_words.specs.Residues.{sum_below}
use Rattle.residue_words.specs.Matrix.{Matrix, IsMatrix, IsVector, apply, combine, dot, entry, list_of, row, zeros}
use native.Mathlib.Nat.{zero-mod}
use Rattle.residue_words.proofs.Sums.{sum_equal, sum_more, sum_none, sum_single}
use Rattle.residue_words.proofs.Vectors.{at_combine, at_list_of, at_zeros, combination_vector, combine_single, delta, delta_other, delta_same, dot_combine, entry_matrix_of, entry_residue, is_matrix_of, length_list_of, list_equal, list_of_equal, matrix_of, row_combination, sum_delta, vector_of}
use Rattle.sparse_rows.specs.Rows.{beside, entry_count, identity, matrix_by, support, transposed}
use Rattle.row_space.specs.Echelon.{HasLeads, IsIndependent, IsRref}
use Rattle.row_space.specs.Inverse.{IsInverse, unit}
use Rattle.row_space.specs.Kernel.{IsKernel, IsNull}
use Rattle.row_space.proofs.Counting.{span_height, spanned_back}
use Rattle.row_space.proofs.KernelLaws.{dot_zeros, identity_spans}
use Rattle.row_space.proofs.Spans.{places_independent}
use Rattle.echelon_form.specs.Form.{Form, IsFormOf}
use Rattle.kernel_solve.specs.Inverted.{IsSingular}
use Rattle.kernel_solve.proofs.AtLeads.{entry_absent}
use Rattle.kernel_solve.proofs.Matrices.{beside_left, beside_matrix, beside_right, identity_matrix, identity_other, identity_same, transposed_entry}

-- a square matrix with a left null vector y that is 1 at a place
module _ (p : ℕ) (A : Matrix) (y : List ℕ) (at : ℕ) (two : 2 ≤ p) (square : A.height ≡ A.width) (inside : at < A.width) (zero_sum : combine p y A ≡ zeros A.width) (one_there : slice_index y at ≡ 1) where
  -- if only zero were null, the columns of A would span each vector, that with a 1 there too; but y refutes it
  never_trivial : ((x : List ℕ) → IsNull p A x → x ≡ zeros A.width) → ⊥
  never_trivial trivial =
      let n : ℕ = A.width in
      let pos : 0 < p = omega arith in
      let turned : (x : List ℕ) → combine p x (transposed A) ≡ apply p A x = λ x. list_of_equal A.height _ _ (λ i l.
      ap (λ t. t % p) (sum_equal n (λ j. slice_index x j * entry (transposed A) j i) (λ j. entry A i j * slice_index x j) (λ j o.
      ap (λ t. slice_index x j * t) (transposed_entry A j i o l) ∙ mul_comm (slice_index x j) (entry A i j)))) in
      let independent : IsIndependent p (transposed A) = λ x v e. trivial x (v, sym (turned x) ∙ e) in
      let e : List ℕ = list_of n (delta at) in
      let vector : IsVector p n e = vector_of p n (delta at) (λ j o. elim (cases_eq j at) [
        | inl q ↦ omega (arith, ap (delta at) q, delta_same at)
        | inr d ↦ omega (arith, delta_other at j d)
      ]) in
      let wide_enough : (v : List ℕ) → IsVector p A.height v → IsVector p n v = λ v h. subst (λ k. IsVector p k v) square h in
      let c = spanned_back p (transposed A) (matrix_of n n delta) two independent
      (λ v c. identity_spans p n v pos (wide_enough v (combination_vector p (transposed A) v pos c))) (omega arith) e (identity_spans p n e pos vector) in
      let product : dot p A.height y (apply p A c.0) ≡ 0 =
      sym (dot_combine p y A c.0) ∙ ap (λ u. dot p n u c.0) zero_sum ∙ dot_zeros p n c.0 in
      let one : dot p n y e ≡ 1 =
      ap (λ t. t % p) (sum_equal n (λ k. slice_index y k * slice_index e k) (λ k. delta at k * slice_index y k) (λ k o.
      ap (λ t. slice_index y k * t) (at_list_of n (delta at) k o) ∙ mul_comm (slice_index y k) (delta at k))
      ∙ sum_delta n at (slice_index y) inside ∙ one_there)
      ∙ mod-eq_of_lt two in
      let same : dot p n y e ≡ dot p A.height y (apply p A c.0) = ap₂ (λ h u. dot p h y u) (sym square) (c.2 ∙ turned c.0) in
      omega (arith, one, same, product)

  -- so the kernel basis has a row
  pub kernel_some : (K : Matrix) → IsKernel p A K → 0 < K.height
  kernel_some K k = elim (cases_lt 0 K.height) [
    | inl l ↦ l
    | inr none ↦
        let empty : K.height ≡ 0 = omega arith in
        absurd (never_trivial (λ x null.
        let c = k.every x null in
        list_equal A.width x (zeros A.width) null.0.len (length_list_of A.width (λ j. 0)) (λ j l.
        ap (λ u. slice_index u j) c.2 ∙ at_combine p c.0 K j (omega (arith, k.width)) ∙ ap (λ h. sum_below h (λ i. slice_index c.0 i * entry K i j) % p) empty
        ∙ zero_none (λ i. slice_index c.0 i * entry K i j) ∙ sym (at_zeros A.width j l))))
  ]
    where
      zero_none : (f : ℕ → ℕ) → sum_below 0 f % p ≡ 0
      zero_none f = ap (λ t. t % p) (sum_none f) ∙ zero-mod p

-- of n numbers with a sum below n one is 0
zero_term : (n : ℕ) (f : ℕ → ℕ) → sum_below n f < n → (i : ℕ) × (i < n) × (f i ≡ 0)
zero_term zero f l = absurd (omega arith)
zero_term (suc n) f l = elim (cases_eq (f n) 0) [
  | inl z ↦ (n, omega arith, z)
  | inr d ↦
      let next : suc n ≡ n + 1 = omega arith in
      let more : sum_below (suc n) f ≡ sum_below n f + f n = ap (λ k. sum_below k f) next ∙ sum_more n f in
      let found = zero_term n f (omega arith) in
      (found.0, omega (arith, found.1), found.2)
]

-- a square matrix with fewer entries than rows has a row of zeros, so its kernel basis has a row
pub few_entries : (p : ℕ) (A : Matrix) → 2 ≤ p → IsMatrix p A → A.height ≡ A.width → entry_count A < A.height → IsSingular p A
few_entries p A two m square few =
    let found = zero_term A.height (λ i. length (support (row A i))) (omega arith) in
    let i : ℕ = found.0 in
    let inside : i < A.height = found.1 in
    let y : List ℕ = list_of A.height (delta i) in
    let one : slice_index y i ≡ 1 = at_list_of A.height (delta i) i inside ∙ delta_same i in
    let zero_row : row A i ≡ zeros A.width = list_equal A.width _ _ (m.each i inside).len (length_list_of A.width (λ j. 0)) (λ j l.
    sym (entry_absent (row A i) j (λ k o e. omega (arith, found.2))) ∙ sym (at_zeros A.width j l)) in
    let combined : combine p y A ≡ row A i = combine_single p y A i two m inside one (λ k l d. at_list_of A.height (delta i) k l ∙ delta_other i k d) in
    kernel_some p A y i two square (omega arith) (combined ∙ zero_row) one

-- the n columns from n on of n rows
abbrev pub half_of : ℕ → Matrix → Matrix
half_of n F = matrix_by n n (λ i j. entry F i (n + j))

module _ (p : ℕ) (A F : Matrix) (leads : List ℕ) (two : 2 ≤ p) (m : IsMatrix p A) (square : A.height ≡ A.width)
    (rref : IsRref p (beside A (identity A.width)) F) (has : HasLeads F leads) where
  abbrev n : ℕ
  n = A.width

  abbrev whole : Matrix
  whole = beside A (identity n)

  whole_matrix : IsMatrix p whole
  whole_matrix = beside_matrix m (identity_matrix p n two) square

  whole_left : (i j : ℕ) → i < n → j < n → entry whole i j ≡ entry A i j
  whole_left i j a b = beside_left m (identity n) i j (omega arith) b

  whole_right : (i j : ℕ) → i < n → entry whole i (n + j) ≡ entry (identity n) i j
  whole_right i j a = beside_right m (identity n) i j (omega arith)

  wide : F.width ≡ n + n
  wide = rref.width

  -- a combination of these rows ends with its coefficients, and begins with the combination of the rows of A
  combined_right : (y : List ℕ) → IsVector p n y → (j : ℕ) → j < n → slice_index (combine p y whole) (n + j) ≡ slice_index y j
  combined_right y v j l =
      at_combine p y whole (n + j) (omega arith)
      ∙ ap (λ h. sum_below h (λ i. slice_index y i * entry whole i (n + j)) % p) square
      ∙ ap (λ t. t % p) (sum_single n (λ i. slice_index y i * entry whole i (n + j)) j l
      (λ i b d. ap (λ t. slice_index y i * t) (whole_right i j b ∙ identity_other n i j b l d) ∙ mul-zero (slice_index y i))
      ∙ ap (λ t. slice_index y j * t) (whole_right j j l ∙ identity_same n j l) ∙ mul-one (slice_index y j))
      ∙ mod-eq_of_lt (v.residues j l)

  combined_left : (y : List ℕ) (j : ℕ) → j < n → slice_index (combine p y whole) j ≡ sum_below n (λ i. slice_index y i * entry A i j) % p
  combined_left y j l =
      at_combine p y whole j (omega arith)
      ∙ ap (λ h. sum_below h (λ i. slice_index y i * entry whole i j) % p) square
      ∙ ap (λ t. t % p) (sum_equal n (λ i. slice_index y i * entry whole i j) (λ i. slice_index y i * entry A i j) (λ i b. ap (λ t. slice_index y i * t) (whole_left i j b l)))

  -- they are independent
  whole_independent : IsIndependent p whole
  whole_independent y v e =
      let vector : IsVector p n y = subst (λ h. IsVector p h y) square v in
      list_equal A.height y (zeros A.height) v.len (length_list_of A.height (λ j. 0)) (λ j l.
      let b : j < n = omega arith in
      sym (combined_right y vector j b) ∙ ap (λ u. slice_index u (n + j)) e ∙ at_zeros whole.width (n + j) (omega arith) ∙ sym (at_zeros A.height j l))

  -- so the form has n rows
  tall : F.height ≡ n
  tall =
      sym (span_height p whole F two whole_matrix rref.matrix (sym rref.width) whole_independent (places_independent p _ F (slice_index leads) (omega arith) has.1) rref.span) ∙ square

  -- the coefficients of a row of the form stand in its right half
  coefficients : (k : ℕ) → k < n → (y : List ℕ) × IsVector p n y × (row F k ≡ combine p y whole)
  coefficients k l =
      let c = (rref.span (row F k)).1 (row_combination p F k two rref.matrix (omega (arith, tall))) in
      (c.0, subst (λ h. IsVector p h c.0) square c.1, c.2)

  row_right : (k : ℕ) (l : k < n) (j : ℕ) → j < n → entry F k (n + j) ≡ slice_index (coefficients k l).0 j
  row_right k l j b = let c = coefficients k l in ap (λ u. slice_index u (n + j)) c.2 ∙ combined_right c.0 c.1 j b

  row_left : (k : ℕ) → k < n → (j : ℕ) → j < n → entry F k j ≡ sum_below n (λ i. entry F k (n + i) * entry A i j) % p
  row_left k l j b =
      let c = coefficients k l in
      ap (λ u. slice_index u j) c.2 ∙ combined_left c.0 j b
      ∙ ap (λ t. t % p) (sum_equal n (λ i. slice_index c.0 i * entry A i j) (λ i. entry F k (n + i) * entry A i j) (λ i o. ap (λ t. t * entry A i j) (sym (row_right k l i o))))

  -- the rows of the whole are combinations of the form's rows
  weights : (i : ℕ) → i < n → (z : List ℕ) × IsVector p F.height z × (row whole i ≡ combine p z F)
  weights i l = (rref.span (row whole i)).0 (row_combination p whole i two whole_matrix (omega arith))

  module _ (last : 0 < n → slice_index leads (n - 1) < n) where
    -- the leads are the first n columns
    lead_low : (k : ℕ) → k < n → k ≤ slice_index leads k
    lead_low zero l = omega arith
    lead_low (suc k) l = omega (arith, lead_low k (omega arith), has.1.rising k (suc k) (omega arith) (omega (arith, tall)))

    lead_high : (d k : ℕ) → k + d + 1 ≡ n → slice_index leads k + d < n
    lead_high zero k e = let same : k ≡ n - 1 = omega arith in omega (arith, ap (slice_index leads) same, last (omega arith))
    lead_high (suc d) k e = omega (arith, lead_high d (k + 1) (omega arith), has.1.rising k (k + 1) (omega arith) (omega (arith, tall)))

    lead_is : (k : ℕ) → k < n → slice_index leads k ≡ k
    lead_is k l = omega (arith, lead_low k l, lead_high (n - k - 1) k (omega arith))

    -- so the left half is the identity
    left_same : (k : ℕ) → k < n → entry F k k ≡ 1
    left_same k l = ap (entry F k) (sym (lead_is k l)) ∙ has.1.one k (omega (arith, tall))

    left_other : (k j : ℕ) → k < n → j < n → k ≢ j → entry F k j ≡ 0
    left_other k j a b d = ap (entry F k) (sym (lead_is j b)) ∙ has.1.alone j k (omega (arith, tall)) (omega (arith, tall)) d

    left_unit : (k j : ℕ) → k < n → j < n → entry F k j ≡ delta j k
    left_unit k j a b = elim (cases_eq k j) [
      | inl e ↦ ap (entry F k) (sym e) ∙ left_same k a ∙ sym (ap (delta j) e ∙ delta_same j)
      | inr d ↦ left_other k j a b d ∙ sym (delta_other j k d)
    ]

    abbrev B : Matrix
    B = half_of n F

    B_entry : (i j : ℕ) → i < n → j < n → entry B i j ≡ entry F i (n + j)
    B_entry i j a b = entry_matrix_of n n (λ i j. entry F i (n + j)) i j a b

    B_matrix : IsMatrix p B
    B_matrix = is_matrix_of p n n (λ i j. entry F i (n + j)) (λ i j a b. entry_residue p F rref.matrix i (n + j) (omega (arith, tall)) (omega (arith, wide)))

    -- B A is the identity
    B_left : (i : ℕ) → i < n → combine p (row B i) A ≡ unit n i
    B_left i l = list_equal n _ _ (length_list_of n _) (length_list_of n _) (λ j b.
        at_combine p (row B i) A j b
        ∙ ap (λ h. sum_below h (λ k. entry B i k * entry A k j) % p) square
        ∙ ap (λ t. t % p) (sum_equal n (λ k. entry B i k * entry A k j) (λ k. entry F i (n + k) * entry A k j) (λ k o. ap (λ t. t * entry A k j) (B_entry i k l o)))
        ∙ sym (row_left i l j b) ∙ left_unit i j l b ∙ delta_turned i j ∙ sym (at_list_of n (delta i) j b))
      where
        delta_turned : (i j : ℕ) → delta j i ≡ delta i j
        delta_turned i j = elim (cases_eq i j) [
          | inl e ↦ ap (delta j) e ∙ delta_same j ∙ sym (ap (delta i) (sym e) ∙ delta_same i)
          | inr d ↦ delta_other j i d ∙ sym (delta_other i j (λ e. d (sym e)))
        ]

    -- the coefficients of a row of the whole are the row of A
    weight_is : (i : ℕ) (l : i < n) (k : ℕ) → k < n → slice_index (weights i l).0 k ≡ entry A i k
    weight_is i l k b =
        let w = weights i l in
        let read : entry whole i k ≡ slice_index w.0 k =
        ap (λ u. slice_index u k) w.2 ∙ at_combine p w.0 F k (omega (arith, wide))
        ∙ ap (λ t. t % p) (sum_single F.height (λ t. slice_index w.0 t * entry F t k) k (omega (arith, tall))
        (λ t o d. ap (λ x. slice_index w.0 t * x) (left_other t k (omega (arith, tall)) b d) ∙ mul-zero (slice_index w.0 t))
        ∙ ap (λ x. slice_index w.0 k * x) (left_same k b) ∙ mul-one (slice_index w.0 k))
        ∙ mod-eq_of_lt (w.1.residues k (omega (arith, tall))) in
        sym read ∙ whole_left i k l b

    -- A B is the identity
    B_right : (i : ℕ) → i < n → combine p (row A i) B ≡ unit n i
    B_right i l = list_equal n _ _ (length_list_of n _) (length_list_of n _) (λ j b.
        let w = weights i l in
        at_combine p (row A i) B j b
        ∙ ap (λ t. t % p) (sum_equal n (λ k. entry A i k * entry B k j) (λ k. slice_index w.0 k * entry F k (n + j)) (λ k o. ap₂ (λ s t. s * t) (sym (weight_is i l k o)) (B_entry k j o b)))
        ∙ ap (λ h. sum_below h (λ k. slice_index w.0 k * entry F k (n + j)) % p) (sym tall)
        ∙ sym (ap (λ u. slice_index u (n + j)) w.2 ∙ at_combine p w.0 F (n + j) (omega (arith, wide)))
        ∙ whole_right i j l ∙ identity_unit i j l b ∙ sym (at_list_of n (delta i) j b))
      where
        identity_unit : (i j : ℕ) → i < n → j < n → entry (identity n) i j ≡ delta i j
        identity_unit i j a c = elim (cases_eq i j) [
          | inl e ↦ ap (entry (identity n) i) (sym e) ∙ identity_same n i a ∙ sym (ap (delta i) (sym e) ∙ delta_same i)
          | inr d ↦ identity_other n i j a c d ∙ sym (delta_other i j (λ e. d (sym e)))
        ]

    pub half_inverts : IsInverse p A (half_of n F)
    half_inverts = record {
      matrix = B_matrix;
      square = square;
      height = sym square;
      width = refl;
      right = λ i l. B_right i (omega arith);
      left = λ i l. B_left i (omega arith);
    }

  -- if they are not, the last lead is in the right half
  pub not_filled : ((length leads ≡ n) × (0 < n → slice_index leads (n - 1) < n) → ⊥) → (0 < n) × (n ≤ slice_index leads (n - 1))
  not_filled other = elim (cases_lt (slice_index leads (n - 1)) n) [
    | inl l ↦ absurd (other (has.0 ∙ tall, λ some. l))
    | inr l ↦ elim (cases_lt 0 n) [ inl some ↦ (some, l) | inr none ↦ absurd (other (has.0 ∙ tall, λ some. absurd (omega arith))) ]
  ]

  -- then the last row of the form is zeros beside some y with y A = 0, and 1 at a place of y
  module _ (some : 0 < n) (beyond : n ≤ slice_index leads (n - 1)) where
    last_row : n - 1 < n
    last_row = omega arith

    abbrev left_null : List ℕ
    left_null = (coefficients (n - 1) last_row).0

    left_zero : combine p left_null A ≡ zeros n
    left_zero = list_equal n _ _ (length_list_of n _) (length_list_of n _) (λ j b.
        let c = coefficients (n - 1) last_row in
        at_combine p c.0 A j b ∙ ap (λ h. sum_below h (λ i. slice_index c.0 i * entry A i j) % p) square
        ∙ sym (ap (λ u. slice_index u j) c.2 ∙ combined_left c.0 j b) ∙ has.1.past (n - 1) j (omega (arith, tall)) (omega (arith, wide)) (omega arith) ∙ sym (at_zeros n j b))

    one_place : ℕ
    one_place = slice_index leads (n - 1) - n

    place_inside : one_place < n
    unfolding one_place
    place_inside = omega (arith, has.1.inside (n - 1) (omega (arith, tall)), wide)

    left_one : slice_index left_null one_place ≡ 1
    unfolding one_place
    left_one =
        sym (row_right (n - 1) last_row one_place place_inside) ∙ ap (entry F (n - 1)) (let e : n + one_place ≡ slice_index leads (n - 1) = omega arith in e)
        ∙ has.1.one (n - 1) (omega (arith, tall))

    -- so the kernel basis has a row
    pub basis_some : (K : Matrix) → IsKernel p A K → 0 < K.height
    basis_some = kernel_some p A left_null one_place two square place_inside left_zero left_one

-- the first row of a kernel basis is null and not zero
first_null : (p : ℕ) (A K : Matrix) → IsKernel p A K → 0 < K.height → IsNull p A (row K 0) × (row K 0 ≢ zeros A.width)
first_null p A K k some = (
  k.null 0 some,
  λ e.
      let ends = k.form in
      let at : ℕ = slice_index ends.0 0 in
      let places = ends.1.1 in
      let inside : at < A.width = omega (arith, places.inside 0 some, k.width) in
      omega (arith, places.one 0 some, ap (λ u. slice_index u at) e, at_zeros A.width at inside),
)

-- so where each kernel basis has a row, a first row of one shows that there is no inverse
pub singular_shown : (p : ℕ) (A V : Matrix) → IsSingular p A → ((K : Matrix) × IsKernel p A K × (0 < K.height → row V 0 ≡ row K 0)) →
    IsNull p A (row V 0) × (row V 0 ≢ zeros A.width) × ((K : Matrix) × IsKernel p A K × (0 < K.height) × (row V 0 ≡ row K 0))
singular_shown p A V singular (K, kernel, first) =
    let some = singular K kernel in
    let null = first_null p A K kernel some in
    (subst (IsNull p A) (sym (first some)) null.0, λ e. null.1 (sym (first some) ∙ e), (K, kernel, some, first some))

-- what it is the form of, by an equal modulus and matrix
pub form_same : (q p : ℕ) (M W : Matrix) (f : Form) → q ≡ p → M ≡ W → IsFormOf q M f → IsFormOf p W f
form_same q p M W f a b h = subst (λ t. IsFormOf t W f) a (subst (λ t. IsFormOf q t f) b h)
