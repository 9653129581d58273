-- Null vectors in the reduced form, as many as the width exceeds the rank, are the kernel basis.
use Rattle.std.proofs.Common.{ℕ, ◌≡◌, ◌+◌, ◌*◌, ◌-◌, ◌%◌, ◌<◌, ◌≤◌, inl, inr, cond, ltb, List, slice_index, sym, ap, ap₂, ◌∙◌, arith, mod-eq_of_lt, mul-one, mul-zero, zero-mul, mul_comm, lt-ltb, le-ltb}
use native.Mathlib.Nat.{zero-mod}
use Rattle.std.proofs.lemmas.Bool.{cases_lt, cond-true, cond-false}
use Rattle.residue_words.specs.Residues.{sum_below}
use Rattle.residue_words.specs.Matrix.{Matrix, IsVector, IsCombination, row, entry, list_of, dot, combine, apply, zeros}
use Rattle.residue_words.proofs.Sums.{sum_equal, sum_zero, sum_single, sum_split}
use Rattle.residue_words.proofs.Vectors.{at_list_of, list_of_equal, vector_of, vector_equal, at_zeros, zeros_vector, at_apply, combination_of, combination_vector, row_combination, matrix_of, entry_matrix_of, delta, delta_same, delta_other, sum_delta, dot_combine}
use Rattle.row_space.specs.Echelon.{HasLeads, IsIndependent, IsRref}
use Rattle.row_space.specs.Kernel.{IsNull}
use Rattle.row_space.specs.Laws.{RankGivesKernel}
use Rattle.row_space.proofs.Counting.{spanned_back}
use Rattle.row_space.proofs.Spans.{places_independent}

-- v . w is w . v
pub dot_turned : (p n : ℕ) (v w : List ℕ) → dot p n v w ≡ dot p n w v
dot_turned p n v w = ap (λ x. x % p) (sum_equal n (λ k. slice_index v k * slice_index w k) (λ k. slice_index w k * slice_index v k) (λ k l. mul_comm (slice_index v k) (slice_index w k)))

-- zeros . w is zero
pub dot_zeros : (p n : ℕ) (w : List ℕ) → dot p n (zeros n) w ≡ 0
dot_zeros p n w = ap (λ x. x % p) (sum_zero n (λ k. slice_index (zeros n) k * slice_index w k) (λ k l. ap (λ x. x * slice_index w k) (at_zeros n k l) ∙ zero-mul (slice_index w k))) ∙ zero-mod p

-- a null vector is orthogonal to the row space
pub null_orthogonal : (p : ℕ) (A : Matrix) (v w : List ℕ) → IsNull p A v → IsCombination p A w → dot p A.width v w ≡ 0
null_orthogonal p A v w null c =
    dot_turned p A.width v w ∙ ap (λ u. dot p A.width u v) c.2 ∙ dot_combine p c.0 A v ∙ ap (dot p A.height c.0) null.1
    ∙ dot_turned p A.height c.0 (zeros A.height) ∙ dot_zeros p A.height c.0

-- the identity spans each vector
pub identity_spans : (p n : ℕ) (v : List ℕ) → 0 < p → IsVector p n v → IsCombination p (matrix_of n n delta) v
identity_spans p n v pos vector = combination_of p (matrix_of n n delta) v (slice_index v) pos vector (λ j l.
    ap (λ x. x % p) (sym (sum_single n (λ k. slice_index v k * entry (matrix_of n n delta) k j) j l
    (λ k o d. ap (λ x. slice_index v k * x) (entry_matrix_of n n delta k j o l ∙ delta_other k j (λ e. d (sym e))) ∙ mul-zero (slice_index v k))
    ∙ ap (λ x. slice_index v j * x) (entry_matrix_of n n delta j j l l ∙ delta_same j) ∙ mul-one (slice_index v j))))

-- the h rows f above the rows g
stacked : ℕ → (ℕ → ℕ → ℕ) → (ℕ → ℕ → ℕ) → ℕ → ℕ → ℕ
stacked h f g i j = cond (ltb i h) (f i j) (g (i - h) j)

stacked_first : (h : ℕ) (f g : ℕ → ℕ → ℕ) (i j : ℕ) → i < h → stacked h f g i j ≡ f i j
unfolding stacked
stacked_first h f g i j l = cond-true (ltb i h) (f i j) (g (i - h) j) (lt-ltb i h l)

stacked_second : (h : ℕ) (f g : ℕ → ℕ → ℕ) (t j : ℕ) → stacked h f g (h + t) j ≡ g t j
unfolding stacked
stacked_second h f g t j = cond-false (ltb (h + t) h) (f (h + t) j) (g (h + t - h) j) (le-ltb (h + t) h (omega arith)) ∙ ap (λ i. g i j) (omega arith)

module _ (p : ℕ) (A F K : Matrix) (leads : List ℕ) (two : 2 ≤ p) (form : IsRref p A F) (has : HasLeads F leads)
    (width : K.width ≡ A.width) (height : K.height + F.height ≡ A.width) (null : (k : ℕ) → k < K.height → IsNull p A (row K k)) (free : IsIndependent p K) where
  -- the null vectors K, and below them the unit vectors at the leads: as many rows as columns
  unit_row : ℕ → ℕ → ℕ
  unit_row t = delta (slice_index leads t)

  abbrev square : Matrix
  square = matrix_of (K.height + F.height) A.width (stacked K.height (entry K) unit_row)

  square_first : (i j : ℕ) → i < K.height → j < A.width → entry square i j ≡ entry K i j
  square_first i j l o =
      entry_matrix_of (K.height + F.height) A.width (stacked K.height (entry K) unit_row) i j (omega arith) o ∙ stacked_first K.height (entry K) unit_row i j l

  square_second : (t j : ℕ) → t < F.height → j < A.width → entry square (K.height + t) j ≡ delta (slice_index leads t) j
  unfolding unit_row
  square_second t j l o =
      entry_matrix_of (K.height + F.height) A.width (stacked K.height (entry K) unit_row) (K.height + t) j (omega arith) o ∙ stacked_second K.height (entry K) unit_row t j

  -- its values at a row t of the form: 0 but at the unit vector of its lead
  value_first : (t i : ℕ) → t < F.height → i < K.height → slice_index (apply p square (row F t)) i ≡ 0
  value_first t i l o =
      at_apply p square (row F t) i (omega arith)
      ∙ ap (λ x. x % p) (sum_equal A.width (λ j. entry square i j * entry F t j) (λ j. entry K i j * entry F t j) (λ j c. ap (λ x. x * entry F t j) (square_first i j o c)))
      ∙ null_orthogonal p A (row K i) (row F t) (null i o) ((form.span (row F t)).1 (row_combination p F t two form.matrix l))

  value_second : (t s : ℕ) → t < F.height → s < F.height → slice_index (apply p square (row F t)) (K.height + s) ≡ entry F t (slice_index leads s) % p
  value_second t s l o =
      at_apply p square (row F t) (K.height + s) (omega arith)
      ∙ ap (λ x. x % p) (sum_equal A.width (λ j. entry square (K.height + s) j * entry F t j) (λ j. delta (slice_index leads s) j * entry F t j)
      (λ j c. ap (λ x. x * entry F t j) (square_second s j o c))
      ∙ sum_delta A.width (slice_index leads s) (entry F t) (let w = form.width in omega (arith, has.1.inside s o)))

  -- so the coefficient of this unit vector is read off
  read_unit : (y : List ℕ) (t : ℕ) → t < F.height → dot p A.width (combine p y square) (row F t) ≡ slice_index y (K.height + t) % p
  read_unit y t l =
      let values : ℕ → ℕ = slice_index (apply p square (row F t)) in
      let one : values (K.height + t) ≡ 1 = value_second t t l l ∙ ap (λ x. x % p) (has.1.one t l) ∙ mod-eq_of_lt two in
      dot_combine p y square (row F t)
      ∙ ap (λ x. x % p) (sum_single (K.height + F.height) (λ i. slice_index y i * values i) (K.height + t) (omega arith)
      (λ i o d. ap (λ x. slice_index y i * x) (elim (cases_lt i K.height) [
        | inl first ↦ value_first t i l first
        | inr second ↦
            let s : ℕ = i - K.height in
            let place : i ≡ K.height + s = omega arith in
            ap values place ∙ value_second t s l (omega arith) ∙ ap (λ x. x % p) (has.1.alone s t (omega arith) l (λ e. d (place ∙ ap (λ x. K.height + x) (sym e)))) ∙ zero-mod p
      ]) ∙ mul-zero (slice_index y i))
      ∙ ap (λ x. slice_index y (K.height + t) * x) one ∙ mul-one (slice_index y (K.height + t)))

  -- with no unit vectors a combination is one of the null vectors
  first_part : (y : List ℕ) → ((t : ℕ) → t < F.height → slice_index y (K.height + t) ≡ 0) → combine p y square ≡ combine p (list_of K.height (slice_index y)) K
  first_part y none =
      list_of_equal A.width _ _ (λ j l. ap (λ x. x % p) (
      sum_split K.height F.height (λ i. slice_index y i * entry square i j)
      ∙ ap₂ (λ a b. a + b)
      (sum_equal K.height (λ i. slice_index y i * entry square i j) (λ i. slice_index (list_of K.height (slice_index y)) i * entry K i j)
      (λ i o. ap₂ (λ a b. a * b) (sym (at_list_of K.height (slice_index y) i o)) (square_first i j o l)))
      (sum_zero F.height (λ t. slice_index y (K.height + t) * entry square (K.height + t) j)
      (λ t o. ap (λ x. x * entry square (K.height + t) j) (none t o) ∙ zero-mul (entry square (K.height + t) j)))
      ∙ omega arith
      ))
      ∙ ap (λ n. list_of n (λ j. sum_below K.height (λ i. slice_index (list_of K.height (slice_index y)) i * entry K i j) % p)) (sym width)

  -- no unit vector takes part where the values at the form's rows are zero
  no_units : (y : List ℕ) → IsVector p (K.height + F.height) y → ((t : ℕ) → t < F.height → dot p A.width (combine p y square) (row F t) ≡ 0) →
      (t : ℕ) → t < F.height → slice_index y (K.height + t) ≡ 0
  no_units y vector orthogonal t l = sym (mod-eq_of_lt (vector.residues (K.height + t) (omega arith))) ∙ sym (read_unit y t l) ∙ orthogonal t l

  first_vector : (y : List ℕ) → IsVector p (K.height + F.height) y → IsVector p K.height (list_of K.height (slice_index y))
  first_vector y vector = vector_of p K.height (slice_index y) (λ i l. vector.residues i (omega arith))

  square_independent : IsIndependent p square
  square_independent y vector zero_sum =
      let pos : 0 < p = omega arith in
      let none = no_units y vector (λ t l. ap (λ u. dot p A.width u (row F t)) zero_sum ∙ dot_zeros p A.width (row F t)) in
      let first : list_of K.height (slice_index y) ≡ zeros K.height = free (list_of K.height (slice_index y)) (first_vector y vector)
      (sym (first_part y none) ∙ zero_sum ∙ ap zeros (sym width)) in
      vector_equal p (K.height + F.height) y (zeros (K.height + F.height)) vector (zeros_vector p (K.height + F.height) pos) (λ i l.
      elim (cases_lt i K.height) [
        | inl o ↦ sym (at_list_of K.height (slice_index y) i o) ∙ ap (λ u. slice_index u i) first ∙ at_zeros K.height i o
        | inr o ↦
            let place : i ≡ K.height + (i - K.height) = omega arith in
            ap (slice_index y) place ∙ none (i - K.height) (omega arith)
      ] ∙ sym (at_zeros (K.height + F.height) i l))

  -- n independent rows span each vector
  square_spans : (v : List ℕ) → IsVector p A.width v → IsCombination p square v
  square_spans v vector =
      let pos : 0 < p = omega arith in
      spanned_back p square (matrix_of A.width A.width delta) two square_independent
      (λ v c. identity_spans p A.width v pos (combination_vector p square v pos c)) (omega arith) v (identity_spans p A.width v pos vector)

  -- so the null vectors are spanned by K
  pub null_spanned : (v : List ℕ) → IsNull p A v → IsCombination p K v
  null_spanned v zero =
      let c : IsCombination p square v = square_spans v zero.0 in
      let none = no_units c.0 c.1 (λ t l.
      ap (λ u. dot p A.width u (row F t)) (sym c.2)
      ∙ null_orthogonal p A v (row F t) zero ((form.span (row F t)).1 (row_combination p F t two form.matrix l))) in
      (list_of K.height (slice_index c.0), first_vector c.0 c.1, c.2 ∙ first_part c.0 none)

pub kernel_of_rank : RankGivesKernel
kernel_of_rank p A r K prime m rank shows =
    let two : 2 ≤ p = prime.two_or_more in
    let form : IsRref p A rank.0 = rank.1 in
    let free : IsIndependent p K = places_independent p (λ j end. end < j) K (slice_index shows.form.0) (omega arith) shows.form.1.1 in
    let height : K.height + rank.0.height ≡ A.width = ap (λ x. K.height + x) rank.2 ∙ shows.height in
    record {
      matrix = shows.matrix;
      width = shows.width;
      null = shows.null;
      every = null_spanned p A rank.0 K form.form.0 two form form.form.1 shows.width height shows.null free;
      form = shows.form;
    }
