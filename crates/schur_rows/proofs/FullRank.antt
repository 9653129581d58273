-- Independent rows, as many as the columns in which they have entries, span each row with entries there alone.
use Rattle.std.proofs.Common.{ℕ, zero, suc, ◌≡◌, ◌≢◌, ◌+◌, ◌*◌, ◌%◌, ◌<◌, ◌≤◌, inl, inr, List, ◌∷◌, ◌++◌, length, slice_index, sym, refl, ap, subst, ◌∙◌, arith, mul-one, mul-zero, zero-mul, one-mul, mul_assoc, mul_comm, length-append}
use native.Mathlib.Nat.{zero-mod}
use Rattle.std.specs.List.{Contains}
use Rattle.std.proofs.lemmas.Bool.{cases_eq}
use Rattle.residue_words.specs.Residues.{IsPrime, sum_below}
use Rattle.residue_words.specs.Matrix.{Matrix, IsMatrix, IsVector, IsCombination, entry, row}
use Rattle.residue_words.proofs.Lists.{cut_at, middle_cases, place_in}
use Rattle.residue_words.proofs.Residues.{product_zero_left}
use Rattle.residue_words.proofs.Sums.{sum_equal, sum_has, sum_single, sum_zero, sum_zero_same}
use Rattle.residue_words.proofs.Vectors.{at_combine, combination_of, combination_through, combination_vector, delta, delta_other, delta_same, entry_matrix_of, is_matrix_of, matrix_of, sum_delta}
use Rattle.row_space.specs.Echelon.{IsIndependent}
use Rattle.row_space.proofs.Counting.{spanned_back}
use Rattle.row_space.proofs.Solvable.{solvable_or_refuted}
use Rattle.row_space.proofs.Triangular.{lower_zero}
use Rattle.schur_rows.specs.RestBasis.{AreInColumns, IsInColumns}

-- combinations of rows within these columns are within them
pub combination_in_columns : (p : ℕ) (A : Matrix) (columns v : List ℕ) → AreInColumns columns A →
    IsCombination p A v → IsInColumns columns A.width v
combination_in_columns p A columns v within c j l d =
    let y : List ℕ = c.0 in
    let term = sum_has A.height (λ i. slice_index y i * entry A i j)
    (λ z. d (ap (λ u. slice_index u j) c.2 ∙ at_combine p y A j l ∙ ap (λ x. x % p) z ∙ zero-mod p)) in
    within term.0 term.1 j l (λ z. term.2 (ap (λ x. slice_index y term.0 * x) z ∙ mul-zero (slice_index y term.0)))

module _ (p n : ℕ) (columns : List ℕ) (two : 2 ≤ p) where
  -- a row for each of the columns, with a 1 there
  abbrev pub units : Matrix
  units = matrix_of (length columns) n (λ k j. delta (slice_index columns k) j)

  units_at : (k j : ℕ) → k < length columns → j < n → entry units k j ≡ delta (slice_index columns k) j
  units_at k j lk lj = entry_matrix_of (length columns) n (λ k j. delta (slice_index columns k) j) k j lk lj

  -- the entries of v on a diagonal
  abbrev parts : List ℕ → Matrix
  parts v = matrix_of n n (λ i j. slice_index v i * delta i j)

  parts_at : (v : List ℕ) (i j : ℕ) → i < n → j < n → entry (parts v) i j ≡ slice_index v i * delta i j
  parts_at v i j li lj = entry_matrix_of n n (λ i j. slice_index v i * delta i j) i j li lj

  parts_matrix : (v : List ℕ) → IsVector p n v → IsMatrix p (parts v)
  parts_matrix v vector = is_matrix_of p n n (λ i j. slice_index v i * delta i j) (λ i j li lj. elim (cases_eq j i) [
    | inl e ↦ omega (arith, ap (λ x. slice_index v i * x) (ap (delta i) e ∙ delta_same i), vector.residues i li)
    | inr d ↦ omega (arith, ap (λ x. slice_index v i * x) (delta_other i j d))
  ])

  -- each of them is a multiple of a row of the units
  part_spanned : (v : List ℕ) → IsVector p n v → IsInColumns columns n v → (i : ℕ) → i < n → IsCombination p units (row (parts v) i)
  part_spanned v vector within i l = elim (cases_eq (slice_index v i) 0) [
    | inl z ↦ combination_of p units (row (parts v) i) (λ k. 0) (omega arith) ((parts_matrix v vector).each i l) (λ j lj.
        ap (λ x. x % p) (parts_at v i j l lj ∙ ap (λ x. x * delta i j) z ∙ zero-mul (delta i j)
        ∙ sym (sum_zero (length columns) (λ k. 0 * entry units k j) (λ k lk. zero-mul (entry units k j)))))
    | inr d ↦
        let at = place_in columns i (within i l d) in
        combination_of p units (row (parts v) i) (λ k. delta at.0 k * slice_index v i) (omega arith) ((parts_matrix v vector).each i l) (λ j lj.
        ap (λ x. x % p) (parts_at v i j l lj ∙ ap (λ c. slice_index v i * delta c j) (sym at.2) ∙ ap (λ x. slice_index v i * x) (sym (units_at at.0 j at.1 lj))
        ∙ sym (sum_delta (length columns) at.0 (λ k. slice_index v i * entry units k j) at.1)
        ∙ sum_equal (length columns) (λ k. delta at.0 k * (slice_index v i * entry units k j)) (λ k. delta at.0 k * slice_index v i * entry units k j) (λ k lk. sym (mul_assoc (delta at.0 k) (slice_index v i) (entry units k j)))))
  ]

  pub units_span : (v : List ℕ) → IsVector p n v → IsInColumns columns n v → IsCombination p units v
  units_span v vector within =
      let pos : 0 < p = omega arith in
      combination_through p (parts v) units v pos refl (part_spanned v vector within)
      (combination_of p (parts v) v (λ i. 1) pos vector (λ j l.
      ap (λ x. x % p) (sym (sum_single n (λ i. 1 * entry (parts v) i j) j l
      (λ i li d. ap (λ x. 1 * x) (parts_at v i j li l ∙ ap (λ x. slice_index v i * x) (delta_other i j (λ e. d (sym e))) ∙ mul-zero (slice_index v i)))
      ∙ ap (λ x. 1 * x) (parts_at v j j l l ∙ ap (λ x. slice_index v j * x) (delta_same j) ∙ mul-one (slice_index v j)) ∙ one-mul (slice_index v j)))))

-- the law
pub full_rank_spans : (p : ℕ) (U : Matrix) (columns v : List ℕ) → 2 ≤ p → IsIndependent p U → AreInColumns columns U →
    length columns ≤ U.height → IsVector p U.width v → IsInColumns columns U.width v → IsCombination p U v
full_rank_spans p U columns v two free within few vector inside =
    spanned_back p U (units p U.width columns two) two free
    (λ v c. units_span p U.width columns two v (combination_vector p U v (let pos : 0 < p = omega arith in pos) c) (combination_in_columns p U columns v within c))
    few v (units_span p U.width columns two v vector inside)

-- a triangular system has a solution
pub triangular_solvable : (p r : ℕ) (u : ℕ → ℕ → ℕ) (b : ℕ → ℕ) → IsPrime p → ((k : ℕ) → k < r → u k k % p ≢ 0) → ((k t : ℕ) → k < t → t < r → u t k ≡ 0) →
    (x : ℕ → ℕ) × ((k : ℕ) → k < r → sum_below r (λ t. x t * u t k) % p ≡ b k % p)
triangular_solvable p r u b prime diagonal after = elim (solvable_or_refuted p r r (λ i j. u j i) b prime) [
  | inl s ↦ (s.0, λ k l. ap (λ n. n % p) (sum_equal r (λ t. s.0 t * u t k) (λ t. u t k * s.0 t) (λ t lt. mul_comm (s.0 t) (u t k))) ∙ s.1.at k l)
  | inr y ↦
      let none : (k : ℕ) → k < r → y.0 k % p ≡ 0 = lower_zero p r y.0 (λ t k. u k t) prime diagonal y.1.annuls after in
      let zero_sum : sum_below r (λ i. y.0 i * b i) % p ≡ 0 = sum_zero_same p r (λ i. y.0 i * b i) (λ i l. product_zero_left p (y.0 i) (b i) (none i l)) in
      absurd (omega (arith, zero_sum, y.1.one))
]

-- of a list without n of its items that differ so many are left, and every other one
pub left_out : (n : ℕ) (f : ℕ → ℕ) (xs : List ℕ) → ((k : ℕ) → k < n → Contains xs (f k)) → ((k t : ℕ) → k < t → t < n → f k ≢ f t) →
    (ys : List ℕ) × (length ys + n ≡ length xs) × ((x : ℕ) → Contains xs x → ((k : ℕ) → k < n → f k ≢ x) → Contains ys x)
left_out zero f xs has apart = (xs, omega arith, λ x c other. c)
left_out (suc n) f xs has apart =
    let cut = cut_at xs (f n) (has n (omega arith)) in
    let less : List ℕ = cut.0 ++ cut.1 in
    let kept : (x : ℕ) → Contains xs x → f n ≢ x → Contains less x = λ x c d. elim (middle_cases cut.0 (f n) cut.1 x (subst (λ l. Contains l x) cut.2 c)) [
      | inl e ↦ absurd (d e)
      | inr m ↦ m
    ] in
    let rest = left_out n f less (λ k l. kept (f k) (has k (omega arith)) (λ e. apart k n l (omega arith) (sym e))) (λ k t a l. apart k t a (omega arith)) in (
      rest.0,
      omega (arith, rest.1, ap length cut.2, length-append cut.0 (f n ∷ cut.1), length-append cut.0 cut.1),
      λ x c other. rest.2 x (kept x c (other n (omega arith))) (λ k l. other k (omega arith)),
    )
