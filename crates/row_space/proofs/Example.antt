-- The examples of 3 x 3 modulo 7 worked.
use Rattle.std.proofs.Common.{ℕ, zero, suc, ◌≡◌, ◌≢◌, ◌+◌, ◌*◌, ◌%◌, ◌<◌, ◌≤◌, List, [], ◌∷◌, slice_index, refl, ap, arith, lit<}
use Rattle.residue_words.specs.Residues.{IsPrime, sum_below}
use Rattle.residue_words.specs.Matrix.{IsMatrix, IsVector, IsCombination, row, entry, combine, list_of}
use Rattle.residue_words.proofs.Vectors.{list_equal}
use Rattle.row_space.specs.Echelon.{HasLeads, IsRref}
use Rattle.row_space.specs.Inverse.{IsInverse, unit}
use Rattle.row_space.specs.Kernel.{EndsAt, HasEnds, IsKernel, IsNull}
use Rattle.row_space.specs.Solution.{Annuls, IsReducedSolution, IsRefutingCombination}
use Rattle.row_space.specs.Factors.{AreFactors, ShowsKernel, ShowsRref, col_at, row_at}
use Rattle.row_space.specs.Example.{IsWorked, example, example_kernel, example_inverse, example_left, example_pivots, example_rref, example_square}
use Rattle.row_space.proofs.Spans.{same_span_of_rows}

-- what holds of 0, of 0 and 1, of 0 and 1 and 2, and of the numbers up to 4
below_one : (P : ℕ → Type 0) → P 0 → (j : ℕ) → j < 1 → P j
below_one P a zero l = a
below_one P a (suc j) l = absurd (omega arith)

below_two : (P : ℕ → Type 0) → P 0 → P 1 → (j : ℕ) → j < 2 → P j
below_two P a b zero l = a
below_two P a b (suc zero) l = b
below_two P a b (suc (suc j)) l = absurd (omega arith)

below_three : (P : ℕ → Type 0) → P 0 → P 1 → P 2 → (j : ℕ) → j < 3 → P j
below_three P a b c zero l = a
below_three P a b c (suc zero) l = b
below_three P a b c (suc (suc zero)) l = c
below_three P a b c (suc (suc (suc j))) l = absurd (omega arith)

below_five : (P : ℕ → Type 0) → P 0 → P 1 → P 2 → P 3 → P 4 → (j : ℕ) → j < 5 → P j
below_five P a b c d e zero l = a
below_five P a b c d e (suc zero) l = b
below_five P a b c d e (suc (suc j)) l = below_three (λ j. P (suc (suc j))) c d e j (omega arith)

-- lists of one, two and three residues
one_vector : (p a : ℕ) → a < p → IsVector p 1 (a ∷ [])
one_vector p a la = record { len = refl; residues = below_one (λ j. slice_index (a ∷ []) j < p) la }

two_vector : (p a b : ℕ) → a < p → b < p → IsVector p 2 (a ∷ b ∷ [])
two_vector p a b la lb = record { len = refl; residues = below_two (λ j. slice_index (a ∷ b ∷ []) j < p) la lb }

three_vector : (p a b c : ℕ) → a < p → b < p → c < p → IsVector p 3 (a ∷ b ∷ c ∷ [])
three_vector p a b c la lb lc = record { len = refl; residues = below_three (λ j. slice_index (a ∷ b ∷ c ∷ []) j < p) la lb lc }

rref_matrix : IsMatrix 7 example_rref
rref_matrix = record {
  len = refl;
  each = below_two (λ i. IsVector 7 3 (row example_rref i)) (three_vector 7 1 2 0 (lit< tt) (lit< tt) (lit< tt)) (three_vector 7 0 0 1 (lit< tt) (lit< tt) (lit< tt));
}

rref_leads : HasLeads example_rref (0 ∷ 2 ∷ [])
rref_leads = (
  refl,
  record {
    inside = below_two (λ k. slice_index (0 ∷ 2 ∷ []) k < 3) (lit< tt) (lit< tt);
    one = below_two (λ k. entry example_rref k (slice_index (0 ∷ 2 ∷ []) k) ≡ 1) refl refl;
    past = λ k j l o. below_two (λ k. j < slice_index (0 ∷ 2 ∷ []) k → entry example_rref k j ≡ 0) (λ s. absurd (omega arith))
        (below_two (λ j. entry example_rref 1 j ≡ 0) refl refl j) k l;
    rising = λ k t less l. below_two (λ t. k < t → slice_index (0 ∷ 2 ∷ []) k < slice_index (0 ∷ 2 ∷ []) t) (λ s. absurd (omega arith))
        (below_one (λ k. slice_index (0 ∷ 2 ∷ []) k < 2) (lit< tt) k) t l less;
    alone = λ k t l b. below_two (λ k. t ≢ k → entry example_rref t (slice_index (0 ∷ 2 ∷ []) k) ≡ 0)
        (below_two (λ t. t ≢ 0 → entry example_rref t 0 ≡ 0) (λ d. absurd (d refl)) (λ d. refl) t b)
        (below_two (λ t. t ≢ 1 → entry example_rref t 2 ≡ 0) (λ d. refl) (λ d. absurd (d refl)) t b) k l;
  },
)

rref_worked : IsRref 7 example example_rref
unfolding sum_below
rref_worked = record {
  matrix = rref_matrix;
  width = refl;
  form = (0 ∷ 2 ∷ [], rref_leads);
  span = same_span_of_rows 7 example example_rref (lit< tt) refl
      (below_three (λ i. IsCombination 7 example_rref (row example i))
      (2 ∷ 1 ∷ [], two_vector 7 2 1 (lit< tt) (lit< tt), refl)
      (1 ∷ 0 ∷ [], two_vector 7 1 0 (lit< tt) (lit< tt), refl)
      (3 ∷ 1 ∷ [], two_vector 7 3 1 (lit< tt) (lit< tt), refl))
      (below_two (λ k. IsCombination 7 example (row example_rref k))
      (0 ∷ 1 ∷ 0 ∷ [], three_vector 7 0 1 0 (lit< tt) (lit< tt) (lit< tt), refl)
      (1 ∷ 5 ∷ 0 ∷ [], three_vector 7 1 5 0 (lit< tt) (lit< tt) (lit< tt), refl));
}

kernel_ends : HasEnds example_kernel (1 ∷ [])
kernel_ends = (
  refl,
  record {
    inside = below_one (λ k. slice_index (1 ∷ []) k < 3) (lit< tt);
    one = below_one (λ k. entry example_kernel k (slice_index (1 ∷ []) k) ≡ 1) refl;
    past = λ k j l o. below_one (λ k. slice_index (1 ∷ []) k < j → entry example_kernel k j ≡ 0)
        (below_three (λ j. 1 < j → entry example_kernel 0 j ≡ 0) (λ s. absurd (omega arith)) (λ s. absurd (omega arith)) (λ s. refl) j o) k l;
    rising = λ k t less l. absurd (omega arith);
    alone = λ k t l b d. absurd (omega arith);
  },
)

-- a null vector is fixed by its entry at 1
null_first : (z : List ℕ) → IsNull 7 example z → slice_index z 0 ≡ slice_index z 1 * 5 % 7
unfolding sum_below
null_first z null =
    let second : (0 + 1 * slice_index z 0 + 2 * slice_index z 1 + 0 * slice_index z 2) % 7 ≡ 0 = ap (λ u. slice_index u 1) null.1 in
    omega (arith, null.0.residues 0 (lit< tt))

null_third : (z : List ℕ) → IsNull 7 example z → slice_index z 2 ≡ 0
unfolding sum_below
null_third z null =
    let first : (0 + 2 * slice_index z 0 + 4 * slice_index z 1 + 1 * slice_index z 2) % 7 ≡ 0 = ap (λ u. slice_index u 0) null.1 in
    let second : (0 + 1 * slice_index z 0 + 2 * slice_index z 1 + 0 * slice_index z 2) % 7 ≡ 0 = ap (λ u. slice_index u 1) null.1 in
    omega (arith, null.0.residues 2 (lit< tt))

kernel_worked : IsKernel 7 example example_kernel
unfolding sum_below
kernel_worked = record {
  matrix = record { len = refl; each = below_one (λ i. IsVector 7 3 (row example_kernel i)) kernel_row };
  width = refl;
  null = below_one (λ k. IsNull 7 example (row example_kernel k)) (kernel_row, refl);
  every = λ v null.
      let small : slice_index v 1 < 7 = null.0.residues 1 (lit< tt) in (
        slice_index v 1 ∷ [],
        one_vector 7 (slice_index v 1) small,
        list_equal 3 v (combine 7 (slice_index v 1 ∷ []) example_kernel) null.0.len refl
            (below_three (λ j. slice_index v j ≡ slice_index (combine 7 (slice_index v 1 ∷ []) example_kernel) j)
            (omega (arith, null_first v null)) (omega arith) (omega (arith, null_third v null))),
      );
  form = (1 ∷ [], kernel_ends);
}
  where
    kernel_row : IsVector 7 3 (5 ∷ 1 ∷ 0 ∷ [])
    kernel_row = three_vector 7 5 1 0 (lit< tt) (lit< tt) (lit< tt)

solution_worked : IsReducedSolution 7 example (1 ∷ 0 ∷ 1 ∷ []) (0 ∷ 0 ∷ 1 ∷ [])
unfolding sum_below
solution_worked = record {
  solves = (three_vector 7 0 0 1 (lit< tt) (lit< tt) (lit< tt), refl);
  reduced = λ z j null end. below_three (λ j. EndsAt 3 z j → slice_index (0 ∷ 0 ∷ 1 ∷ []) j ≡ 0) (λ e. refl) (λ e. refl)
      (λ e. absurd (e.nonzero (null_third z null))) j end.inside end;
}

-- z A = 0 and z . b = 0 only of z = 0
annuls_nothing : (z : List ℕ) → Annuls 7 example (0 ∷ 0 ∷ 1 ∷ []) 0 z → (j : ℕ) → j < 3 → slice_index z j ≡ 0
unfolding sum_below
annuls_nothing z a =
    let first : (0 + slice_index z 0 * 2 + slice_index z 1 * 1 + slice_index z 2 * 3) % 7 ≡ 0 = ap (λ u. slice_index u 0) a.1 in
    let last : (0 + slice_index z 0 * 1 + slice_index z 1 * 0 + slice_index z 2 * 1) % 7 ≡ 0 = ap (λ u. slice_index u 2) a.1 in
    let side : (0 + slice_index z 0 * 0 + slice_index z 1 * 0 + slice_index z 2 * 1) % 7 ≡ 0 = a.2 in
    let small : (j : ℕ) → j < 3 → slice_index z j < 7 = a.0.residues in
    let third : slice_index z 2 ≡ 0 = omega (arith, small 2 (lit< tt)) in
    let one : slice_index z 0 ≡ 0 = omega (arith, small 0 (lit< tt)) in
    below_three (λ j. slice_index z j ≡ 0) one (omega (arith, small 1 (lit< tt))) third

refutation_worked : IsRefutingCombination 7 example (0 ∷ 0 ∷ 1 ∷ []) (6 ∷ 6 ∷ 1 ∷ [])
unfolding sum_below
refutation_worked = record {
  refutes = (three_vector 7 6 6 1 (lit< tt) (lit< tt) (lit< tt), refl, refl);
  reduced = λ z i a end. absurd (end.nonzero (annuls_nothing z a i end.inside));
}

-- the pivots' rows and columns
factors_worked : AreFactors 7 example example_pivots example_left example_rref
unfolding sum_below
factors_worked = record {
  fit = record {
    left = record {
      len = refl;
      each = below_three (λ i. IsVector 7 2 (row example_left i)) (two_vector 7 2 1 (lit< tt) (lit< tt)) (two_vector 7 1 0 (lit< tt) (lit< tt)) (two_vector 7 3 1 (lit< tt) (lit< tt));
    };
    right = rref_matrix;
    left_height = refl;
    left_width = refl;
    right_height = refl;
    right_width = refl;
    rows_below = below_two (λ k. row_at example_pivots k < 3) (lit< tt) (lit< tt);
    columns_below = below_two (λ k. col_at example_pivots k < 3) (lit< tt) (lit< tt);
    rows_distinct = of_two (λ k t. row_at example_pivots k ≢ row_at example_pivots t) (λ e. absurd (omega arith));
    columns_distinct = of_two (λ k t. col_at example_pivots k ≢ col_at example_pivots t) (λ e. absurd (omega arith));
  };
  product = below_three (λ i. row example i ≡ combine 7 (row example_left i) example_rref) refl refl refl;
  left_pivot = below_two (λ k. entry example_left (row_at example_pivots k) k ≢ 0) (λ e. absurd (omega arith)) (λ e. absurd (omega arith));
  right_pivot = below_two (λ k. entry example_rref k (col_at example_pivots k) ≢ 0) (λ e. absurd (omega arith)) (λ e. absurd (omega arith));
  left_after = of_two (λ k t. entry example_left (row_at example_pivots k) t ≡ 0) refl;
  right_after = of_two (λ k t. entry example_rref t (col_at example_pivots k) ≡ 0) refl;
}
  where
    -- what holds of the pair 0 and 1
    of_two : (P : ℕ → ℕ → Type 0) → P 0 1 → (k t : ℕ) → k < t → t < 2 → P k t
    of_two P h k t a b = below_two (λ t. k < t → P k t) (λ l. absurd (omega arith)) (λ l. below_one (λ k. P k 1) h k l) t b a

rref_shown : ShowsRref 7 example_rref example_rref
unfolding sum_below
rref_shown = record {
  matrix = rref_matrix;
  height = refl;
  width = refl;
  form = (0 ∷ 2 ∷ [], rref_leads, below_two (λ k. row example_rref k ≡ combine 7 (list_of 2 (λ t. entry example_rref k (slice_index (0 ∷ 2 ∷ []) t))) example_rref) refl refl);
}

kernel_shown : ShowsKernel 7 example 2 example_kernel
kernel_shown = record { matrix = kernel_worked.matrix; height = refl; width = refl; form = (1 ∷ [], kernel_ends); null = kernel_worked.null }

-- no number from 2 to 6 divides 7
seven_is_prime : IsPrime 7
seven_is_prime = record {
  two_or_more = lit< tt;
  undivided = λ d low high. below_seven d low high;
}
  where
    below_seven : (d : ℕ) → 2 ≤ d → d < 7 → 7 % d ≢ 0
    below_seven zero low high = absurd (omega arith)
    below_seven (suc zero) low high = absurd (omega arith)
    below_seven (suc (suc d)) low high = below_five (λ d. 7 % suc (suc d) ≢ 0) (λ e. absurd (omega arith)) (λ e. absurd (omega arith))
        (λ e. absurd (omega arith)) (λ e. absurd (omega arith)) (λ e. absurd (omega arith)) d (omega arith)

inverse_worked : IsInverse 7 example_square example_inverse
unfolding sum_below
inverse_worked = record {
  matrix = record {
    len = refl;
    each = below_three (λ i. IsVector 7 3 (row example_inverse i)) (three_vector 7 1 0 0 (lit< tt) (lit< tt) (lit< tt))
        (three_vector 7 6 2 6 (lit< tt) (lit< tt) (lit< tt)) (three_vector 7 0 6 1 (lit< tt) (lit< tt) (lit< tt));
  };
  square = refl;
  height = refl;
  width = refl;
  right = below_three (λ i. combine 7 (row example_square i) example_inverse ≡ unit 3 i) refl refl refl;
  left = below_three (λ i. combine 7 (row example_inverse i) example_square ≡ unit 3 i) refl refl refl;
}

pub worked : IsWorked
worked = record {
  prime = seven_is_prime;
  rref = rref_worked;
  rank = (example_rref, rref_worked, refl);
  kernel = kernel_worked;
  solution = solution_worked;
  rank_certificate = record { modulus = refl; factors = factors_worked; shows = tt };
  rref_certificate = record { modulus = refl; factors = factors_worked; shows = rref_shown };
  kernel_certificate = record { modulus = refl; factors = factors_worked; shows = kernel_shown };
  refutation = refutation_worked;
  inverse = inverse_worked;
}
