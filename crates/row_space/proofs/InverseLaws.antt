-- Inverses: at most one, and just where there is no null vector but zero. And that the refuting system of an unsolvable system is solvable.
use Rattle.std.proofs.Common.{ℕ, ◌≡◌, ◌*◌, ◌%◌, ◌<◌, ◌≤◌, ◌⊎◌, zero, suc, inl, inr, List, slice_index, refl, sym, ap, ◌∙◌, arith, mod-eq_of_lt, mod-lt, mul-one, mul-zero, mul_comm}
use Rattle.std.proofs.lemmas.Bool.{cases_eq}
use Rattle.residue_words.specs.Residues.{IsPrime, sum_below}
use Rattle.residue_words.specs.Matrix.{Matrix, IsCombination, IsMatrix, IsVector, apply, combine, dot, entry, list_of, row, zeros}
use Rattle.residue_words.proofs.Sums.{sum_equal, sum_reduce, sum_single}
use Rattle.residue_words.proofs.Vectors.{at_apply, at_combine, at_list_of, at_zeros, combination_vector, delta, delta_other, delta_same, dot_combine, entry_matrix_of, entry_residue, is_matrix_of, length_list_of, list_equal, list_of_equal, matrix_equal, matrix_of, sum_delta, vector_of}
use Rattle.row_space.specs.Echelon.{IsIndependent}
use Rattle.row_space.specs.Inverse.{IsInverse, unit}
use Rattle.row_space.specs.Kernel.{HasNull, IsNull}
use Rattle.row_space.specs.Laws.{InverseExcludesNull, InverseIsUnique, InverseOrNull, RefutingIsSolvable}
use Rattle.row_space.proofs.KernelLaws.{dot_turned, dot_zeros, identity_spans}
use Rattle.row_space.proofs.Counting.{spanned_back}
use Rattle.row_space.proofs.Refuting.{refuting}
use Rattle.row_space.proofs.Solvable.{Refutes, Solves, alternative_holds, extended, extended_below, extended_last, solvable_or_refuted}

-- a unit row picks an entry
dot_unit : (p n i : ℕ) (v : List ℕ) → i < n → slice_index v i < p → dot p n (list_of n (delta i)) v ≡ slice_index v i
dot_unit p n i v l small =
    ap (λ t. t % p) (sum_equal n (λ k. slice_index (list_of n (delta i)) k * slice_index v k) (λ k. delta i k * slice_index v k) (λ k o. ap (λ t. t * slice_index v k) (at_list_of n (delta i) k o))
    ∙ sum_delta n i (slice_index v) l) ∙ mod-eq_of_lt small

-- B A is the identity
abbrev InvertsLeft : ℕ → Matrix → Matrix → Type 0
InvertsLeft p A B = (i : ℕ) → i < A.height → combine p (row B i) A ≡ unit A.width i

-- where it is, only zero is null
left_excludes : (p : ℕ) (A B : Matrix) (v : List ℕ) → A.height ≡ A.width → InvertsLeft p A B → IsNull p A v → v ≡ zeros A.width
left_excludes p A B v square left null = list_equal A.width v (zeros A.width) null.0.len (length_list_of A.width (λ j. 0)) (λ i l.
    sym (dot_unit p A.width i v l (null.0.residues i l))
    ∙ ap (λ u. dot p A.width u v) (sym (left i (omega arith)))
    ∙ dot_combine p (row B i) A v ∙ ap (dot p A.height (row B i)) null.1 ∙ dot_turned p A.height (row B i) (zeros A.height) ∙ dot_zeros p A.height (row B i)
    ∙ sym (at_zeros A.width i l))

pub inverse_null : InverseExcludesNull
inverse_null p A B v inv null = left_excludes p A B v inv.square inv.left null

-- a matrix of the sizes of an inverse
record IsOfSizes (p : ℕ) (A B : Matrix) : Type 0 where
  matrix : IsMatrix p B
  height : B.height ≡ A.height
  width : B.width ≡ A.width

-- an inverse from the left and one from the right are the same
halves_same : (p : ℕ) (A B C : Matrix) → A.height ≡ A.width → IsOfSizes p A B → IsOfSizes p A C → InvertsLeft p A B →
    ((i : ℕ) → i < A.height → combine p (row A i) C ≡ unit A.width i) → B ≡ C
halves_same p A B C square b c left right =
    matrix_equal p B C b.matrix c.matrix (b.height ∙ sym c.height) (b.width ∙ sym c.width) (λ i j li lj.
    let n : ℕ = A.width in
    let here : i < n = omega (arith, b.height) in
    let there : j < n = omega (arith, b.width) in
    let x : List ℕ = list_of n (λ k. entry C k j) in
    let at : slice_index x i ≡ entry C i j = at_list_of n (λ k. entry C k j) i here in
    let small : entry C i j < p = entry_residue p C c.matrix i j (omega (arith, c.height)) (omega (arith, c.width)) in
    let first : dot p n (combine p (row B i) A) x ≡ entry C i j = ap (λ u. dot p n u x) (left i (omega arith)) ∙ dot_unit p n i x here (omega arith) ∙ at in
    let images : (t : ℕ) → t < A.height → slice_index (apply p A x) t ≡ delta t j = λ t lt.
    at_apply p A x t lt
    ∙ ap (λ s. s % p) (sum_equal n (λ k. entry A t k * slice_index x k) (λ k. slice_index (row A t) k * entry C k j) (λ k o. ap (λ s. entry A t k * s) (at_list_of n (λ k. entry C k j) k o)))
    ∙ ap (λ h. sum_below h (λ k. slice_index (row A t) k * entry C k j) % p) (let e : n ≡ C.height = omega (arith, c.height) in e)
    ∙ sym (at_combine p (row A t) C j (omega (arith, c.width))) ∙ ap (λ u. slice_index u j) (right t lt) ∙ at_list_of n (delta t) j there in
    let second : dot p A.height (row B i) (apply p A x) ≡ entry B i j =
    ap (λ s. s % p) (sum_equal A.height (λ t. slice_index (row B i) t * slice_index (apply p A x) t) (λ t. entry B i t * delta t j) (λ t lt. ap (λ s. entry B i t * s) (images t lt))
    ∙ sum_single A.height (λ t. entry B i t * delta t j) j (omega arith) (λ t lt d. ap (λ s. entry B i t * s) (delta_other t j (λ e. d (sym e))) ∙ mul-zero (entry B i t))
    ∙ ap (λ s. entry B i j * s) (delta_same j) ∙ mul-one (entry B i j)) ∙ mod-eq_of_lt (entry_residue p B b.matrix i j li lj) in
    sym second ∙ sym (dot_combine p (row B i) A x) ∙ first)

pub inverse_unique : InverseIsUnique
inverse_unique p A B C two b c =
    halves_same p A B C b.square (record { matrix = b.matrix; height = b.height; width = b.width }) (record { matrix = c.matrix; height = c.height; width = c.width }) b.left c.right

-- units are residues, and one is another's entry
unit_small : (p k i : ℕ) → 2 ≤ p → delta k i < p
unit_small p k i two = elim (cases_eq i k) [ inl e ↦ omega (arith, ap (delta k) e, delta_same k) | inr d ↦ omega (arith, delta_other k i d) ]

unit_turned : (k i : ℕ) → delta k i ≡ delta i k
unit_turned k i = elim (cases_eq i k) [ inl e ↦ ap (delta k) e ∙ delta_same k ∙ sym (ap (λ t. delta t k) e ∙ delta_same k) | inr d ↦ delta_other k i d ∙ sym (delta_other i k (λ e. d (sym e))) ]

module _ (p : ℕ) (A : Matrix) (prime : IsPrime p) (m : IsMatrix p A) (square : A.height ≡ A.width) where
  abbrev n : ℕ
  n = A.width

  -- y A is the unit at i
  abbrev GivesUnit : ℕ → (ℕ → ℕ) → Type 0
  GivesUnit i y = Solves p n n (λ j k. entry A k j) (delta i) y

  -- what refutes that has a 1 at i, and A takes it to zero
  null_of : (i : ℕ) (z : ℕ → ℕ) → i < n → Refutes p n n (λ j k. entry A k j) (delta i) z → HasNull p A
  null_of i z l r =
      let v : List ℕ = list_of n (λ j. z j % p) in
      let at : (j : ℕ) → j < n → slice_index v j ≡ z j % p = at_list_of n (λ j. z j % p) in (
        v,
        (
          vector_of p n (λ j. z j % p) (λ j b. mod-lt (z j) (omega (arith, prime.two_or_more))),
          list_of_equal A.height _ (λ k. 0) (λ k b.
              ap (λ t. t % p) (sum_equal n (λ j. entry A k j * slice_index v j) (λ j. z j % p * entry A k j) (λ j o. ap (λ t. entry A k j * t) (at j o) ∙ mul_comm (entry A k j) (z j % p)))
              ∙ sum_reduce p n z (entry A k) ∙ r.annuls k (omega arith)),
        ),
        λ e.
            let one : z i % p ≡ 1 = ap (λ t. t % p) (sym (sum_delta n i z l) ∙ sum_equal n (λ j. delta i j * z j) (λ j. z j * delta i j) (λ j o. mul_comm (delta i j) (z j))) ∙ r.one in
            omega (arith, one, at i l, ap (λ u. slice_index u i) e, at_zeros n i l),
      )

  -- either that is solved for the first h units, or there is a null vector
  solved_or_null : (h : ℕ) → h ≤ n → ((b : ℕ → ℕ → ℕ) × ((i : ℕ) → i < h → GivesUnit i (b i))) ⊎ HasNull p A
  solved_or_null zero low = inl (λ i k. 0, λ i l. absurd (omega arith))
  solved_or_null (suc h) low = elim (solvable_or_refuted p n n (λ j k. entry A k j) (delta h) prime) [
    | inr z ↦ inr (null_of h z.0 (omega arith) z.1)
    | inl y ↦ elim (solved_or_null h (omega arith)) [
      | inr null ↦ inr null
      | inl b ↦ inl (
        λ i k. extended h (λ i. b.0 i k) (y.0 k) i,
        λ i l. elim (cases_eq i h) [
          | inl e ↦ record { at = λ j o. ap (λ t. t % p) (sum_equal n _ (λ k. entry A k j * y.0 k) (λ k c. ap (λ t. entry A k j * t) (ap (extended h (λ i. b.0 i k) (y.0 k)) e ∙ extended_last h (λ i. b.0 i k) (y.0 k)))) ∙ y.1.at j o ∙ ap (λ t. delta t j % p) (sym e) }
          | inr d ↦ record { at = λ j o. ap (λ t. t % p) (sum_equal n _ (λ k. entry A k j * b.0 i k) (λ k c. ap (λ t. entry A k j * t) (extended_below h (λ i. b.0 i k) (y.0 k) i (omega arith)))) ∙ (b.1 i (omega arith)).at j o }
        ],
      )
    ]
  ]

  -- the solutions are the rows of a matrix B where B A is the identity
  module _ (b : ℕ → ℕ → ℕ) (gives : (i : ℕ) → i < n → GivesUnit i (b i)) where
    B : Matrix
    B = matrix_of n n (λ i k. b i k % p)

    B_sizes : IsOfSizes p A B
    unfolding B
    B_sizes = record { matrix = is_matrix_of p n n (λ i k. b i k % p) (λ i k s t. mod-lt (b i k) (omega (arith, prime.two_or_more))); height = sym square; width = refl }

    B_left : InvertsLeft p A B
    unfolding B
    B_left i l = list_of_equal n _ (delta i) (λ j o.
        ap (λ h. sum_below h (λ k. slice_index (row B i) k * entry A k j) % p) square
        ∙ ap (λ t. t % p) (sum_equal n (λ k. slice_index (row B i) k * entry A k j) (λ k. b i k % p * entry A k j) (λ k c. ap (λ t. t * entry A k j) (entry_matrix_of n n (λ i k. b i k % p) i k (omega arith) c)))
        ∙ sum_reduce p n (b i) (λ k. entry A k j)
        ∙ ap (λ t. t % p) (sum_equal n (λ k. b i k * entry A k j) (λ k. entry A k j * b i k) (λ k c. mul_comm (b i k) (entry A k j)))
        ∙ (gives i (omega arith)).at j o ∙ mod-eq_of_lt (unit_small p i j prime.two_or_more))

    -- so the columns of A are independent, and span the units
    columns : Matrix
    columns = matrix_of n n (λ j i. entry A i j)

    columns_read : (y : List ℕ) → combine p y columns ≡ apply p A y
    unfolding columns
    columns_read y =
        list_of_equal n _ (λ i. sum_below n (λ j. entry A i j * slice_index y j) % p) (λ i l.
        ap (λ t. t % p) (sum_equal n (λ j. slice_index y j * entry columns j i) (λ j. entry A i j * slice_index y j)
        (λ j o. ap (λ t. slice_index y j * t) (entry_matrix_of n n (λ j i. entry A i j) j i o l) ∙ mul_comm (slice_index y j) (entry A i j))))
        ∙ ap (λ h. list_of h (λ i. sum_below n (λ j. entry A i j * slice_index y j) % p)) (sym square)

    columns_independent : IsIndependent p columns
    unfolding columns
    columns_independent y v e = left_excludes p A B y square B_left (v, sym (columns_read y) ∙ e ∙ ap zeros (sym square))

    column_of : (j : ℕ) → IsCombination p columns (unit n j)
    unfolding columns
    column_of j =
        let pos : 0 < p = omega (arith, prime.two_or_more) in
        let spans : (v : List ℕ) → IsVector p n v → IsCombination p (matrix_of n n delta) v = λ v w. identity_spans p n v pos w in
        spanned_back p columns (matrix_of n n delta) prime.two_or_more columns_independent (λ v c. spans v (combination_vector p columns v pos c)) (omega arith)
        (unit n j) (spans (unit n j) (vector_of p n (delta j) (λ i l. unit_small p j i prime.two_or_more)))

    C : Matrix
    C = matrix_of n n (λ i j. slice_index (column_of j).0 i)

    C_sizes : IsOfSizes p A C
    unfolding C columns
    C_sizes = record { matrix = is_matrix_of p n n (λ i j. slice_index (column_of j).0 i) (λ i j s t. (column_of j).1.residues i s); height = sym square; width = refl }

    C_right : (i : ℕ) → i < A.height → combine p (row A i) C ≡ unit n i
    unfolding C
    C_right i l = list_of_equal n _ (delta i) (λ j o.
        ap (λ t. t % p) (sum_equal n (λ k. entry A i k * entry C k j) (λ k. entry A i k * slice_index (column_of j).0 k) (λ k c. ap (λ t. entry A i k * t) (entry_matrix_of n n (λ i j. slice_index (column_of j).0 i) k j c o)))
        ∙ sym (at_apply p A (column_of j).0 i l)
        ∙ ap (λ u. slice_index u i) (sym (columns_read (column_of j).0) ∙ sym (column_of j).2)
        ∙ at_list_of n (delta j) i (omega arith) ∙ unit_turned j i)

    is_inverse : IsInverse p A B
    is_inverse = record {
      matrix = B_sizes.matrix;
      square = square;
      height = B_sizes.height;
      width = B_sizes.width;
      right = λ i l. ap (combine p (row A i)) (halves_same p A B C square B_sizes C_sizes B_left C_right) ∙ C_right i l;
      left = B_left;
    }

pub inverse_or_null : InverseOrNull
inverse_or_null p A prime m square = (
  elim (solved_or_null p A prime m square A.width (omega arith)) [
    | inl b ↦ inl (B p A prime m square b.0 b.1, is_inverse p A prime m square b.0 b.1)
    | inr null ↦ inr null
  ],
  λ both. both.1.2 (inverse_null p A both.0.0 both.1.0 both.0.1 both.1.1),
)

pub refuting_solvable : RefutingIsSolvable
refuting_solvable p A b prime m v none =
    let w = (alternative_holds p A b prime m v).0 none in
    (w.0, (refuting p A b w.0 prime.two_or_more m v).solution.1 w.1)
