-- The first row of the kernel basis of A transposed that b isn't orthogonal to, divided by its product with b, refutes A x = b.
use Rattle.std.proofs.Common.{ℕ, zero, suc, ◌≡◌, ◌≢◌, ◌+◌, ◌*◌, ◌%◌, ◌<◌, ◌≤◌, ◌⊎◌, inl, inr, List, length, slice_index, sym, ap, subst, ◌∙◌, arith, mul-zero, zero-mul, mul_comm, mod-eq_of_lt, mod-lt}
use native.Mathlib.Nat.{zero-mod}
use Rattle.std.proofs.lemmas.Bool.{cases_eq, cases_lt}
use Rattle.residue_words.specs.Residues.{IsPrime}
use Rattle.residue_words.specs.Residues as spec
use Rattle.residue_words.specs.Matrix.{Matrix, IsMatrix, IsVector, apply, combine, dot, entry, list_of, row, zeros}
use Rattle.residue_words.proofs.Inverses.{inverse_is}
use Rattle.residue_words.proofs.Residues.{inverse, no_divisors}
use Rattle.residue_words.proofs.Sums.{sum_equal, sum_single, sum_zero}
use Rattle.residue_words.proofs.Vectors.{at_apply, at_mix, at_zeros, combine_linear, dot_combine, dot_linear, list_of_equal, mix, mix_vector}
use Rattle.row_space.specs.Kernel.{EndsAt, HasEnds, IsKernel, IsNull}
use Rattle.row_space.specs.Solution.{Annuls, IsRefutingCombination, IsSolution}
use Rattle.row_space.proofs.Solvable.{alternative_holds}
use Rattle.sparse_rows.specs.Rows.{transposed}
use Rattle.kernel_solve.specs.Refuted.{FirstHitRefutes, IsFirstHit, UnsolvableIsHit, divided, multiple}
use Rattle.kernel_solve.proofs.Matrices.{transposed_entry}
use Rattle.kernel_solve.proofs.RowEnds.{coefficient, end_found, none_behind}

-- A transposed times y is y A
annulled : (p : ℕ) (A : Matrix) (y : List ℕ) → apply p (transposed A) y ≡ combine p y A
annulled p A y = list_of_equal A.width _ _ (λ j l.
    ap (λ x. x % p) (sum_equal A.height _ _ (λ i b. ap (λ x. x * slice_index y i) (transposed_entry A j i l b) ∙ mul_comm (entry A i j) (slice_index y i))))

-- a multiple as a linear combination
multiple_mix : (p c : ℕ) (v : List ℕ) (n : ℕ) → length v ≡ n → multiple p c v ≡ mix p n c 0 v v
multiple_mix p c v n long =
    ap (λ n. list_of n (λ j. c * slice_index v j % p)) long
    ∙ list_of_equal n _ _ (λ j l. let same : c * slice_index v j ≡ c * slice_index v j + 0 * slice_index v j = omega (arith, zero-mul (slice_index v j)) in ap (λ x. x % p) same)

module _ (p : ℕ) (A : Matrix) (b : List ℕ) (K : Matrix) (prime : IsPrime p) (m : IsMatrix p A) (v : IsVector p A.height b) (kernel : IsKernel p (transposed A) K) where
  two : 2 ≤ p
  two = prime.two_or_more

  wide : K.width ≡ A.height
  wide = kernel.width

  abbrev ends : List ℕ
  ends = kernel.form.0

  has : HasEnds K ends
  has = kernel.form.1

  -- a combination of the kernel's rows times b, by the products of the rows
  through : (c : List ℕ) → dot p K.width (combine p c K) b ≡ dot p K.height c (apply p K b)
  through c = dot_combine p c K b

  -- where y A is 0, y is a combination of the rows
  spanned : (y : List ℕ) → IsVector p A.height y → combine p y A ≡ zeros A.width → (c : List ℕ) × IsVector p K.height c × (y ≡ combine p c K)
  spanned y h e = kernel.every y (h, annulled p A y ∙ e)

  product_at : (t : ℕ) → t < K.height → slice_index (apply p K b) t ≡ dot p K.width (row K t) b
  product_at t l = at_apply p K b t l

  module _ (k : ℕ) (hit : IsFirstHit p K b k) where
    abbrev d : ℕ
    d = dot p K.width (row K k) b

    small : d < p
    small = mod-lt _ (let pos : 0 < p = omega (arith, two) in pos)

    abbrev i : ℕ
    i = spec.inverse p d

    inverted : (d * i) % p ≡ 1
    inverted =
        let w = inverse p d prime (λ z. hit.hit (sym (mod-eq_of_lt small) ∙ z)) in
        ap (λ x. (d * x) % p) (inverse_is p d w.0 two w.1 w.2) ∙ w.2

    abbrev first : List ℕ
    first = row K k

    null : IsNull p (transposed A) first
    null = kernel.null k hit.below

    is_mix : divided p K b k ≡ mix p A.height i 0 first first
    is_mix = multiple_mix p i first A.height null.0.len

    vector : IsVector p A.height (divided p K b k)
    vector = subst (IsVector p A.height) (sym is_mix) (mix_vector p A.height i 0 first first (let pos : 0 < p = omega (arith, two) in pos))

    annuls : combine p (divided p K b k) A ≡ zeros A.width
    annuls =
        let z : combine p first A ≡ zeros A.width = sym (annulled p A first) ∙ null.1 in
        ap (λ y. combine p y A) is_mix ∙ combine_linear p i 0 first first A
        ∙ list_of_equal A.width _ _ (λ j l.
        let at : slice_index (combine p first A) j ≡ 0 = ap (λ u. slice_index u j) z ∙ at_zeros A.width j l in
        let none : i * slice_index (combine p first A) j + 0 * slice_index (combine p first A) j ≡ 0 = omega (arith, ap (λ x. i * x) at, mul-zero i, zero-mul (slice_index (combine p first A) j)) in
        ap (λ x. x % p) none ∙ zero-mod p)

    one : dot p A.height (divided p K b k) b ≡ 1
    one =
        let same : dot p A.height first b ≡ d = ap (λ n. dot p n first b) (sym wide) in
        let sum : i * dot p A.height first b + 0 * dot p A.height first b ≡ d * i = omega (arith, ap (λ x. i * x) same, zero-mul (dot p A.height first b), mul_comm i d) in
        ap (λ y. dot p A.height y b) is_mix ∙ dot_linear p A.height i 0 first first b ∙ ap (λ x. x % p) sum ∙ inverted

    -- the last place of a combination that b is orthogonal to is the end of another row
    apart : (z : List ℕ) (j : ℕ) → Annuls p A b 0 z → EndsAt A.height z j → slice_index first j ≡ 0
    apart z j a e =
        let c = spanned z a.0 a.1 in
        let inside : EndsAt K.width z j = subst (λ n. EndsAt n z j) (sym wide) e in
        let read = coefficient p K ends c.0 z j has c.1 c.2 inside in
        let past = none_behind p K ends c.0 z j has c.1 c.2 inside in
        let w = end_found p K ends c.0 z j has c.1 c.2 inside in
        let end : slice_index ends w.0 ≡ j = w.2 in
        elim (cases_eq w.0 k) [
          | inr o ↦ ap (slice_index first) (sym end) ∙ has.1.alone w.0 k w.1 hit.below (λ q. o (sym q))
          | inl same ↦
              let at_k : slice_index ends k ≡ j = ap (slice_index ends) (sym same) ∙ end in
              let rest : (t : ℕ) → t < K.height → t ≢ k → slice_index c.0 t * slice_index (apply p K b) t ≡ 0 = λ t l o.
              elim (cases_lt t k) [
                | inl q ↦ ap (λ x. slice_index c.0 t * x) (product_at t l ∙ hit.before t q) ∙ mul-zero (slice_index c.0 t)
                | inr q ↦ ap (λ x. x * slice_index (apply p K b) t) (past t l (omega (arith, at_k, has.1.rising k t (omega arith) l))) ∙ zero-mul (slice_index (apply p K b) t)
              ] in
              let total : dot p K.width z b ≡ (slice_index c.0 k * d) % p =
              ap (λ u. dot p K.width u b) c.2 ∙ through c.0
              ∙ ap (λ x. x % p) (sum_single K.height (λ t. slice_index c.0 t * slice_index (apply p K b) t) k hit.below rest ∙ ap (λ x. slice_index c.0 k * x) (product_at k hit.below)) in
              let zero_product : (slice_index c.0 k * d) % p ≡ 0 = sym total ∙ ap (λ n. dot p n z b) wide ∙ a.2 in
              let nonzero : slice_index c.0 k ≢ 0 = λ q. e.nonzero (ap (slice_index z) (sym at_k) ∙ read k hit.below ∙ q) in
              let lower : slice_index c.0 k < p = c.1.residues k hit.below in
              elim (no_divisors p (slice_index c.0 k) d prime zero_product) [
                | inl q ↦ absurd (nonzero (sym (mod-eq_of_lt lower) ∙ q))
                | inr q ↦ absurd (hit.hit (sym (mod-eq_of_lt small) ∙ q))
              ]
        ]

    refuting : IsRefutingCombination p A b (divided p K b k)
    refuting = record {
      refutes = (vector, annuls, one);
      reduced = λ z j a e.
          let zero_there : slice_index first j ≡ 0 = apart z j a e in
          let none : i * slice_index first j + 0 * slice_index first j ≡ 0 = omega (arith, ap (λ x. i * x) zero_there, mul-zero i, zero-mul (slice_index first j)) in
          ap (λ y. slice_index y j) is_mix ∙ at_mix p A.height i 0 first first j e.inside ∙ ap (λ x. x % p) none ∙ zero-mod p;
    }

  -- the first of the first n rows, or none of them
  first_of : (n : ℕ) → n ≤ K.height → ((k : ℕ) × IsFirstHit p K b k) ⊎ ((t : ℕ) → t < n → dot p K.width (row K t) b ≡ 0)
  first_of zero l = inr (λ t b. absurd (omega arith))
  first_of (suc n) l = elim (first_of n (omega arith)) [
    | inl found ↦ inl found
    | inr none ↦ elim (cases_eq (dot p K.width (row K n) b) 0) [
      | inr hit ↦ inl (n, record { below = omega arith; hit = hit; before = none })
      | inl zero_product ↦ inr (λ t q. elim (cases_eq t n) [
        | inl same ↦ ap (λ x. dot p K.width (row K x) b) same ∙ zero_product
        | inr o ↦ none t (omega arith)
      ])
    ]
  ]

  hit_there : ((x : List ℕ) → ¬ IsSolution p A b x) → (k : ℕ) × IsFirstHit p K b k
  hit_there unsolvable = elim (first_of K.height (omega arith)) [
    | inl found ↦ found
    | inr none ↦
        let y = (alternative_holds p A b prime m v).0 unsolvable in
        let c = spanned y.0 y.1.0 y.1.1 in
        let zero_product : dot p K.width y.0 b ≡ 0 = ap (λ u. dot p K.width u b) c.2 ∙ through c.0
        ∙ ap (λ x. x % p) (sum_zero K.height (λ t. slice_index c.0 t * slice_index (apply p K b) t) (λ t l. ap (λ x. slice_index c.0 t * x) (product_at t l ∙ none t l) ∙ mul-zero (slice_index c.0 t))) ∙ zero-mod p in
        absurd (omega (arith, zero_product, ap (λ n. dot p n y.0 b) wide, y.1.2))
  ]

pub first_hit_holds : FirstHitRefutes
first_hit_holds p A b K k prime m v kernel hit = refuting p A b K prime m v kernel k hit

pub unsolvable_hit_holds : UnsolvableIsHit
unsolvable_hit_holds p A b K prime m v kernel unsolvable = hit_there p A b K prime m v kernel unsolvable
