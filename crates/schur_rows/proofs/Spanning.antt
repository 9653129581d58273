-- Rows that show the row space of a complement, below the pivot rows, show that of the matrix.
use Rattle.std.proofs.Common.{ℕ, ◌≡◌, ◌+◌, ◌-◌, ◌*◌, ◌%◌, ◌<◌, ◌≤◌, inl, inr, List, ◌++◌, length, slice_index, sym, refl, ap, ap₂, subst, ◌∙◌, arith, mod-eq_of_lt, mod-lt, mul-zero, zero-mul}
use native.Mathlib.Nat.{mod-mod, zero-mod}
use Rattle.std.proofs.lemmas.List.{get_or_append_left, get_or-append-add}
use Rattle.std.proofs.lemmas.Nat.{mul-mod_second}
use Rattle.residue_words.specs.declared.plain.Pair.{Pair}
use Rattle.residue_words.specs.Residues.{IsPrime, sum_below}
use Rattle.residue_words.specs.Matrix.{Matrix, IsCombination, IsMatrix, IsVector, combine, entry, list_of, row, zeros}
use Rattle.residue_words.proofs.Residues.{add_same, minus_one, right_zero}
use Rattle.residue_words.proofs.Sums.{sum_equal, sum_reduce, sum_split, sum_zero}
use Rattle.residue_words.proofs.Vectors.{at_combine, at_list_of, at_mix, at_zeros, combination_mix, combination_of, combination_through, delta, entry_residue, length_list_of, list_equal, mix, row_combination, sum_delta, vector_equal, vector_of, zeros_vector}
use Rattle.row_space.specs.Echelon.{HasRank, IsIndependent, IsRref, SameSpan}
use Rattle.row_space.specs.Factors.{row_at, col_at}
use Rattle.row_space.proofs.Counting.{span_height}
use Rattle.row_space.proofs.Exists.{rref_of_each}
use Rattle.row_space.proofs.Rows.{rank_of_independent}
use Rattle.row_space.proofs.Spans.{places_independent, same_span_of_rows}
use Rattle.row_space.proofs.Triangular.{upper_zero}
use Rattle.sparse_rows.specs.Rows.{above}
use Rattle.pivot_table.specs.Order.{Triangular}
use Rattle.triangular_solve.specs.Reduced.{IsReduced}
use Rattle.triangular_solve.specs.Reduced.{IsComplement}
use Rattle.schur_rows.specs.Round.{pivot_rows}
use Rattle.schur_rows.specs.Laws.{RoundRank, RoundSpans}
use Rattle.schur_rows.proofs.Above.{above_first, above_matrix, above_second, each_of, pivot_height, pivot_row, pivots_matrix}
use Rattle.schur_rows.proofs.Unique.{diagonal, pivot_or_not}

module _ {p : ℕ} {A : Matrix} {qs : List Pair} {B U : Matrix} (prime : IsPrime p) (m : IsMatrix p A) (tri : Triangular A qs) (comp : IsComplement p A qs B) (mu : IsMatrix p U) (wide : U.width ≡ A.width)
    (free : IsIndependent p U) (same : SameSpan p B U) where
  abbrev n : ℕ
  n = length qs

  abbrev N : Matrix
  N = above (pivot_rows A qs) U

  two : 2 ≤ p
  two = prime.two_or_more

  pos : 0 < p
  pos = let t = prime.two_or_more in omega arith

  -- each row of A is a combination of the pivot rows and the row of B
  reduced : (i : ℕ) → i < A.height → (c : List ℕ) × IsReduced p A qs (row A i) (record { rest = row B i; coefficients = c })
  reduced i li = elim (pivot_or_not qs i) [
    | inl w ↦
        let k : ℕ = w.0 in
        let c : List ℕ = list_of n (delta k) in
        subst (λ i. (c : List ℕ) × IsReduced p A qs (row A i) (record { rest = row B i; coefficients = c })) w.2 (
          c,
          record {
            zero = λ t l. comp.pivotal k (col_at qs t) w.1 (tri.nonzero t l).1;
            sum = λ j lj.
                let e : ℕ → ℕ = λ s. entry A (row_at qs s) j in
                let one : sum_below n (λ s. slice_index c s * e s) ≡ e k =
                sum_equal n (λ s. slice_index c s * e s) (λ s. delta k s * e s) (λ s l. ap (λ x. x * e s) (at_list_of n (delta k) s l)) ∙ sum_delta n k e w.1 in
                let none : entry B (row_at qs k) j ≡ 0 = comp.pivotal k j w.1 lj in
                let plain : 0 + e k ≡ e k = omega arith in
                sym (ap₂ (λ a b. (a + b) % p) none one ∙ ap (λ x. x % p) plain ∙ mod-eq_of_lt (entry_residue p A m (row_at qs k) j (tri.nonzero k w.1).0 lj));
          },
        )
    | inr none ↦ (comp.others i li none).1
  ]

  high : (i : ℕ) → i < B.height → i < A.height
  high i l = let e = comp.height in omega arith

  -- the columns of the pivots are 0 in B, and in U
  column_zero : (i k : ℕ) → i < B.height → k < n → entry B i (col_at qs k) ≡ 0
  column_zero i k li lk = (reduced i (high i li)).1.zero k lk

  below_zero : (t k : ℕ) → t < U.height → k < n → entry U t (col_at qs k) ≡ 0
  below_zero t k lt lk =
      let c : IsCombination p B (row U t) = (same (row U t)).1 (row_combination p U t two mu lt) in
      let inside : col_at qs k < B.width = let e = comp.width in omega (arith, (tri.nonzero k lk).1) in
      ap (λ u. slice_index u (col_at qs k)) c.2 ∙ at_combine p c.0 B (col_at qs k) inside
      ∙ ap (λ x. x % p) (sum_zero B.height (λ i. slice_index c.0 i * entry B i (col_at qs k)) (λ i l. ap (λ x. slice_index c.0 i * x) (column_zero i k l lk) ∙ mul-zero (slice_index c.0 i)))
      ∙ zero-mod p

  pivots : IsMatrix p (pivot_rows A qs)
  pivots = pivots_matrix qs m (λ k l. (tri.nonzero k l).0)

  pub whole : IsMatrix p N
  whole = above_matrix pivots mu wide

  first : (k j : ℕ) → k < n → entry N k j ≡ entry A (row_at qs k) j
  first k j l = ap (λ u. slice_index u j) (above_first U pivots k (omega (arith, pivot_height A qs)) ∙ pivot_row A qs k l)

  second : (t j : ℕ) → entry N (n + t) j ≡ entry U t j
  second t j = ap (λ h. entry N (h + t) j) (sym (pivot_height A qs)) ∙ ap (λ u. slice_index u j) (above_second U pivots t)

  pub tall : N.height ≡ n + U.height
  tall = ap (λ h. h + U.height) (pivot_height A qs)

  -- a sum over the rows of both
  parted : (y : ℕ → ℕ) (j : ℕ) → sum_below N.height (λ k. y k * entry N k j) ≡ sum_below n (λ k. y k * entry A (row_at qs k) j) + sum_below U.height (λ t. y (n + t) * entry U t j)
  parted y j =
      ap (λ h. sum_below h (λ k. y k * entry N k j)) tall ∙ sum_split n U.height (λ k. y k * entry N k j)
      ∙ ap₂ (λ a b. a + b)
      (sum_equal n (λ k. y k * entry N k j) (λ k. y k * entry A (row_at qs k) j) (λ k l. ap (λ x. y k * x) (first k j l)))
      (sum_equal U.height (λ t. y (n + t) * entry N (n + t) j) (λ t. y (n + t) * entry U t j) (λ t l. ap (λ x. y (n + t) * x) (second t j)))

  pub independent : IsIndependent p N
  independent y vector none =
      let at_all : (j : ℕ) → j < A.width → (sum_below n (λ k. slice_index y k * entry A (row_at qs k) j) + sum_below U.height (λ t. slice_index y (n + t) * entry U t j)) % p ≡ 0 = λ j l.
      ap (λ x. x % p) (sym (parted (slice_index y) j)) ∙ sym (at_combine p y N j l) ∙ ap (λ u. slice_index u j) none ∙ at_zeros A.width j l in
      let low : (k : ℕ) → k < n → slice_index y k ≡ 0 = λ k l.
      sym (mod-eq_of_lt (vector.residues k (omega (arith, tall))))
      ∙ upper_zero p n (slice_index y) (λ k t. entry A (row_at qs k) (col_at qs t)) prime (diagonal m tri)
      (λ t lt.
      let c : ℕ = col_at qs t in
      let rest : sum_below U.height (λ s. slice_index y (n + s) * entry U s c) ≡ 0 =
      sum_zero U.height (λ s. slice_index y (n + s) * entry U s c) (λ s ls. ap (λ x. slice_index y (n + s) * x) (below_zero s t ls lt) ∙ mul-zero (slice_index y (n + s))) in
      let plain : sum_below n (λ k. slice_index y k * entry A (row_at qs k) c) + 0 ≡ sum_below n (λ k. slice_index y k * entry A (row_at qs k) c) = omega arith in
      ap (λ x. x % p) (sym plain ∙ ap (λ x. sum_below n (λ k. slice_index y k * entry A (row_at qs k) c) + x) (sym rest)) ∙ at_all c (tri.nonzero t lt).1)
      (λ k t a b. tri.after k t a b) k l in
      let z : List ℕ = list_of U.height (λ t. slice_index y (n + t)) in
      let z_zero : z ≡ zeros U.height =
      free z (vector_of p U.height (λ t. slice_index y (n + t)) (λ t l. vector.residues (n + t) (omega (arith, tall))))
      (list_equal U.width (combine p z U) (zeros U.width) (length_list_of U.width _) (length_list_of U.width _) (λ j l.
      let inside : j < A.width = omega arith in
      let front : sum_below n (λ k. slice_index y k * entry A (row_at qs k) j) ≡ 0 =
      sum_zero n (λ k. slice_index y k * entry A (row_at qs k) j) (λ k lk. ap (λ x. x * entry A (row_at qs k) j) (low k lk) ∙ zero-mul (entry A (row_at qs k) j)) in
      let back : ℕ = sum_below U.height (λ t. slice_index y (n + t) * entry U t j) in
      let plain : 0 + back ≡ back = omega arith in
      at_combine p z U j l
      ∙ ap (λ x. x % p) (sum_equal U.height (λ t. slice_index z t * entry U t j) (λ t. slice_index y (n + t) * entry U t j) (λ t lt. ap (λ x. x * entry U t j) (at_list_of U.height (λ t. slice_index y (n + t)) t lt)))
      ∙ ap (λ x. x % p) (sym plain ∙ ap (λ x. x + back) (sym front)) ∙ at_all j inside ∙ sym (at_zeros U.width j l))) in
      vector_equal p N.height y (zeros N.height) vector (zeros_vector p N.height pos) (λ k l.
      each_of n U.height (λ k. slice_index y k ≡ 0) low
      (λ t lt. sym (at_list_of U.height (λ t. slice_index y (n + t)) t lt) ∙ ap (λ u. slice_index u t) z_zero ∙ at_zeros U.height t lt) k (omega (arith, tall))
      ∙ sym (at_zeros N.height k l))

  -- each row of A is in the row space of both
  row_within : (i : ℕ) → i < A.height → IsCombination p N (row A i)
  row_within i li =
      let c : List ℕ = list_of n (slice_index (reduced i li).0) in
      let red : IsReduced p A qs (row A i) (record { rest = row B i; coefficients = (reduced i li).0 }) = (reduced i li).1 in
      let b : IsCombination p U (row B i) = (same (row B i)).0 (row_combination p B i two comp.matrix (let e = comp.height in omega arith)) in
      let z : List ℕ = b.0 in
      let y : List ℕ = c ++ z in
      let front : (k : ℕ) → k < n → slice_index y k ≡ slice_index (reduced i li).0 k = λ k l.
      get_or_append_left c z 0 k (omega (arith, length_list_of n (slice_index (reduced i li).0))) ∙ at_list_of n (slice_index (reduced i li).0) k l in
      let back : (t : ℕ) → slice_index y (n + t) ≡ slice_index z t = λ t. ap (λ h. slice_index y (h + t)) (sym (length_list_of n (slice_index (reduced i li).0))) ∙ get_or-append-add c z t 0 in
      combination_of p N (row A i) (slice_index y) pos (m.each i li) (λ j lj.
      let one : ℕ = sum_below n (λ k. slice_index (reduced i li).0 k * entry A (row_at qs k) j) in
      let rest : ℕ = sum_below U.height (λ t. slice_index z t * entry U t j) in
      let turn : rest + one ≡ one + rest = omega arith in
      ap (λ x. x % p) (red.sum j lj) ∙ mod-mod _ p
      ∙ ap (λ x. (x + one) % p) (ap (λ u. slice_index u j) b.2 ∙ at_combine p z U j (omega arith))
      ∙ add_same p (rest % p) rest one one (mod-mod rest p) refl
      ∙ ap (λ x. x % p) (turn ∙ sym (parted (slice_index y) j ∙ ap₂ (λ a b. a + b)
      (sum_equal n (λ k. slice_index y k * entry A (row_at qs k) j) (λ k. slice_index (reduced i li).0 k * entry A (row_at qs k) j) (λ k l. ap (λ x. x * entry A (row_at qs k) j) (front k l)))
      (sum_equal U.height (λ t. slice_index y (n + t) * entry U t j) (λ t. slice_index z t * entry U t j) (λ t l. ap (λ x. x * entry U t j) (back t))))))

  pivots_within : (v : List ℕ) → IsCombination p (pivot_rows A qs) v → IsCombination p A v
  pivots_within v = combination_through p (pivot_rows A qs) A v pos refl (λ k l.
      let low : k < n = omega (arith, pivot_height A qs) in
      subst (IsCombination p A) (sym (pivot_row A qs k low)) (row_combination p A (row_at qs k) two m (tri.nonzero k low).0))

  -- each row of B is in the row space of A
  rest_within : (i : ℕ) → i < B.height → IsCombination p A (row B i)
  rest_within i l =
      let li : i < A.height = high i l in
      let c : List ℕ = list_of (pivot_rows A qs).height (λ k. slice_index (reduced i li).0 k % p) in
      let red : IsReduced p A qs (row A i) (record { rest = row B i; coefficients = (reduced i li).0 }) = (reduced i li).1 in
      let u : List ℕ = combine p c (pivot_rows A qs) in
      let inner : IsCombination p A u = pivots_within u (c, vector_of p (pivot_rows A qs).height _ (λ k lk. mod-lt _ pos), refl) in
      let v : List ℕ = mix p A.width 1 (p - 1) (row A i) u in
      let vb : IsVector p A.width (row B i) = subst (λ w. IsVector p w (row B i)) comp.width (comp.matrix.each i l) in
      subst (IsCombination p A) (list_equal A.width v (row B i) (length_list_of A.width _) vb.len (λ j lj.
      let s : ℕ = sum_below n (λ k. slice_index (reduced i li).0 k * entry A (row_at qs k) j) in
      let b : ℕ = entry B i j in
      let part : slice_index u j ≡ s % p =
      at_combine p c (pivot_rows A qs) j lj
      ∙ ap (λ h. sum_below h (λ k. slice_index c k * entry (pivot_rows A qs) k j) % p) (pivot_height A qs)
      ∙ ap (λ x. x % p) (sum_equal n (λ k. slice_index c k * entry (pivot_rows A qs) k j) (λ k. slice_index (reduced i li).0 k % p * entry A (row_at qs k) j) (λ k lk.
      ap₂ (λ a b. a * b) (at_list_of (pivot_rows A qs).height (λ k. slice_index (reduced i li).0 k % p) k (omega (arith, pivot_height A qs))) (ap (λ u. slice_index u j) (pivot_row A qs k lk))))
      ∙ sum_reduce p n (slice_index (reduced i li).0) (λ k. entry A (row_at qs k) j) in
      let one : 1 * ((b + s) % p) ≡ (b + s) % p = omega arith in
      let turn : b + s + (p - 1) * s ≡ b + ((p - 1) * s + s) = omega arith in
      at_mix p A.width 1 (p - 1) (row A i) u j lj
      ∙ ap₂ (λ x y. (1 * x + (p - 1) * y) % p) (red.sum j lj) part
      ∙ ap (λ x. (x + (p - 1) * (s % p)) % p) one
      ∙ add_same p ((b + s) % p) (b + s) ((p - 1) * (s % p)) ((p - 1) * s) (mod-mod (b + s) p) (mul-mod_second (p - 1) s p)
      ∙ ap (λ x. x % p) turn ∙ right_zero p b ((p - 1) * s + s) (minus_one p (p - 1) s (let t = prime.two_or_more in omega arith))
      ∙ mod-eq_of_lt (vb.residues j lj)))
      (combination_mix p 1 (p - 1) A (row A i) u pos (row_combination p A i two m li) inner)

  pub span : SameSpan p A N
  span = same_span_of_rows p A N pos refl row_within (λ k l.
      each_of n U.height (λ k. IsCombination p A (row N k))
      (λ k a. subst (IsCombination p A) (sym (above_first U pivots k (omega (arith, pivot_height A qs)) ∙ pivot_row A qs k a)) (row_combination p A (row_at qs k) two m (tri.nonzero k a).0))
      (λ t a. subst (IsCombination p A) (sym (ap (λ h. row N (h + t)) (sym (pivot_height A qs)) ∙ above_second U pivots t))
      (combination_through p B A (row U t) pos comp.width rest_within ((same (row U t)).1 (row_combination p U t two mu a)))) k (omega (arith, tall)))

pub round_spanned : RoundSpans
round_spanned p A qs B U prime m tri comp mu wide free same = (independent prime m tri comp mu wide free same, span prime m tri comp mu wide free same)

pub round_ranked : RoundRank
round_ranked p A qs B r prime m tri comp rank =
    let two : 2 ≤ p = prime.two_or_more in
    let E : Matrix = rank.0 in
    let form : IsRref p B E = rank.1 in
    let wide : E.width ≡ A.width = form.width ∙ comp.width in
    let free : IsIndependent p E = places_independent p (λ j lead. j < lead) E (slice_index form.form.0) (omega arith) form.form.1.1 in
    let N : Matrix = above (pivot_rows A qs) E in
    subst (HasRank p A) (tall prime m tri comp form.matrix wide free form.span ∙ ap (λ r. length qs + r) rank.2)
    (rank_of_independent (λ p A prime m. rref_of_each p A prime m) span_height p A N prime m (whole prime m tri comp form.matrix wide free form.span) refl
    (independent prime m tri comp form.matrix wide free form.span) (span prime m tri comp form.matrix wide free form.span))
