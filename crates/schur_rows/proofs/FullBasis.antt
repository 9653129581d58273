-- A basis of full column rank spans all that is left, also of the rows that are not reduced.
use Rattle.std.proofs.Common.{ℕ, ◌≡◌, ◌+◌, ◌*◌, ◌-◌, ◌%◌, ◌<◌, ◌≤◌, ◌⊎◌, inl, inr, List, [], length, map, slice_index, sym, refl, ap, ap₂, subst, ◌∙◌, arith, mod-lt, mod-eq_of_lt, mul-zero}
use native.Mathlib.Nat.{mod-mod}
use Rattle.std.specs.List.{Contains, range_with_len}
use Rattle.std.proofs.lemmas.Bool.{cases_eq, cases_lt}
use Rattle.std.proofs.lemmas.List.FromFn.{get_or-map-range_with_len, length-map-range_with_len}
use Rattle.residue_words.specs.declared.plain.Pair.{Pair}
use Rattle.residue_words.specs.Residues.{IsPrime, sum_below}
use Rattle.residue_words.specs.Matrix.{Matrix, IsCombination, IsMatrix, IsVector, entry, list_of, row, zeros}
use Rattle.residue_words.proofs.Lists.{place_in}
use Rattle.residue_words.proofs.Residues.{add_same, mul_same, minus_one, right_zero}
use Rattle.residue_words.proofs.Sums.{sum_equal, sum_has}
use Rattle.residue_words.proofs.Vectors.{at_list_of, at_zeros, combination_through, row_combination, vector_equal, vector_of, zeros_vector}
use Rattle.row_space.specs.Echelon.{IsIndependent, SameSpan}
use Rattle.row_space.specs.Factors.{row_at, col_at}
use Rattle.row_space.proofs.Spans.{same_span_of_rows}
use Rattle.sparse_rows.specs.Rows.{AreOccupied, ResidueMatrix}
use Rattle.pivot_table.specs.Order.{Triangular}
use Rattle.triangular_solve.specs.Reduced.{IsComplement, IsPivotRow, IsSchurRow, SchurRowIsOne}
use Rattle.triangular_solve.specs.Triangle.{TriangleState}
use Rattle.schur_rows.specs.RestBasis.{AreInColumns, HasColumnsLeft, IsBasisUpTo, IsFullFor, IsInColumns, IsPivotColumn, IsRestBasis}
use Rattle.schur_rows.proofs.Distinct.{triangular_columns}
use Rattle.schur_rows.proofs.FullRank.{combination_in_columns, full_rank_spans, left_out, triangular_solvable}
use Rattle.schur_rows.proofs.Unique.{diagonal, pivot_or_not}

module _ {p : ℕ} {A : Matrix} {qs : List Pair} (prime : IsPrime p) (m : IsMatrix p A) (tri : Triangular A qs) where
  -- coefficients of the pivot rows with which v's entries in the pivots' columns are reached
  reaching : (v : List ℕ) → (x : ℕ → ℕ) × ((k : ℕ) → k < length qs → sum_below (length qs) (λ t. x t * entry A (row_at qs t) (col_at qs k)) % p ≡ slice_index v (col_at qs k) % p)
  reaching v = triangular_solvable p (length qs) (λ t k. entry A (row_at qs t) (col_at qs k)) (λ k. slice_index v (col_at qs k)) prime (diagonal m tri) tri.after

  -- for a prime modulus each row has a Schur row
  pub schur_row_exists : (v : List ℕ) → IsVector p A.width v → (w : List ℕ) × IsSchurRow p A qs v w
  schur_row_exists v vector =
      let pos : 0 < p = let two = prime.two_or_more in omega arith in
      let next : p ≡ (p - 1) + 1 = omega arith in
      let x : ℕ → ℕ = (reaching v).0 in
      let s : ℕ → ℕ = λ j. sum_below (length qs) (λ k. x k * entry A (row_at qs k) j) in
      let f : ℕ → ℕ = λ j. (slice_index v j + (p - 1) * s j) % p in
      let none : (c : ℕ) → ((p - 1) * c + c) % p ≡ 0 = λ c. minus_one p (p - 1) c (omega arith) in
      let w : List ℕ = list_of A.width f in (
        w,
        (
          vector_of p A.width f (λ j l. mod-lt (slice_index v j + (p - 1) * s j) pos),
          (
            list_of (length qs) x,
            record {
              zero = λ k l.
                  let c : ℕ = col_at qs k in
                  let turn : slice_index v c + (p - 1) * slice_index v c ≡ (p - 1) * slice_index v c + slice_index v c = omega arith in
                  at_list_of A.width f c (tri.nonzero k l).1
                  ∙ add_same p (slice_index v c) (slice_index v c) ((p - 1) * s c) ((p - 1) * slice_index v c) refl (mul_same p (p - 1) (p - 1) (s c) (slice_index v c) refl ((reaching v).1 k l))
                  ∙ ap (λ y. y % p) turn ∙ none (slice_index v c);
              sum = λ j l.
                  let same : sum_below (length qs) (λ k. slice_index (list_of (length qs) x) k * entry A (row_at qs k) j) ≡ s j =
                  sum_equal (length qs) (λ k. slice_index (list_of (length qs) x) k * entry A (row_at qs k) j) (λ k. x k * entry A (row_at qs k) j) (λ k lk. ap (λ y. y * entry A (row_at qs k) j) (at_list_of (length qs) x k lk)) in
                  let turn : slice_index v j + (p - 1) * s j + s j ≡ slice_index v j + ((p - 1) * s j + s j) = omega arith in
                  sym (
                  ap₂ (λ a b. (a + b) % p) (at_list_of A.width f j l) same
                  ∙ add_same p (f j) (slice_index v j + (p - 1) * s j) (s j) (s j) (mod-mod (slice_index v j + (p - 1) * s j) p) refl
                  ∙ ap (λ y. y % p) turn ∙ right_zero p (slice_index v j) ((p - 1) * s j + s j) (none (s j)) ∙ mod-eq_of_lt (vector.residues j l)
                  );
            },
          ),
        ),
      )

  -- w is what is left of row i
  abbrev IsRestOfRow : ℕ → List ℕ → Type 0
  IsRestOfRow i w = IsVector p A.width w × (IsPivotRow qs i → w ≡ zeros A.width) × (¬ IsPivotRow qs i → IsSchurRow p A qs (row A i) w)

  rest_exists : (i : ℕ) → i < A.height → (w : List ℕ) × IsRestOfRow i w
  rest_exists i l = elim (pivot_or_not qs i) [
    | inl k ↦ (zeros A.width, (zeros_vector p A.width (let two = prime.two_or_more in omega arith), λ _. refl, λ none. absurd (none k)))
    | inr none ↦
        let w = schur_row_exists (row A i) (m.each i l) in
        (w.0, (w.1.0, (λ k. absurd (none k)), λ _. w.1))
  ]

  chosen : (i : ℕ) → (i < A.height) ⊎ (A.height ≤ i) → List ℕ
  chosen i (inl l) = (rest_exists i l).0
  chosen i (inr h) = zeros A.width

  chosen_is : (i : ℕ) (c : (i < A.height) ⊎ (A.height ≤ i)) → i < A.height → IsRestOfRow i (chosen i c)
  unfolding chosen
  chosen_is i (inl l) low = (rest_exists i l).1
  chosen_is i (inr h) low = absurd (omega arith)

  rest : Matrix
  rest = record { height = A.height; width = A.width; rows = map (λ i. chosen i (cases_lt i A.height)) (range_with_len 0 A.height) }

  rest_is : (i : ℕ) → i < A.height → IsRestOfRow i (row rest i)
  unfolding rest
  rest_is i l = subst (IsRestOfRow i) (sym (get_or-map-range_with_len (λ i. chosen i (cases_lt i A.height)) 0 A.height i i [] l (omega arith))) (chosen_is i (cases_lt i A.height) l)

  -- there is a complement
  pub complement_exists : (B : Matrix) × IsComplement p A qs B
  unfolding rest
  complement_exists = (
    rest,
    record {
      matrix = record { len = length-map-range_with_len (λ i. chosen i (cases_lt i A.height)) 0 A.height; each = λ i l. (rest_is i l).0 };
      height = refl;
      width = refl;
      pivotal = λ k j l lj. ap (λ u. slice_index u j) ((rest_is (row_at qs k) (tri.nonzero k l).0).1 (k, l, refl)) ∙ at_zeros A.width j lj;
      others = λ i l none. (rest_is i l).2 none;
    },
  )

module _ {p : ℕ} {A : Matrix} {qs : List Pair} {n : ℕ} (prime : IsPrime p) (m : IsMatrix p A) (tri : Triangular A qs) (left : HasColumnsLeft A qs n) where
  -- Schur rows have no entry outside the columns that are left
  schur_in_columns : (i : ℕ) (w : List ℕ) → i < A.height → IsSchurRow p A qs (row A i) w → IsInColumns left.0 A.width w
  schur_in_columns i w li schur j l d =
      let c : List ℕ = schur.1.0 in
      let other : ¬ IsPivotColumn qs j = λ k. d (ap (slice_index w) (sym k.2) ∙ schur.1.1.zero k.0 k.1) in
      elim (cases_eq (entry A i j) 0) [
        | inr e ↦ left.2 i j li l e other
        | inl z ↦
            let term = sum_has (length qs) (λ k. slice_index c k * entry A (row_at qs k) j) (λ none. d (
            let plain : slice_index w j + 0 ≡ slice_index w j = omega arith in
            sym (mod-eq_of_lt (schur.0.residues j l)) ∙ ap (λ x. x % p) (sym plain) ∙ ap (λ x. (slice_index w j + x) % p) (sym none) ∙ sym (schur.1.1.sum j l) ∙ z
            )) in
            left.2 (row_at qs term.0) j (tri.nonzero term.0 term.1).0 l (λ z. term.2 (ap (λ x. slice_index c term.0 * x) z ∙ mul-zero (slice_index c term.0))) other
      ]

  -- rows of what is left
  abbrev pub ArePartOfRest : Matrix → Type 0
  ArePartOfRest P = (i : ℕ) → i < P.height → (IsPivotRow qs i → row P i ≡ zeros A.width) × (¬ IsPivotRow qs i → IsSchurRow p A qs (row A i) (row P i))

  rest_in_columns : (P : Matrix) → P.width ≡ A.width → P.height ≤ A.height → ArePartOfRest P → AreInColumns left.0 P
  rest_in_columns P wide high part i l j lj d = elim (pivot_or_not qs i) [
    | inl k ↦ absurd (d (ap (λ u. slice_index u j) ((part i l).0 k) ∙ at_zeros A.width j (omega arith)))
    | inr none ↦ schur_in_columns i (row P i) (omega arith) ((part i l).1 none) j (omega arith) d
  ]

  -- where independent rows span the rest of the first rows, and are as many as the columns that are left, they span the rest of all
  pub rest_spanned : SchurRowIsOne → (P U : Matrix) → P.width ≡ A.width → P.height ≤ A.height → ArePartOfRest P → IsMatrix p U → U.width ≡ A.width → IsIndependent p U → SameSpan p P U → n ≤ U.height →
      (B : Matrix) × IsComplement p A qs B × SameSpan p B U
  rest_spanned one P U wide high part mu width free same few =
      let two : 2 ≤ p = prime.two_or_more in
      let pos : 0 < p = omega arith in
      let B : Matrix = (complement_exists prime m tri).0 in
      let comp : IsComplement p A qs B = (complement_exists prime m tri).1 in
      let high_rest : (i : ℕ) → i < B.height → i < A.height = λ i l. let e = comp.height in omega arith in
      let all : ArePartOfRest B = λ i l. (
        λ k. vector_equal p A.width (row B i) (zeros A.width) (subst (λ n. IsVector p n (row B i)) comp.width (comp.matrix.each i l)) (zeros_vector p A.width pos)
            (λ j lj. ap (λ i. entry B i j) (sym k.2) ∙ comp.pivotal k.0 j k.1 lj ∙ sym (at_zeros A.width j lj)),
        comp.others i (high_rest i l),
      ) in
      let inside : AreInColumns left.0 B = rest_in_columns B comp.width (let e = comp.height in omega arith) all in
      let basis : AreInColumns left.0 U = λ k l. subst (λ n. IsInColumns left.0 n (row U k)) (wide ∙ sym width)
      (combination_in_columns p P left.0 (row U k) (rest_in_columns P wide high part) ((same (row U k)).1 (row_combination p U k two mu l))) in
      let first : (i : ℕ) → i < P.height → row P i ≡ row B i = λ i l.
      let li : i < A.height = omega arith in
      let lb : i < B.height = let e = comp.height in omega arith in
      elim (pivot_or_not qs i) [
        | inl k ↦ (part i l).0 k ∙ sym ((all i lb).0 k)
        | inr none ↦ one p A qs (row A i) (row P i) (row B i) prime m tri ((part i l).1 none) (comp.others i li none)
      ] in
      let to : B.width ≡ U.width = comp.width ∙ sym width in (
        B,
        comp,
        same_span_of_rows p B U pos to
            (λ i l. full_rank_spans p U left.0 (row B i) two free basis (let e = left.1 in omega arith) (subst (λ n. IsVector p n (row B i)) to (comp.matrix.each i l)) (subst (λ n. IsInColumns left.0 n (row B i)) to (inside i l)))
            (λ k l. combination_through p P B (row U k) pos (wide ∙ sym comp.width)
            (λ i li. subst (IsCombination p B) (sym (first i li)) (row_combination p B i two comp.matrix (let e = comp.height in omega arith)))
            ((same (row U k)).1 (row_combination p U k two mu l))),
      )

-- occupied columns of the basis, as many as its rows at most, among which are those of the rows below
pub full_for : (L U : Matrix) (columns others xs ys : List ℕ) → ys ≡ columns → xs ≡ others → AreOccupied U columns → AreOccupied L others → length columns ≤ U.height →
    ((k : ℕ) → k < length xs → Contains ys (slice_index xs k)) → IsFullFor L U
full_for L U columns others xs ys same equal own below few among = (
  columns,
  few,
  λ i l j lj d. own.enough.all i j l lj d,
  λ i l j lj d.
      let w = place_in xs j (subst (λ xs. Contains xs j) (sym equal) (below.enough.all i j l lj d)) in
      subst (λ ys. Contains ys j) same (subst (Contains ys) w.2 (among w.0 w.1)),
)

-- the occupied columns but the pivots'
pub columns_left : {A : Matrix} {qs : List Pair} {columns : List ℕ} → Triangular A qs → AreOccupied A columns → HasColumnsLeft A qs (length columns - length qs)
columns_left {A} {qs} {columns} tri o =
    let rest = left_out (length qs) (col_at qs) columns (λ k l. let n = tri.nonzero k l in o.enough.all (row_at qs k) (col_at qs k) n.0 n.1 n.2) (triangular_columns tri) in (
      rest.0,
      omega (arith, rest.1),
      λ i j li lj d other. rest.2 j (o.enough.all i j li lj d) (λ k l e. other (k, l, e)),
    )

-- a basis of what is left of the first rows, as high as columns are left
pub basis_full : {t : TriangleState} {from n : ℕ} {b : ResidueMatrix} → SchurRowIsOne → IsMatrix t.rows.modulus t.rows.matrix → Triangular t.rows.matrix t.pairs → IsBasisUpTo t from b → from ≤ t.rows.matrix.height →
    HasColumnsLeft t.rows.matrix t.pairs n → n ≤ b.matrix.height → IsRestBasis t b
basis_full {t} {from} {n} {b} one m tri h inside left few = record {
  fits = record { modulus = h.modulus; matrix = h.matrix; width = h.width; height = omega (arith, h.height) };
  independent = h.independent;
  span = λ prime. rest_spanned prime m tri left one h.part.rows.matrix b.matrix h.is_part.0.width (omega (arith, h.is_part.1))
      (λ i l.
      let plain : 0 + i ≡ i = omega arith in
      let P : Matrix = h.part.rows.matrix in
      subst (λ x. (IsPivotRow t.pairs x → row P i ≡ zeros t.rows.matrix.width) × (¬ IsPivotRow t.pairs x → IsSchurRow t.rows.modulus t.rows.matrix t.pairs (row t.rows.matrix x) (row P i))) plain
      ((h.is_part.0.each i l).nothing, (h.is_part.0.each i l).left prime)) h.matrix h.width (h.independent prime) (h.span prime) few;
}
