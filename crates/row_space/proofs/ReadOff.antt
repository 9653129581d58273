-- The solution of A x = b is read off the echelon form of [A | b].
use Rattle.std.proofs.Common.{ℕ, ◌≡◌, ◌+◌, ◌*◌, ◌%◌, ◌<◌, ◌≤◌, ◌⊎◌, inl, inr, List, [], ◌∷◌, ◌++◌, length, slice_index, sym, refl, ap, ap₂, subst, ◌∙◌, arith, mod-eq_of_lt, mul-zero, zero-mul, one-mul}
use native.Mathlib.Nat.{mod-mod}
use Rattle.std.proofs.lemmas.Bool.{cases_eq, cases_lt}
use Rattle.std.proofs.lemmas.List.{get_or_append_left, get_or_push, length_push}
use Rattle.std.proofs.lemmas.List.FromFn.{get_or-map-range_with_len, length-map-range_with_len}
use Rattle.residue_words.specs.Residues.{sum_below}
use Rattle.residue_words.specs.Matrix.{Matrix, IsMatrix, IsVector, IsCombination, row, entry, apply, dot}
use Rattle.residue_words.proofs.Residues.{mul_same, product_zero_right}
use Rattle.residue_words.proofs.Sums.{sum_equal, sum_same, sum_single, sum_pair, sum_zero_same}
use Rattle.residue_words.proofs.Vectors.{at_apply, at_combine, at_zeros, list_equal, list_of_equal, length_list_of, row_combination}
use Rattle.row_space.specs.Echelon.{HasLeads, IsRref}
use Rattle.row_space.specs.Kernel.{EndsAt, IsNull}
use Rattle.row_space.specs.Solution.{Annuls, IsSolution, augmented}
use Rattle.row_space.specs.Laws.{LastLeadRefutes, RrefSolves}
use Rattle.row_space.proofs.Solvable.{refuted}

-- the rows of [A | b], and its entries
pub row_augmented : (A : Matrix) (b : List ℕ) (i : ℕ) → i < A.height → row (augmented A b) i ≡ row A i ++ slice_index b i ∷ []
row_augmented A b i l = get_or-map-range_with_len (λ i. row A i ++ slice_index b i ∷ []) 0 A.height i i [] l (omega arith)

pub augmented_left : (p : ℕ) (A : Matrix) (b : List ℕ) → IsMatrix p A → (i j : ℕ) → i < A.height → j < A.width → entry (augmented A b) i j ≡ entry A i j
augmented_left p A b m i j l o =
    ap (λ u. slice_index u j) (row_augmented A b i l) ∙ get_or_append_left (row A i) (slice_index b i ∷ []) 0 j (let e = (m.each i l).len in omega arith)

pub augmented_last : (p : ℕ) (A : Matrix) (b : List ℕ) → IsMatrix p A → (i : ℕ) → i < A.height → entry (augmented A b) i A.width ≡ slice_index b i
augmented_last p A b m i l = ap (λ u. slice_index u A.width) (row_augmented A b i l) ∙ get_or_push (row A i) (slice_index b i) 0 A.width (m.each i l).len

-- [A | b] is a matrix of residues
pub augmented_matrix : (p : ℕ) (A : Matrix) (b : List ℕ) → IsMatrix p A → IsVector p A.height b → IsMatrix p (augmented A b)
augmented_matrix p A b m v = record {
  len = length-map-range_with_len (λ i. row A i ++ slice_index b i ∷ []) 0 A.height;
  each = λ i l. record {
    len = ap length (row_augmented A b i l) ∙ length_push (row A i) (slice_index b i) ∙ ap (λ x. x + 1) (m.each i l).len;
    residues = λ j o. elim (cases_eq j A.width) [
      | inl z ↦ omega (arith, ap (entry (augmented A b) i) z, augmented_last p A b m i l, v.residues i l)
      | inr d ↦ let low : j < A.width = omega arith in omega (arith, augmented_left p A b m i j l low, (m.each i l).residues j low)
    ];
  };
}

-- what a null vector gives at a row
pub null_row : (p : ℕ) (A : Matrix) (z : List ℕ) → IsNull p A z → (i : ℕ) → i < A.height → sum_below A.width (λ j. entry A i j * slice_index z j) % p ≡ 0
null_row p A z null i l = sym (at_apply p A z i l) ∙ ap (λ u. slice_index u i) null.1 ∙ at_zeros A.height i l

module _ (p : ℕ) (A : Matrix) (b : List ℕ) (E : Matrix) (leads : List ℕ) (two : 2 ≤ p) (m : IsMatrix p A) (v : IsVector p A.height b)
    (form : IsRref p (augmented A b) E) (has : HasLeads E leads) where
  -- the coefficients of a row of the form in the rows of [A | b], and of a row of [A | b] in those of the form
  of_form : (k : ℕ) → k < E.height → IsCombination p (augmented A b) (row E k)
  of_form k l = (form.span (row E k)).1 (row_combination p E k two form.matrix l)

  of_rows : (i : ℕ) → i < A.height → IsCombination p E (row (augmented A b) i)
  of_rows i l = (form.span (row (augmented A b) i)).0 (row_combination p (augmented A b) i two (augmented_matrix p A b m v) l)

  -- a row of the form, left of the last column and in it
  form_left : (k : ℕ) (l : k < E.height) (j : ℕ) → j < A.width → entry E k j ≡ sum_below A.height (λ i. slice_index (of_form k l).0 i * entry A i j) % p
  form_left k l j o =
      let y : List ℕ = (of_form k l).0 in
      ap (λ u. slice_index u j) (of_form k l).2 ∙ at_combine p y (augmented A b) j (omega arith)
      ∙ ap (λ x. x % p) (sum_equal A.height (λ i. slice_index y i * entry (augmented A b) i j) (λ i. slice_index y i * entry A i j)
      (λ i c. ap (λ x. slice_index y i * x) (augmented_left p A b m i j c o)))

  form_last : (k : ℕ) (l : k < E.height) → entry E k A.width ≡ dot p A.height (of_form k l).0 b
  form_last k l =
      let y : List ℕ = (of_form k l).0 in
      ap (λ u. slice_index u A.width) (of_form k l).2 ∙ at_combine p y (augmented A b) A.width (omega arith)
      ∙ ap (λ x. x % p) (sum_equal A.height (λ i. slice_index y i * entry (augmented A b) i A.width) (λ i. slice_index y i * slice_index b i)
      (λ i c. ap (λ x. slice_index y i * x) (augmented_last p A b m i c)))

  -- a lead in the last column makes a refutation
  lead_annuls : (k : ℕ) (l : k < E.height) → slice_index leads k ≡ A.width → Annuls p A b 1 (of_form k l).0
  lead_annuls k l last = (
    (of_form k l).1,
    list_of_equal A.width _ (λ j. 0) (λ j o. sym (form_left k l j o) ∙ has.1.past k j l (let w = form.width in omega arith) (omega arith)),
    sym (form_last k l) ∙ ap (entry E k) (sym last) ∙ has.1.one k l,
  )

  module _ (inner : (k : ℕ) → k < E.height → slice_index leads k < A.width) (x : List ℕ) (vx : IsVector p A.width x)
      (read : (k : ℕ) → k < E.height → slice_index x (slice_index leads k) ≡ entry E k A.width)
      (cover : (j : ℕ) → j < A.width → slice_index x j ≡ 0 ⊎ ((k : ℕ) × (k < E.height) × (slice_index leads k ≡ j))) where
    -- x solves each row of the form
    form_solved : (k : ℕ) → k < E.height → sum_below A.width (λ j. entry E k j * slice_index x j) ≡ entry E k A.width
    form_solved k l =
        sum_single A.width (λ j. entry E k j * slice_index x j) (slice_index leads k) (inner k l) (λ j o d. elim (cover j o) [
          | inl z ↦ ap (λ t. entry E k j * t) z ∙ mul-zero (entry E k j)
          | inr w ↦
              ap (λ t. t * slice_index x j) (ap (entry E k) (sym w.2) ∙ has.1.alone w.0 k w.1 l (λ same. d (sym w.2 ∙ ap (slice_index leads) (sym same))))
              ∙ zero-mul (slice_index x j)
        ])
        ∙ ap₂ (λ s t. s * t) (has.1.one k l) (read k l) ∙ one-mul (entry E k A.width)

    -- so x solves A x = b
    rows_solved : IsSolution p A b x
    rows_solved = (
      vx,
      list_equal A.height (apply p A x) b (length_list_of A.height _) v.len (λ i l.
          let c = of_rows i l in
          let z : ℕ → ℕ = slice_index c.0 in
          let w = form.width in
          at_apply p A x i l
          ∙ sum_same p A.width (λ j. entry A i j * slice_index x j) (λ j. sum_below E.height (λ k. z k * entry E k j) * slice_index x j)
          (λ j o. mul_same p (entry A i j) (sum_below E.height (λ k. z k * entry E k j)) (slice_index x j) (slice_index x j)
          (ap (λ t. t % p) (sym (augmented_left p A b m i j l o) ∙ ap (λ u. slice_index u j) c.2 ∙ at_combine p c.0 E j (omega arith)) ∙ mod-mod _ p) refl)
          ∙ ap (λ t. t % p) (sym (sum_pair E.height A.width z (entry E) (slice_index x))
          ∙ sum_equal E.height (λ k. z k * sum_below A.width (λ j. entry E k j * slice_index x j)) (λ k. z k * entry E k A.width) (λ k a. ap (λ t. z k * t) (form_solved k a)))
          ∙ sym (at_combine p c.0 E A.width (omega arith)) ∙ ap (λ u. slice_index u A.width) (sym c.2) ∙ augmented_last p A b m i l),
    )

    -- no null vector of A ends at a lead
    no_end : (z : List ℕ) (k : ℕ) → k < E.height → IsNull p A z → EndsAt A.width z (slice_index leads k) → ⊥
    no_end z k l null end =
        let t : ℕ = slice_index leads k in
        let y : ℕ → ℕ = slice_index (of_form k l).0 in
        let one_term : sum_below A.width (λ j. entry E k j * slice_index z j) ≡ slice_index z t =
        sum_single A.width (λ j. entry E k j * slice_index z j) t (inner k l) (λ j o d. elim (cases_lt j t) [
          | inl less ↦ ap (λ s. s * slice_index z j) (has.1.past k j l (let w = form.width in omega arith) less) ∙ zero-mul (slice_index z j)
          | inr more ↦ ap (λ s. entry E k j * s) (end.last j (omega arith) o) ∙ mul-zero (entry E k j)
        ])
        ∙ ap (λ s. s * slice_index z t) (has.1.one k l) ∙ one-mul (slice_index z t) in
        let none : sum_below A.width (λ j. entry E k j * slice_index z j) % p ≡ 0 =
        sum_same p A.width (λ j. entry E k j * slice_index z j) (λ j. sum_below A.height (λ i. y i * entry A i j) * slice_index z j)
        (λ j o. mul_same p (entry E k j) (sum_below A.height (λ i. y i * entry A i j)) (slice_index z j) (slice_index z j)
        (ap (λ s. s % p) (form_left k l j o) ∙ mod-mod _ p) refl)
        ∙ ap (λ s. s % p) (sym (sum_pair A.height A.width y (entry A) (slice_index z)))
        ∙ sum_zero_same p A.height (λ i. y i * sum_below A.width (λ j. entry A i j * slice_index z j)) (λ i c. product_zero_right p (y i) _ (null_row p A z null i c)) in
        end.nonzero (sym (mod-eq_of_lt (null.0.residues t (inner k l))) ∙ ap (λ s. s % p) (sym one_term) ∙ none)

pub last_lead : LastLeadRefutes
last_lead p A b E leads k two m v form has l last x s =
    refuted p A b x (of_form p A b E leads two m v form has k l).0 two (lead_annuls p A b E leads two m v form has k l last) s

pub solution_read : RrefSolves
solution_read p A b E leads x two m v form has inner vx read cover = record {
  solves = rows_solved p A b E leads two m v form has inner x vx read cover;
  reduced = λ z j null end. elim (cover j end.inside) [
    | inl zero_there ↦ zero_there
    | inr w ↦ absurd (no_end p A b E leads two m v form has inner x vx read cover z w.0 w.1 null (ends_along A.width z j (slice_index leads w.0) (sym w.2) end))
  ];
}
  where
    ends_along : (n : ℕ) (z : List ℕ) (j t : ℕ) → j ≡ t → EndsAt n z j → EndsAt n z t
    ends_along n z j t e end = subst (EndsAt n z) e end
