-- The reduced solution is read off an echelon form, and the refuting system is put together.
use Rattle.std.proofs.Common.{ℕ, ◌≡◌, ◌+◌, ◌-◌, ◌<◌, ◌≤◌, inl, inr, List, [], ◌∷◌, ◌++◌, length, map, slice_index, slice_set, sym, ap, ap₂, subst, ◌∙◌, arith}
use Rattle.std.specs.List.{range_with_len}
use Rattle.std.proofs.lemmas.Bool.{cases_eq}
use Rattle.std.proofs.lemmas.List.{get_or-set_other, get_or-set_same, get_or_append_left, get_or_push, length_push}
use Rattle.std.proofs.lemmas.List.FromFn.{length-map-range_with_len}
use Rattle.residue_words.specs.Matrix.{Matrix, IsMatrix, IsVector, entry, list_of, row, zeros}
use Rattle.residue_words.proofs.Vectors.{at_list_of, at_zeros, length_list_of, list_equal, list_of_more, row_matrix_of}
use Rattle.sparse_rows.specs.Rows.{beside, transposed}
use Rattle.sparse_rows.specs.Stored.{with_row}
use Rattle.sparse_rows.proofs.Loops.{sized}
use Rattle.sparse_rows.proofs.Spread.{map_range_equal}
use Rattle.row_space.specs.Echelon.{HasLeads, IsRref}
use Rattle.row_space.specs.Solution.{IsReducedSolution, IsSolution, augmented, refuting_rows, refuting_side}
use Rattle.row_space.proofs.ReadOff.{last_lead, solution_read}
use Rattle.row_space.proofs.Refuting.{refuting_column, refuting_end}
use Rattle.kernel_solve.specs.Column.{column, column_at, column_matrix}
use Rattle.kernel_solve.specs.ReadOff.{IsAtLeads}
use Rattle.kernel_solve.proofs.AtLeads.{lead_or_none}
use Rattle.kernel_solve.proofs.Matrices.{beside_column, beside_left, beside_right, column_vector}

-- where a column of residues has the last column's entries at the leads, and 0 elsewhere, it is the reduced solution
module _ (p : ℕ) (A B E : Matrix) (leads : List ℕ) (two : 2 ≤ p) (ma : IsMatrix p A) (mb : IsMatrix p B) (heights : A.height ≡ B.height) (narrow : B.width ≡ 1)
    (rref : IsRref p (beside A B) E) (has : HasLeads E leads) where
  side_vector : IsVector p A.height (column B)
  side_vector = subst (λ n. IsVector p n (column B)) (sym heights) (column_vector mb (omega arith))

  form_of_side : IsRref p (augmented A (column B)) E
  form_of_side = subst (λ m. IsRref p m E) (beside_column A mb heights narrow) rref

  pub column_solves : (X : Matrix) (last : ℕ) → IsMatrix p X → X.height ≡ last → X.width ≡ 1 → last ≡ A.width → IsAtLeads leads (column_at E last) (column X) →
      ((k : ℕ) → k < length leads → slice_index leads k < last) → IsReducedSolution p A (column B) (column X)
  column_solves X last m tall narrow_too same at below =
      let long : length (column X) ≡ X.height = length_list_of X.height (λ i. entry X i 0) in
      solution_read p A (column B) E leads (column X) two ma side_vector form_of_side has (λ k l. omega (arith, below k (omega (arith, has.0))))
      (subst (λ n. IsVector p n (column X)) (tall ∙ same) (column_vector m (omega arith)))
      (λ k l. at.at_lead k (omega (arith, has.0)) ∙ at_list_of E.height (λ i. entry E i last) k l ∙ ap (entry E k) same)
      (λ j l. elim (lead_or_none leads j) [
        | inl w ↦ inr (w.0, omega (arith, w.1, has.0), w.2)
        | inr none ↦ inl (at.elsewhere j (omega arith) none)
      ])

  -- a lead in the last column refutes
  pub lead_refutes : 0 < length leads → slice_index leads (length leads - 1) ≡ A.width → (x : List ℕ) → IsSolution p A (column B) x → ⊥
  lead_refutes some e = last_lead p A (column B) E leads (length leads - 1) two ma side_vector form_of_side has (omega (arith, has.0)) e

-- [A | B] with the row (0, .., 0, 1) below, transposed, is the refuting system
pub refuting_put : (p : ℕ) (A B S : Matrix) (last : List ℕ) → IsMatrix p A → B.width ≡ 1 → A.height ≡ B.height → S ≡ beside A B →
    last ≡ slice_set (zeros (A.width + 1)) A.width 1 → transposed (with_row S last) ≡ beside (refuting_rows A (column B)) (column_matrix (refuting_side A.width))
refuting_put p A B S last ma narrow heights made e =
    let w : ℕ = A.width in
    let h : ℕ = A.height in
    let b : List ℕ = column B in
    let side : List ℕ = refuting_side w in
    let T : Matrix = with_row (beside A B) last in
    let f : ℕ → List ℕ = λ j. list_of (h + 1) (λ i. entry T i j) in
    let g : ℕ → List ℕ = λ j. row (refuting_rows A b) j ++ row (column_matrix side) j in
    let tall : length (beside A B).rows ≡ h = length-map-range_with_len (λ i. row A i ++ row B i) 0 h in
    let zeros_long : length (zeros w) ≡ w = length_list_of w (λ j. 0) in
    let side_long : length side ≡ w + 1 = length_push (zeros w) 1 ∙ ap (λ n. n + 1) zeros_long in
    let below : (j : ℕ) → j < w + 1 → entry T h j ≡ slice_index side j = λ j l.
    ap (λ u. slice_index u j) (get_or_push (beside A B).rows last [] h tall ∙ e) ∙ elim (cases_eq j w) [
      | inl q ↦
          ap (slice_index (slice_set (zeros (w + 1)) w 1)) q ∙ get_or-set_same (zeros (w + 1)) w 1 0 (omega (arith, length_list_of (w + 1) (λ j. 0)))
          ∙ sym (ap (slice_index side) q ∙ get_or_push (zeros w) 1 0 w zeros_long)
      | inr d ↦
          get_or-set_other (zeros (w + 1)) w j 1 0 d ∙ at_zeros (w + 1) j l
          ∙ sym (get_or_append_left (zeros w) (1 ∷ []) 0 j (omega arith) ∙ at_zeros w j (omega arith))
    ] in
    let above : (i j : ℕ) → i < h → j < w + 1 → entry T i j ≡ slice_index (row (refuting_rows A b) j) i = λ i j l o.
    ap (λ u. slice_index u j) (get_or_append_left (beside A B).rows (last ∷ []) [] i (omega arith)) ∙ elim (cases_eq j w) [
      | inl q ↦
          ap (entry (beside A B) i) (let t : j ≡ w + 0 = omega arith in t) ∙ beside_right ma B i 0 l
          ∙ sym (ap (λ t. slice_index (row (refuting_rows A b) t) i) q ∙ ap (λ u. slice_index u i) (refuting_end A b) ∙ at_list_of h (slice_index b) i l ∙ at_list_of B.height (λ i. entry B i 0) i (omega arith))
      | inr d ↦
          let low : j < w = omega arith in
          beside_left ma B i j l low ∙ sym (ap (λ u. slice_index u i) (refuting_column A b j low) ∙ at_list_of h (λ i. entry A i j) i l)
    ] in
    let same : (j : ℕ) → 0 ≤ j → j < 0 + (w + 1) → f j ≡ g j = λ j a l.
    list_of_more h (λ i. entry T i j)
    ∙ ap₂ (λ u t. u ++ t ∷ [])
    (list_equal h (list_of h (λ i. entry T i j)) (row (refuting_rows A b) j) (length_list_of h (λ i. entry T i j)) (refuting_long A b j (omega arith))
    (λ i o. at_list_of h (λ i. entry T i j) i o ∙ above i j o (omega arith)))
    (below j (omega arith))
    ∙ ap (λ u. row (refuting_rows A b) j ++ u) (sym (row_matrix_of (length side) 1 (λ i k. slice_index side i) j (omega arith))) in
    let size : w + B.width ≡ w + 1 = omega arith in
    ap (λ M. transposed (with_row M last)) made ∙ ap (λ n. sized n (h + 1) (map f (range_with_len 0 n))) size ∙ ap (sized (w + 1) (h + 1)) (map_range_equal f g 0 (w + 1) same)
  where
    refuting_long : (A : Matrix) (b : List ℕ) (j : ℕ) → j < A.width + 1 → length (row (refuting_rows A b) j) ≡ A.height
    refuting_long A b j l = elim (cases_eq j A.width) [
      | inl q ↦ ap (λ t. length (row (refuting_rows A b) t)) q ∙ ap length (refuting_end A b) ∙ length_list_of A.height (slice_index b)
      | inr d ↦ ap length (refuting_column A b j (omega arith)) ∙ length_list_of A.height (λ i. entry A i j)
    ]
