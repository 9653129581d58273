-- A matrix and its transpose have the same rank.
use Rattle.std.proofs.Common.{ℕ, ◌≡◌, ◌*◌, ◌%◌, ◌<◌, ◌≤◌, slice_index, refl, sym, ap, subst, ◌∙◌, arith, mul_comm}
use native.Mathlib.Nat.{mod-mod}
use Rattle.residue_words.specs.Matrix.{Matrix, IsCombination, IsMatrix, entry, row}
use Rattle.residue_words.specs.Residues.{IsPrime, sum_below}
use Rattle.residue_words.proofs.Sums.{sum_equal}
use Rattle.residue_words.proofs.Vectors.{at_combine, combination_of, combination_through, entry_matrix_of, entry_residue, is_matrix_of, matrix_equal, row_combination}
use Rattle.row_space.specs.Echelon.{HasRank, IsIndependent, IsRref}
use Rattle.row_space.proofs.Counting.{independent_height}
use Rattle.row_space.proofs.Exists.{rref_of_each}
use Rattle.row_space.proofs.Spans.{place_coefficient, places_independent}
use Rattle.sparse_rows.specs.Rows.{matrix_by, transposed}
use Rattle.weight_order.specs.Laws.{TransposingKeepsRank}

-- the transpose is a matrix of residues
pub transposed_matrix : (p : ℕ) (A : Matrix) → IsMatrix p A → IsMatrix p (transposed A)
transposed_matrix p A m = is_matrix_of p A.width A.height (λ i j. entry A j i) (λ i j l b. entry_residue p A m j i b l)

-- transposed twice it is itself
pub transposed_twice : (p : ℕ) (A : Matrix) → IsMatrix p A → transposed (transposed A) ≡ A
transposed_twice p A m =
    matrix_equal p (transposed (transposed A)) A (transposed_matrix p (transposed A) (transposed_matrix p A m)) m refl refl (λ i j l b.
    entry_matrix_of A.height A.width (λ i j. entry (transposed A) j i) i j l b ∙ entry_matrix_of A.width A.height (λ i j. entry A j i) j i b l)

module _ (p : ℕ) (A E : Matrix) (two : 2 ≤ p) (m : IsMatrix p A) (form : IsRref p A E) where
  abbrev lead : ℕ → ℕ
  lead k = slice_index form.form.0 k

  -- the columns at the leads of the form, as rows
  abbrev lead_columns : Matrix
  lead_columns = matrix_by E.height A.height (λ k i. entry A i (lead k))

  -- an entry is a sum of entries of the form, with the entries of its row at the leads
  entry_by_form : (i j : ℕ) → i < A.height → j < A.width → entry A i j ≡ sum_below E.height (λ k. entry A i (lead k) * entry E k j) % p
  entry_by_form i j l b =
      let c : IsCombination p E (row A i) = (form.span (row A i)).0 (row_combination p A i two m l) in
      let inside : j < E.width = omega (arith, form.width) in
      ap (λ v. slice_index v j) c.2 ∙ at_combine p c.0 E j inside
      ∙ ap (λ s. s % p) (sum_equal E.height (λ k. slice_index c.0 k * entry E k j) (λ k. entry A i (lead k) * entry E k j) (λ k lk.
      ap (λ x. x * entry E k j)
      (sym (place_coefficient p (λ j lead. j < lead) E lead form.form.1.1 c.0 c.1 k lk) ∙ ap (λ v. slice_index v (lead k)) (sym c.2))))

  -- so each column is a combination of these columns
  column_combination : (j : ℕ) → j < A.width → IsCombination p lead_columns (row (transposed A) j)
  column_combination j b =
      combination_of p lead_columns (row (transposed A) j) (λ k. entry E k j) (omega arith) ((transposed_matrix p A m).each j b) (λ i l.
      ap (λ x. x % p) (entry_matrix_of A.width A.height (λ i j. entry A j i) j i b l ∙ entry_by_form i j l b) ∙ mod-mod _ p
      ∙ ap (λ s. s % p) (sum_equal E.height (λ k. entry A i (lead k) * entry E k j) (λ k. entry E k j * entry lead_columns k i) (λ k lk.
      mul_comm (entry A i (lead k)) (entry E k j)
      ∙ ap (λ x. entry E k j * x) (sym (entry_matrix_of E.height A.height (λ k i. entry A i (lead k)) k i lk l)))))

  -- and the rank of the transpose is at most the rank
  pub transposed_rank_low : (F : Matrix) → IsRref p (transposed A) F → F.height ≤ E.height
  transposed_rank_low F turned =
      let free : IsIndependent p F = places_independent p (λ j lead. j < lead) F (slice_index turned.form.0) (omega arith) turned.form.1.1 in
      independent_height p F lead_columns two free (λ v c.
      combination_through p (transposed A) lead_columns v (omega arith) refl column_combination ((turned.span v).1 c))

-- so is the rank at most that of the transpose, and both are equal
transposed_rank : (p : ℕ) (A : Matrix) (r : ℕ) → IsPrime p → IsMatrix p A → HasRank p A r → HasRank p (transposed A) r
transposed_rank p A r prime m rank =
    let two : 2 ≤ p = prime.two_or_more in
    let E : Matrix = rank.0 in
    let T : Matrix = transposed A in
    let mt : IsMatrix p T = transposed_matrix p A m in
    let turned = rref_of_each p T prime mt in
    let F : Matrix = turned.0 in
    let low : F.height ≤ E.height = transposed_rank_low p A E two m rank.1 F turned.1 in
    let high : E.height ≤ F.height = transposed_rank_low p T F two mt turned.1 E (subst (λ M. IsRref p M E) (sym (transposed_twice p A m)) rank.1) in
    (F, turned.1, omega (arith, rank.2))

pub transposing : TransposingKeepsRank
transposing p A r prime m = (
  transposed_rank p A r prime m,
  (λ rank. subst (λ M. HasRank p M r) (transposed_twice p A m) (transposed_rank p (transposed A) r prime (transposed_matrix p A m) rank)),
)
