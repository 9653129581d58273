-- Rows picked in any order, each filled one among them, have the row space of the matrix.
use Rattle.std.proofs.Common.{ℕ, ◌≡◌, ◌*◌, ◌%◌, ◌<◌, ◌≤◌, All, ⊎_elim, List, [], length, slice_index, refl, sym, ap, subst, ◌∙◌, arith, zero-mul}
use Rattle.std.proofs.lemmas.List.{get_or-map, length-map}
use Rattle.residue_words.specs.Matrix.{Matrix, IsCombination, IsMatrix, IsVector, entry, row, zeros}
use Rattle.residue_words.proofs.Lists.{place_in}
use Rattle.residue_words.proofs.Sums.{sum_zero}
use Rattle.residue_words.proofs.Vectors.{at_zeros, combination_of, row_combination, zeros_vector}
use Rattle.row_space.specs.Echelon.{HasRank, SameSpan}
use Rattle.row_space.proofs.Spans.{same_span_chained, same_span_of_rows, same_span_turned}
use Rattle.sparse_rows.specs.Rows.{selected}
use Rattle.sparse_rows.proofs.FilledRows.{filled_or_zero, zero_row}
use Rattle.weight_order.specs.Laws.{HasEachFilled, SelectingKeepsRank, SelectingKeepsSpan}

-- zeros are a combination of any rows
pub zeros_combination : (p : ℕ) (B : Matrix) → 0 < p → IsCombination p B (zeros B.width)
zeros_combination p B pos = combination_of p B (zeros B.width) (λ k. 0) pos (zeros_vector p B.width pos) (λ j l.
    ap (λ x. x % p) (at_zeros B.width j l ∙ sym (sum_zero B.height (λ k. 0 * entry B k j) (λ k b. zero-mul (entry B k j)))))

-- the rows that are picked
pub row_selected : (A : Matrix) (rows : List ℕ) (k : ℕ) → k < length rows → row (selected A rows) k ≡ row A (slice_index rows k)
row_selected A rows k l = get_or-map (row A) rows k 0 [] l

-- they are a matrix of residues
pub selected_inside : (p : ℕ) (A : Matrix) (rows : List ℕ) → IsMatrix p A → All (λ i. i < A.height) rows → IsMatrix p (selected A rows)
selected_inside p A rows m inside = record {
  len = length-map rows (row A);
  each = λ k l. subst (IsVector p A.width) (sym (row_selected A rows k l)) (m.each (slice_index rows k) (inside k 0 l));
}

-- each of them is in the row space of A
pub selected_combination : (p : ℕ) (A : Matrix) (rows : List ℕ) → 2 ≤ p → IsMatrix p A → All (λ i. i < A.height) rows → (k : ℕ) → k < length rows →
    IsCombination p A (row (selected A rows) k)
selected_combination p A rows two m inside k l =
    subst (IsCombination p A) (sym (row_selected A rows k l)) (row_combination p A (slice_index rows k) two m (inside k 0 l))

module _ (p : ℕ) (A : Matrix) (rows : List ℕ) (m : IsMatrix p A) (h : HasEachFilled A rows) where
  pub selected_matrix : IsMatrix p (selected A rows)
  selected_matrix = selected_inside p A rows m h.inside

  -- a row that isn't picked has no entry
  row_kept : 2 ≤ p → (i : ℕ) → i < A.height → IsCombination p (selected A rows) (row A i)
  row_kept two i l = ⊎_elim
      (λ f. let at = place_in rows i (h.all i l f) in
      subst (IsCombination p (selected A rows)) (row_selected A rows at.0 at.1 ∙ ap (row A) at.2) (row_combination p (selected A rows) at.0 two selected_matrix at.1))
      (λ z. subst (IsCombination p (selected A rows)) (sym (zero_row m i l z)) (zeros_combination p (selected A rows) (omega arith)))
      (filled_or_zero A i)

  pub selected_span : 2 ≤ p → SameSpan p A (selected A rows)
  selected_span two = same_span_of_rows p A (selected A rows) (omega arith) refl (row_kept two) (selected_combination p A rows two m h.inside)

pub selecting_span : SelectingKeepsSpan
selecting_span p A rows two m h = selected_span p A rows m h two

-- a form of one is the form of the other
pub rank_moved : (p : ℕ) (A B : Matrix) (r : ℕ) → A.width ≡ B.width → SameSpan p A B → HasRank p A r → HasRank p B r
rank_moved p A B r width same rank = (
  rank.0,
  record {
    matrix = rank.1.matrix;
    width = rank.1.width ∙ width;
    form = rank.1.form;
    span = same_span_chained p B A rank.0 (same_span_turned p A B same) rank.1.span;
  },
  rank.2,
)

pub selecting_rank : SelectingKeepsRank
selecting_rank p A rows r two m h =
    let same : SameSpan p A (selected A rows) = selected_span p A rows m h two in (
      rank_moved p A (selected A rows) r refl same,
      rank_moved p (selected A rows) A r refl (same_span_turned p A (selected A rows) same),
    )
