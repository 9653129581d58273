-- The rows of the right factor: independent, with the row space of the matrix; and how many there are.
use Rattle.std.proofs.Common.{ℕ, ◌≢◌, ◌<◌, ◌≤◌, inl, inr, List, length, slice_index, sym, ap, subst, ◌∙◌, arith, mod-eq_of_lt}
use Rattle.std.proofs.lemmas.Bool.{cases_eq, cases_lt}
use Rattle.residue_words.specs.declared.plain.Pair.{Pair}
use Rattle.residue_words.specs.Residues.{IsPrime}
use Rattle.residue_words.specs.Matrix.{Matrix, IsCombination, IsMatrix, IsVector, entry, row, zeros}
use Rattle.residue_words.proofs.Vectors.{at_combine, at_zeros, combination_through, entry_residue, vector_equal, zeros_vector}
use Rattle.row_space.specs.Echelon.{HasRank, IsIndependent, IsRref, SameSpan}
use Rattle.row_space.specs.Factors.{AreFactors, FitAsFactors, row_at, col_at}
use Rattle.row_space.proofs.Counting.{pigeonhole, spanned_back}
use Rattle.row_space.proofs.FactorLaws.{rank_of_factors}
use Rattle.row_space.proofs.Spans.{places_independent}
use Rattle.row_space.proofs.Triangular.{upper_zero}

-- places below n that differ are no more than n
few_places : (m n : ℕ) (place : ℕ → ℕ) → ((k : ℕ) → k < m → place k < n) → ((k t : ℕ) → k < t → t < m → place k ≢ place t) → m ≤ n
few_places m n place inside apart = pigeonhole m n place inside (λ k t lk lt same.
    elim (cases_eq k t) [
      | inl e ↦ e
      | inr d ↦ elim (cases_lt k t) [ inl less ↦ absurd (apart k t less lt same) | inr more ↦ absurd (apart t k (omega arith) lk (sym same)) ]
    ])

-- no more pivots than rows, and than columns
pub fit_few : {p : ℕ} {A : Matrix} {ps : List Pair} {L U : Matrix} → FitAsFactors p A ps L U → length ps ≤ A.height
fit_few {p} {A} {ps} {L} {U} fit = few_places (length ps) A.height (row_at ps) fit.rows_below fit.rows_distinct

pub fit_narrow : {p : ℕ} {A : Matrix} {ps : List Pair} {L U : Matrix} → FitAsFactors p A ps L U → length ps ≤ A.width
fit_narrow {p} {A} {ps} {L} {U} fit = few_places (length ps) A.width (col_at ps) fit.columns_below fit.columns_distinct

module _ {p : ℕ} {A : Matrix} {ps : List Pair} {L U : Matrix} (prime : IsPrime p) (m : IsMatrix p A) (f : AreFactors p A ps L U) where
  pub factor_rows_independent : IsIndependent p U
  factor_rows_independent y vector none =
      let two : 2 ≤ p = prime.two_or_more in
      let below : (k : ℕ) → k < U.height → k < length ps = λ k l. let e = f.fit.right_height in omega arith in
      let inside : (k : ℕ) → k < U.height → col_at ps k < U.width = λ k l. let e = f.fit.right_width in omega (arith, f.fit.columns_below k (below k l)) in
      vector_equal p U.height y (zeros U.height) vector (zeros_vector p U.height (omega arith)) (λ k l.
      sym (mod-eq_of_lt (vector.residues k l))
      ∙ upper_zero p U.height (slice_index y) (λ t k. entry U t (col_at ps k)) prime
      (λ k l z. f.right_pivot k (below k l) (sym (mod-eq_of_lt (entry_residue p U f.fit.right k (col_at ps k) l (inside k l))) ∙ z))
      (λ k l. sym (at_combine p y U (col_at ps k) (inside k l)) ∙ ap (λ u. slice_index u (col_at ps k)) none ∙ at_zeros U.width (col_at ps k) (inside k l))
      (λ k t less l. f.right_after k t less (below t l)) k l
      ∙ sym (at_zeros U.height k l))

  pub factor_rows_span : SameSpan p A U
  factor_rows_span =
      let two : 2 ≤ p = prime.two_or_more in
      let pos : 0 < p = omega arith in
      let rank : HasRank p A (length ps) = rank_of_factors p A ps L U prime m f in
      let E : Matrix = rank.0 in
      let form : IsRref p A E = rank.1 in
      let free : IsIndependent p E = places_independent p (λ j lead. j < lead) E (slice_index form.form.0) pos form.form.1.1 in
      let within : (v : List ℕ) → IsCombination p A v → IsCombination p U v = λ v. combination_through p A U v pos (sym f.fit.right_width) (λ i l. (
        row L i,
        subst (λ n. IsVector p n (row L i)) (f.fit.left_width ∙ sym f.fit.right_height) (f.fit.left.each i (let e = f.fit.left_height in omega arith)),
        f.product i l,
      )) in
      let back : (v : List ℕ) → IsCombination p U v → IsCombination p E v =
      spanned_back p E U two free (λ v c. within v ((form.span v).1 c)) (let e = f.fit.right_height in omega (arith, rank.2)) in
      λ v. (within v, λ c. (form.span v).1 (back v c))
