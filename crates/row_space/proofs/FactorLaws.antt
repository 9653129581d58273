-- Rows of the row space, as many as the rank, are its echelon form; and factors give the rank and what their certificate claims.
use Rattle.std.proofs.Common.{ℕ, ◌≡◌, ◌*◌, ◌%◌, ◌<◌, ◌≤◌, List, [], length, map, slice_index, sym, refl, ap, subst, ◌∙◌, arith, mod-lt, mod-eq_of_lt}
use native.Mathlib.Nat.{mod-mod}
use Rattle.std.specs.List.{range_with_len}
use Rattle.std.proofs.lemmas.List.FromFn.{get_or-map-range_with_len}
use Rattle.residue_words.specs.declared.plain.Pair.{Pair}
use Rattle.residue_words.specs.Residues.{IsPrime, sum_below}
use Rattle.residue_words.specs.Matrix.{Matrix, IsMatrix, IsVector, IsCombination, combine, entry, list_of, row, zeros}
use Rattle.residue_words.proofs.Sums.{sum_equal, sum_reduce, sum_through}
use Rattle.residue_words.proofs.Vectors.{at_combine, at_list_of, at_zeros, combination_through, entry_residue, list_of_equal, row_combination, vector_equal, vector_of, zeros_vector}
use Rattle.row_space.specs.Echelon.{HasRank, IsIndependent, IsRref, SameSpan}
use Rattle.row_space.specs.Factors.{AreFactors, Claim, IsTrueClaim, Shows, ShowsRref, col_at, row_at, Rank, Rref, Kernel}
use Rattle.row_space.specs.Laws.{CertificateIsTrue, FactorsGiveKernel, FactorsGiveRank, FactorsGiveRref, RankGivesRref}
use Rattle.row_space.proofs.Counting.{spanned_back, span_height}
use Rattle.row_space.proofs.Exists.{rref_of_each}
use Rattle.row_space.proofs.KernelLaws.{kernel_of_rank}
use Rattle.row_space.proofs.Spans.{places_independent, same_span_chained, same_span_of_rows, same_span_turned}
use Rattle.row_space.proofs.Triangular.{lower_zero, upper_zero}

pub rref_of_rank : RankGivesRref
rref_of_rank p A r E leads prime m rank me width height has rows =
    let two : 2 ≤ p = prime.two_or_more in
    let pos : 0 < p = omega arith in
    let F : Matrix = rank.0 in
    let form : IsRref p A F = rank.1 in
    let free : IsIndependent p E = places_independent p (λ j lead. j < lead) E (slice_index leads) pos has.1 in
    let within : (v : List ℕ) → IsCombination p E v → IsCombination p A v = λ v. combination_through p E A v pos width rows in
    let back : (v : List ℕ) → IsCombination p F v → IsCombination p E v =
    spanned_back p E F two free (λ v c. (form.span v).0 (within v c)) (omega (arith, rank.2, height)) in
    record { matrix = me; width = width; form = (leads, has); span = λ v. (λ c. back v ((form.span v).0 c), within v) }

module _ (p : ℕ) (A : Matrix) (pivots : List Pair) (L U : Matrix) (prime : IsPrime p) (m : IsMatrix p A) (f : AreFactors p A pivots L U) where
  -- the rows of U are independent, as its columns at the pivots are triangular
  right_independent : IsIndependent p U
  right_independent y vector zero_sum =
      let two : 2 ≤ p = prime.two_or_more in
      let below : (k : ℕ) → k < U.height → k < length pivots = λ k l. let e = f.fit.right_height in omega arith in
      let inside : (k : ℕ) → k < U.height → col_at pivots k < U.width = λ k l. let e = f.fit.right_width in omega (arith, f.fit.columns_below k (below k l)) in
      vector_equal p U.height y (zeros U.height) vector (zeros_vector p U.height (omega arith)) (λ k l.
      sym (mod-eq_of_lt (vector.residues k l))
      ∙ upper_zero p U.height (slice_index y) (λ t k. entry U t (col_at pivots k)) prime
      (λ k l z. f.right_pivot k (below k l) (sym (mod-eq_of_lt (entry_residue p U f.fit.right k (col_at pivots k) l (inside k l))) ∙ z))
      (λ k l. sym (at_combine p y U (col_at pivots k) (inside k l)) ∙ ap (λ u. slice_index u (col_at pivots k)) zero_sum ∙ at_zeros U.width (col_at pivots k) (inside k l))
      (λ k t less l. f.right_after k t less (below t l)) k l
      ∙ sym (at_zeros U.height k l))

  -- the rows of A at the pivots
  abbrev pivot_rows : Matrix
  pivot_rows = record { height = length pivots; width = A.width; rows = map (λ k. row A (row_at pivots k)) (range_with_len 0 (length pivots)) }

  pivot_row : (k : ℕ) → k < length pivots → row pivot_rows k ≡ row A (row_at pivots k)
  pivot_row k l = get_or-map-range_with_len (λ k. row A (row_at pivots k)) 0 (length pivots) k k [] l (omega arith)

  left_vector : (i : ℕ) → i < A.height → IsVector p U.height (row L i)
  left_vector i l = subst (λ n. IsVector p n (row L i)) (f.fit.left_width ∙ sym f.fit.right_height) (f.fit.left.each i (let e = f.fit.left_height in omega arith))

  -- each row of A is in the row space of U
  left_within : (i : ℕ) → i < A.height → IsCombination p U (row A i)
  left_within i l = (row L i, left_vector i l, f.product i l)

  pivots_within : (v : List ℕ) → IsCombination p pivot_rows v → IsCombination p U v
  pivots_within v = combination_through p pivot_rows U v (let two = prime.two_or_more in omega arith) (sym f.fit.right_width)
      (λ k l. subst (IsCombination p U) (sym (pivot_row k l)) (left_within (row_at pivots k) (f.fit.rows_below k l)))

  -- the rows of A at the pivots are independent, as the rows of L there are triangular
  pivots_independent : IsIndependent p pivot_rows
  pivots_independent y vector zero_sum =
      let two : 2 ≤ p = prime.two_or_more in
      let pos : 0 < p = omega arith in
      let left : ℕ → ℕ → ℕ = λ k t. entry L (row_at pivots k) t in
      let c : ℕ → ℕ = λ t. sum_below (length pivots) (λ k. slice_index y k * left k t) in
      let w : List ℕ = list_of U.height (λ t. c t % p) in
      let product_zero : combine p w U ≡ zeros U.width = list_of_equal U.width _ (λ j. 0) (λ j l.
      let inside : j < A.width = let e = f.fit.right_width in omega arith in
      ap (λ x. x % p) (sum_equal U.height (λ t. slice_index w t * entry U t j) (λ t. c t % p * entry U t j) (λ t o. ap (λ x. x * entry U t j) (at_list_of U.height (λ t. c t % p) t o)))
      ∙ sum_reduce p U.height c (λ t. entry U t j)
      ∙ sym (sum_through p (length pivots) U.height (slice_index y) (λ k. entry pivot_rows k j) left (λ t. entry U t j) (λ k o.
      ap (λ x. x % p) (
      ap (λ u. slice_index u j) (pivot_row k o ∙ f.product (row_at pivots k) (f.fit.rows_below k o)) ∙ at_combine p (row L (row_at pivots k)) U j l
      ) ∙ mod-mod _ p))
      ∙ sym (at_combine p y pivot_rows j inside) ∙ ap (λ u. slice_index u j) zero_sum ∙ at_zeros A.width j inside) in
      let none : w ≡ zeros U.height = right_independent w (vector_of p U.height (λ t. c t % p) (λ t l. mod-lt (c t) pos)) product_zero in
      vector_equal p (length pivots) y (zeros (length pivots)) vector (zeros_vector p (length pivots) pos) (λ k l.
      sym (mod-eq_of_lt (vector.residues k l))
      ∙ lower_zero p (length pivots) (slice_index y) left prime
      (λ k l z. f.left_pivot k l (sym (mod-eq_of_lt (entry_residue p L f.fit.left (row_at pivots k) k
      (let e = f.fit.left_height in omega (arith, f.fit.rows_below k l)) (let e = f.fit.left_width in omega arith))) ∙ z))
      (λ t l. let inside : t < U.height = let e = f.fit.right_height in omega arith in
      sym (at_list_of U.height (λ t. c t % p) t inside) ∙ ap (λ u. slice_index u t) none ∙ at_zeros U.height t inside)
      f.left_after k l
      ∙ sym (at_zeros (length pivots) k l))

  -- so the rows of U are in the row space of A
  right_within : (k : ℕ) → k < U.height → IsCombination p A (row U k)
  right_within k l =
      let two : 2 ≤ p = prime.two_or_more in
      combination_through p pivot_rows A (row U k) (omega arith) refl
      (λ k l. subst (IsCombination p A) (sym (pivot_row k l)) (row_combination p A (row_at pivots k) two m (f.fit.rows_below k l)))
      (spanned_back p pivot_rows U two pivots_independent pivots_within (let e = f.fit.right_height in omega arith) (row U k) (row_combination p U k two f.fit.right l))

  -- A and U have the same row space
  factor_span : SameSpan p A U
  factor_span = same_span_of_rows p A U (let two = prime.two_or_more in omega arith) (sym f.fit.right_width) left_within right_within

  factor_rank : HasRank p A (length pivots)
  factor_rank =
      let two : 2 ≤ p = prime.two_or_more in
      let E : Matrix = (rref_of_each p A prime m).0 in
      let form : IsRref p A E = (rref_of_each p A prime m).1 in
      let free : IsIndependent p E = places_independent p (λ j lead. j < lead) E (slice_index form.form.0) (omega arith) form.form.1.1 in (
        E,
        form,
        span_height p E U two form.matrix f.fit.right (form.width ∙ sym f.fit.right_width) free right_independent
            (same_span_chained p E A U (same_span_turned p A E form.span) factor_span)
            ∙ f.fit.right_height,
      )

  factor_rref : (E : Matrix) → ShowsRref p U E → IsRref p A E
  factor_rref E shows =
      let two : 2 ≤ p = prime.two_or_more in
      let pos : 0 < p = omega arith in
      let within : (v : List ℕ) → IsCombination p U v → IsCombination p E v = λ v. combination_through p U E v pos (sym shows.width) (λ k l. (
        list_of E.height (λ t. entry U k (slice_index shows.form.0 t)),
        vector_of p E.height (λ t. entry U k (slice_index shows.form.0 t))
            (λ t o. entry_residue p U f.fit.right k (slice_index shows.form.0 t) l (let w = shows.width in omega (arith, shows.form.1.1.inside t o))),
        shows.form.2 k l,
      )) in
      record {
        matrix = shows.matrix;
        width = shows.width ∙ f.fit.right_width;
        form = (shows.form.0, shows.form.1);
        span = same_span_chained p A U E factor_span (λ v. (within v, spanned_back p U E two right_independent within (let h = shows.height in omega arith) v));
      }

pub rank_of_factors : FactorsGiveRank
rank_of_factors p A pivots L U prime m f = factor_rank p A pivots L U prime m f

pub rref_of_factors : FactorsGiveRref
rref_of_factors p A pivots L U E prime m f shows = factor_rref p A pivots L U prime m f E shows

pub kernel_of_factors : FactorsGiveKernel
kernel_of_factors p A pivots L U K prime m f shows = kernel_of_rank p A (length pivots) K prime m (rank_of_factors p A pivots L U prime m f) shows

-- the claim of a valid certificate is true
claim_true : (p : ℕ) (A : Matrix) (pivots : List Pair) (L U : Matrix) (claim : Claim) → IsPrime p → IsMatrix p A → AreFactors p A pivots L U →
    Shows p A (length pivots) U claim → IsTrueClaim p A claim
claim_true p A pivots L U Rank prime m f shows = tt
claim_true p A pivots L U (Rref E) prime m f shows = rref_of_factors p A pivots L U E prime m f shows
claim_true p A pivots L U (Kernel K) prime m f shows = kernel_of_factors p A pivots L U K prime m f shows

pub certificate_true : CertificateIsTrue
certificate_true p A c prime m valid = (
  rank_of_factors p A c.pivots c.left c.right prime m valid.factors,
  claim_true p A c.pivots c.left c.right c.claim prime m valid.factors valid.shows,
)
