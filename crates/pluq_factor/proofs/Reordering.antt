-- Columns in another order, and back: the row space goes with them.
use Rattle.std.proofs.Common.{ℕ, ◌≡◌, ◌*◌, ◌%◌, ◌<◌, ◌≤◌, ◌∙◌, List, [], length, slice_index, sym, refl, ap, subst, arith}
use Rattle.std.specs.List.{range_with_len}
use Rattle.std.specs.List.Sorted.{IsPermutation}
use Rattle.std.proofs.lemmas.List.FromFn.{get_or-range_with_len, length-range_with_len}
use Rattle.std.proofs.lemmas.List.Sorted.{Contains-permutation, length_permutation}
use Rattle.residue_words.specs.Residues.{IsPrime, sum_below}
use Rattle.residue_words.specs.Matrix.{IsCombination, IsMatrix, Matrix, combine, entry, row, zeros}
use Rattle.residue_words.proofs.Lists.{contains_at, place_in}
use Rattle.residue_words.proofs.Sums.{sum_equal}
use Rattle.residue_words.proofs.Vectors.{at_combine, at_zeros, combine_vector, entry_matrix_of, entry_residue, is_matrix_of, list_of_equal, matrix_equal, row_combination, row_matrix_of, vector_equal, zeros_vector}
use Rattle.row_space.specs.Echelon.{IsIndependent, SameSpan}
use Rattle.row_space.proofs.Spans.{same_span_of_rows}
use Rattle.sparse_rows.specs.Rows.{AreBelow, AreEnoughInSomeOrder, ResidueMatrix, narrowed}
use Rattle.sparse_rows.proofs.Permuting.{enough_permuted}
use Rattle.pluq_factor.specs.Basis.{IsBasis}
use Rattle.pluq_factor.specs.Reordered.{ArePlacesOf, IsReordered}

-- columns of a matrix
module _ (p : ℕ) (A : Matrix) (columns : List ℕ) (m : IsMatrix p A) (below : AreBelow A.width columns) where
  entry_narrowed : (i k : ℕ) → i < A.height → k < length columns → entry (narrowed A columns) i k ≡ entry A i (slice_index columns k)
  entry_narrowed i k l b = entry_matrix_of A.height (length columns) (λ i k. entry A i (slice_index columns k)) i k l b

  narrowed_matrix : IsMatrix p (narrowed A columns)
  narrowed_matrix = is_matrix_of p A.height (length columns) (λ i k. entry A i (slice_index columns k)) (λ i k l b. entry_residue p A m i (slice_index columns k) l (below k b))

  -- a combination of their rows
  at_narrowed : (y : List ℕ) (k : ℕ) → k < length columns → slice_index (combine p y (narrowed A columns)) k ≡ slice_index (combine p y A) (slice_index columns k)
  at_narrowed y k l =
      at_combine p y (narrowed A columns) k l
      ∙ ap (λ t. t % p) (sum_equal A.height (λ i. slice_index y i * entry (narrowed A columns) i k) (λ i. slice_index y i * entry A i (slice_index columns k))
      (λ i b. ap (λ t. slice_index y i * t) (entry_narrowed i k b l)))
      ∙ sym (at_combine p y A (slice_index columns k) (below k l))

  -- if each column is among them, independent rows stay so
  independent_narrowed : 0 < p → ((j : ℕ) → j < A.width → (k : ℕ) × (k < length columns) × (slice_index columns k ≡ j)) → IsIndependent p A → IsIndependent p (narrowed A columns)
  independent_narrowed pos each independent y vector zero = independent y vector
      (vector_equal p A.width (combine p y A) (zeros A.width) (combine_vector p y A pos) (zeros_vector p A.width pos) (λ j b.
      let w = each j b in
      ap (slice_index (combine p y A)) (sym w.2) ∙ sym (at_narrowed y w.0 w.1) ∙ ap (λ v. slice_index v w.0) zero ∙ at_zeros (length columns) w.0 w.1 ∙ sym (at_zeros A.width j b)))

-- the same columns of two matrices with one row space
rows_narrowed : (p : ℕ) (A E : Matrix) (columns : List ℕ) → 2 ≤ p → IsMatrix p A → IsMatrix p E → AreBelow A.width columns → AreBelow E.width columns → SameSpan p A E →
    (i : ℕ) → i < A.height → IsCombination p (narrowed E columns) (row (narrowed A columns) i)
rows_narrowed p A E columns two ma me low below span i l =
    let c : IsCombination p E (row A i) = (span (row A i)).0 (row_combination p A i two ma l) in (
      c.0,
      c.1,
      row_matrix_of A.height (length columns) (λ i k. entry A i (slice_index columns k)) i l
          ∙ list_of_equal (length columns) (λ k. entry A i (slice_index columns k)) (λ k. sum_below E.height (λ t. slice_index c.0 t * entry (narrowed E columns) t k) % p) (λ k b.
          ap (λ r. slice_index r (slice_index columns k)) c.2 ∙ sym (at_narrowed p E columns me below c.0 k b) ∙ at_combine p c.0 (narrowed E columns) k b),
    )

span_narrowed : (p : ℕ) (A E : Matrix) (columns : List ℕ) → 2 ≤ p → IsMatrix p A → IsMatrix p E → AreBelow A.width columns → AreBelow E.width columns → SameSpan p A E →
    SameSpan p (narrowed A columns) (narrowed E columns)
span_narrowed p A E columns two ma me low below span =
    same_span_of_rows p (narrowed A columns) (narrowed E columns) (omega arith) refl (rows_narrowed p A E columns two ma me low below span)
    (rows_narrowed p E A columns two me ma below low (λ v. ((span v).1, (span v).0)))

-- the numbers below n in some order
module _ {n : ℕ} {order : List ℕ} (permuted : IsPermutation (range_with_len 0 n) order) where
  range_at : (j : ℕ) → j < n → slice_index (range_with_len 0 n) j ≡ j
  range_at j b = omega (arith, get_or-range_with_len 0 n j 0 b)

  pub order_long : length order ≡ n
  order_long = omega (arith, length_permutation (range_with_len 0 n) order permuted, length-range_with_len 0 n)

  -- all columns of a matrix are enough
  pub order_enough : {A : Matrix} → A.width ≡ n → AreEnoughInSomeOrder A order
  order_enough {A} width = enough_permuted (range_with_len 0 n) order (record {
    rising = λ k t a b. omega (arith, range_at k (low k (omega arith)), range_at t (low t b));
    below = λ k l. omega (arith, range_at k (low k l), low k l, width);
    all = λ i j l b d. contains_at (range_with_len 0 n) j j (omega (arith, length-range_with_len 0 n, width)) (range_at j (omega (arith, width)));
  }) permuted
    where
      low : (k : ℕ) → k < length (range_with_len 0 n) → k < n
      low k l = omega (arith, length-range_with_len 0 n)

  order_below : AreBelow n order
  order_below = (order_enough {A = record { height = 0; width = n; rows = [] }} refl).below

  named : (j : ℕ) → j < n → (k : ℕ) × (k < length order) × (slice_index order k ≡ j)
  named j b = place_in order j (Contains-permutation (range_with_len 0 n) order j permuted (contains_at (range_with_len 0 n) j j (omega (arith, length-range_with_len 0 n)) (range_at j b)))

  -- and their places
  module _ {places : List ℕ} (h : ArePlacesOf order places) where
    placed : (j : ℕ) (b : j < n) → slice_index places j ≡ (named j b).0
    placed j b = let w = named j b in ap (slice_index places) (sym w.2) ∙ h.at w.0 w.1

    places_long : length places ≡ n
    places_long = h.long ∙ order_long

    places_below : AreBelow n places
    places_below j l = let b : j < n = omega (arith, places_long) in omega (arith, placed j b, (named j b).1, order_long)

    places_back : (j : ℕ) → j < n → slice_index order (slice_index places j) ≡ j
    places_back j b = ap (slice_index order) (placed j b) ∙ (named j b).2

    -- the places are the numbers in some order too
    place_named : (k : ℕ) → k < n → (j : ℕ) × (j < length places) × (slice_index places j ≡ k)
    place_named k b = let l : k < length order = omega (arith, order_long) in (slice_index order k, omega (arith, order_below k l, places_long), h.at k l)

    pub places_enough : {A : Matrix} → A.width ≡ n → AreEnoughInSomeOrder A places
    places_enough {A} width = record {
      distinct = λ k t a b e. omega (arith, places_back k (omega (arith, places_long)), places_back t (omega (arith, places_long)), ap (slice_index order) e);
      below = λ k l. omega (arith, places_below k l, width);
      all = λ i j l b d. let w = place_named j (omega (arith, width)) in contains_at places w.0 j w.1 w.2;
    }

    -- columns in this order go back to their places
    narrowed_back : (p : ℕ) (A : Matrix) → A.width ≡ n → IsMatrix p A → narrowed (narrowed A order) places ≡ A
    narrowed_back p A width m =
        let low : AreBelow A.width order = λ k l. omega (arith, order_below k l, width) in
        let inside : AreBelow (length order) places = λ k l. omega (arith, places_below k l, order_long) in
        let sound : IsMatrix p (narrowed A order) = narrowed_matrix p A order m low in
        matrix_equal p (narrowed (narrowed A order) places) A (narrowed_matrix p (narrowed A order) places sound inside) m refl (places_long ∙ sym width) (λ i j l b.
        let c : j < n = omega (arith, places_long) in
        entry_narrowed p (narrowed A order) places sound inside i j l b ∙ entry_narrowed p A order m low i (slice_index places j) l (inside j b) ∙ ap (entry A i) (places_back j c))

-- they are below their count
pub order_inside : (n : ℕ) {order : List ℕ} → IsPermutation (range_with_len 0 n) order → AreBelow (length order) order
order_inside n permuted k l = omega (arith, order_below permuted k l, order_long permuted)

-- a matrix in another order, and a basis of it that goes back
module _ {R S U : ResidueMatrix} {places : List ℕ} (h : IsReordered R S places) (sound : IsMatrix U.modulus U.matrix) (basis : IsBasis S.modulus S.matrix U) where
  abbrev pub n : ℕ
  n = R.matrix.width

  abbrev pub p : ℕ
  p = R.modulus

  modulus : U.modulus ≡ p
  modulus = basis.modulus ∙ h.modulus

  width_of_reordered : S.matrix.width ≡ n
  width_of_reordered = ap (λ (M : Matrix). M.width) h.matrix ∙ order_long h.permuted

  width : U.matrix.width ≡ n
  width = basis.width ∙ width_of_reordered

  pub back_enough : AreEnoughInSomeOrder U.matrix places
  back_enough = places_enough h.permuted h.placed width

  pub back_few : length places ≡ n
  back_few = places_long h.permuted h.placed

  prime_before : IsPrime p → IsPrime S.modulus
  prime_before = subst IsPrime (sym h.modulus)

  kept : IsMatrix p U.matrix
  kept = subst (λ q. IsMatrix q U.matrix) modulus sound

  below : AreBelow U.matrix.width places
  below k l = omega (arith, places_below h.permuted h.placed k l, width)

  reordered_sound : IsMatrix p S.matrix
  reordered_sound = subst (IsMatrix p) (sym h.matrix) (narrowed_matrix p R.matrix (h.order) h.sound (λ k l. omega (arith, order_below h.permuted k l)))

  back : narrowed S.matrix places ≡ R.matrix
  back = ap (λ M. narrowed M places) h.matrix ∙ narrowed_back h.permuted h.placed p R.matrix refl h.sound

  span_back : IsPrime p → SameSpan p R.matrix (narrowed U.matrix places)
  span_back prime = subst (λ M. SameSpan p M (narrowed U.matrix places)) back
      (span_narrowed p S.matrix U.matrix places prime.two_or_more reordered_sound kept (λ k l. omega (arith, places_below h.permuted h.placed k l, width_of_reordered)) below
      (subst (λ q. SameSpan q S.matrix U.matrix) h.modulus (basis.span (prime_before prime))))

  independent_back : IsPrime p → IsIndependent p (narrowed U.matrix places)
  independent_back prime = independent_narrowed p U.matrix places kept below (omega (arith, prime.two_or_more))
      (λ j b. place_named h.permuted h.placed j (omega (arith, width)))
      (subst (λ q. IsIndependent q U.matrix) h.modulus (basis.independent (prime_before prime)))

  pub basis_back : {W : ResidueMatrix} → W.modulus ≡ U.modulus → W.matrix ≡ narrowed U.matrix places → IsBasis R.modulus R.matrix W
  basis_back {W} same is = record {
    modulus = same ∙ modulus;
    width = ap (λ (M : Matrix). M.width) is ∙ back_few;
    independent = λ prime. subst (IsIndependent p) (sym is) (independent_back prime);
    span = λ prime. subst (SameSpan p R.matrix) (sym is) (span_back prime);
  }
