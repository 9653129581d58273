-- Factors by what is checked of them.
use Rattle.std.proofs.Common.{ℕ, ◌≡◌, ◌≢◌, ◌<◌, ◌↔◌, List, length, map, slice_index, sym, ap, ◌∙◌, arith}
use Rattle.std.proofs.lemmas.List.{length-map}
use Rattle.residue_words.specs.declared.plain.Pair.{Pair}
use Rattle.residue_words.specs.Matrix.{Matrix, IsMatrix, combine, entry, row}
use Rattle.residue_words.proofs.Vectors.{at_combine, entry_matrix_of, length_list_of, list_equal}
use Rattle.row_space.specs.Factors.{AreFactors}
use Rattle.sparse_rows.specs.Rows.{AreBelow, transposed}
use Rattle.cert_checker.specs.Diagonal.{AreLast}
use Rattle.cert_checker.specs.Factoring.{AreOfSizes}
use Rattle.cert_checker.specs.Product.{IsCombined, IsProduct}

-- a row is a combination by its entries
pub row_combined : (p : ℕ) (v y : List ℕ) (B : Matrix) → length v ≡ B.width → IsCombined p (slice_index v) (slice_index y) B ↔ (v ≡ combine p y B)
row_combined p v y B long = (
  λ h. list_equal B.width v _ long (length_list_of B.width _) (λ j l. h j l ∙ sym (at_combine p y B j l)),
  λ e j l. ap (λ w. slice_index w j) e ∙ at_combine p y B j l,
)

module _ (p : ℕ) (A : Matrix) (pivots : List Pair) (L U : Matrix) (a : IsMatrix p A) (l : IsMatrix p L) (u : IsMatrix p U) where
  abbrev pub rows : List ℕ
  rows = map (λ q. q.row) pivots

  abbrev pub cols : List ℕ
  cols = map (λ q. q.col) pivots

  rows_long : length rows ≡ length pivots
  rows_long = length-map pivots (λ (q : Pair). q.row)

  cols_long : length cols ≡ length pivots
  cols_long = length-map pivots (λ (q : Pair). q.col)

  pub factors_sizes : AreFactors p A pivots L U → AreOfSizes A (length pivots) L U
  factors_sizes f = record { left_height = f.fit.left_height; left_width = f.fit.left_width; right_height = f.fit.right_height; right_width = f.fit.right_width }

  pub factors_rows : AreFactors p A pivots L U → AreBelow A.height rows
  factors_rows f k b = f.fit.rows_below k (omega (arith, rows_long))

  pub factors_cols : AreFactors p A pivots L U → AreBelow A.width cols
  factors_cols f k b = f.fit.columns_below k (omega (arith, cols_long))

  pub factors_left : AreFactors p A pivots L U → AreLast L rows
  factors_left f k b = record {
    nonzero = (let d : entry L (slice_index rows k) k ≢ 0 = f.left_pivot k (omega (arith, rows_long)) in omega arith);
    after = λ t s e. f.left_after k t s (omega (arith, f.fit.left_width));
  }

  turned : (c t : ℕ) → c < U.width → t < U.height → entry (transposed U) c t ≡ entry U t c
  turned c t lc lt = entry_matrix_of U.width U.height (λ i j. entry U j i) c t lc lt

  pub factors_right : AreFactors p A pivots L U → AreLast (transposed U) cols
  factors_right f k b =
      let inside : slice_index cols k < U.width = omega (arith, factors_cols f k b, f.fit.right_width) in
      let many : k < length pivots = omega (arith, cols_long) in
      record {
        nonzero = (let d : entry U k (slice_index cols k) ≢ 0 = f.right_pivot k many in omega (arith, turned (slice_index cols k) k inside (omega (arith, f.fit.right_height))));
        after = λ t s e. turned (slice_index cols k) t inside e ∙ f.right_after k t s (omega (arith, f.fit.right_height));
      }

  pub factors_product : AreFactors p A pivots L U → IsProduct p A L U
  factors_product f i b = (row_combined p (row A i) (row L i) U (omega (arith, (a.each i b).len, f.fit.right_width))).1 (f.product i b)

  pub factors_made : AreOfSizes A (length pivots) L U → AreBelow A.height rows → AreBelow A.width cols → AreLast L rows → AreLast (transposed U) cols → IsProduct p A L U → AreFactors p A pivots L U
  factors_made z lr lc left right product = record {
    fit = record {
      left = l;
      right = u;
      left_height = z.left_height;
      left_width = z.left_width;
      right_height = z.right_height;
      right_width = z.right_width;
      rows_below = λ k b. lr k (omega (arith, rows_long));
      columns_below = λ k b. lc k (omega (arith, cols_long));
      rows_distinct = λ k t s b e. omega (arith, (left t (omega (arith, rows_long))).nonzero, ap (λ i. entry L i t) e, left_after k t s b);
      columns_distinct = λ k t s b e. omega (arith, right_at t t b b, (right t (omega (arith, cols_long))).nonzero, ap (λ c. entry U t c) e, right_after k t s b);
    };
    product = λ i b. (row_combined p (row A i) (row L i) U (omega (arith, (a.each i b).len, z.right_width))).0 (product i b);
    left_pivot = λ k b e. omega (arith, (left k (omega (arith, rows_long))).nonzero, e);
    right_pivot = λ k b e. omega (arith, (right k (omega (arith, cols_long))).nonzero, right_at k k b b, e);
    left_after = left_after;
    right_after = right_after;
  }
    where
      left_after : (k t : ℕ) → k < t → t < length pivots → entry L (slice_index rows k) t ≡ 0
      left_after k t s b = (left k (omega (arith, rows_long))).after t s (omega (arith, z.left_width))

      right_at : (k t : ℕ) → k < length pivots → t < length pivots → entry (transposed U) (slice_index cols k) t ≡ entry U t (slice_index cols k)
      right_at k t lk lt = turned (slice_index cols k) t (omega (arith, lc k (omega (arith, cols_long)), z.right_width)) (omega (arith, z.right_height))

      right_after : (k t : ℕ) → k < t → t < length pivots → entry U t (slice_index cols k) ≡ 0
      right_after k t s b = sym (right_at k t (omega arith) b) ∙ (right k (omega (arith, cols_long))).after t s (omega (arith, z.right_height))
