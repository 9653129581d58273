-- Factors of what a round leaves, joined to factors of the matrix.
use Rattle.std.proofs.Common.{ℕ, ◌≡◌, ◌≢◌, ◌+◌, ◌*◌, ◌%◌, ◌<◌, List, ◌++◌, length, slice_index, sym, refl, ap, ap₂, subst, ◌∙◌, arith, mod-eq_of_lt, length-append}
use native.Mathlib.Nat.{mod-mod}
use Rattle.residue_words.specs.declared.plain.Pair.{Pair}
use Rattle.residue_words.specs.Residues.{IsPrime, sum_below}
use Rattle.residue_words.specs.Matrix.{Matrix, IsMatrix, combine, entry, row}
use Rattle.residue_words.proofs.Residues.{add_same}
use Rattle.residue_words.proofs.Sums.{sum_equal, sum_split}
use Rattle.residue_words.proofs.Vectors.{at_combine, entry_residue, length_list_of, list_equal}
use Rattle.row_space.specs.Factors.{AreFactors, FitAsFactors, row_at, col_at}
use Rattle.row_space.proofs.Triangular.{upper_zero}
use Rattle.sparse_rows.specs.Rows.{above, beside}
use Rattle.pivot_table.specs.Order.{Triangular}
use Rattle.triangular_solve.specs.Triangle.{TriangleState}
use Rattle.schur_rows.specs.Round.{IsRound, pivot_rows}
use Rattle.schur_rows.specs.declared.round.SchurRows.{SchurRows}
use Rattle.schur_rows.specs.Laws.{RoundJoins}
use Rattle.schur_rows.proofs.Distinct.{triangular_columns, triangular_rows}
use Rattle.schur_rows.proofs.Above.{above_first, above_matrix, above_second, beside_first, beside_matrix, beside_second, col_first, col_second, each_of, pairs_of, pivot_height, pivot_row, pivots_matrix, row_first, row_second}

module _ {t : TriangleState} {s : SchurRows} {ps : List Pair} {L U : Matrix} (prime : IsPrime t.rows.modulus) (m : IsMatrix t.rows.modulus t.rows.matrix) (tri : Triangular t.rows.matrix t.pairs) (round : IsRound t s)
    (f : AreFactors t.rows.modulus s.rows.matrix ps L U) where
  abbrev p : ℕ
  p = t.rows.modulus

  abbrev A : Matrix
  A = t.rows.matrix

  abbrev qs : List Pair
  qs = t.pairs

  abbrev B : Matrix
  B = s.rows.matrix

  abbrev C : Matrix
  C = s.coefficients.matrix

  abbrev n : ℕ
  n = length qs

  abbrev r : ℕ
  r = length ps

  abbrev left : Matrix
  left = beside C L

  abbrev right : Matrix
  right = above (pivot_rows A qs) U

  -- the row of B at i and column j, as a sum
  product_at : (i j : ℕ) → i < A.height → j < A.width → entry B i j ≡ sum_below r (λ s. entry L i s * entry U s j) % p
  product_at i j li lj =
      ap (λ u. slice_index u j) (f.product i (let e = round.fits.rest.height in omega arith))
      ∙ at_combine p (row L i) U j (let e = f.fit.right_width in let g = round.fits.rest.width in omega arith)
      ∙ ap (λ k. sum_below k (λ s. entry L i s * entry U s j) % p) f.fit.right_height

  left_residue : (i s : ℕ) → i < A.height → s < r → entry L i s < p
  left_residue i s li ls =
      entry_residue p L f.fit.left i s (let e = f.fit.left_height in let g = round.fits.rest.height in omega arith) (let e = f.fit.left_width in omega arith)

  right_residue : (s j : ℕ) → s < r → j < A.width → entry U s j < p
  right_residue s j ls lj =
      entry_residue p U f.fit.right s j (let e = f.fit.right_height in omega arith) (let e = f.fit.right_width in let g = round.fits.rest.width in omega arith)

  row_inside : (t : ℕ) → t < r → row_at ps t < A.height
  row_inside t l = let e = round.fits.rest.height in omega (arith, f.fit.rows_below t l)

  column_inside : (t : ℕ) → t < r → col_at ps t < A.width
  column_inside t l = let e = round.fits.rest.width in omega (arith, f.fit.columns_below t l)

  -- L is 0 at the round's rows, and U at its columns
  left_zero : (k s : ℕ) → k < n → s < r → entry L (row_at qs k) s ≡ 0
  left_zero k s lk ls =
      let i : ℕ = row_at qs k in
      let li : i < A.height = (tri.nonzero k lk).0 in
      sym (mod-eq_of_lt (left_residue i s li ls))
      ∙ upper_zero p r (entry L i) (λ s t. entry U s (col_at ps t)) prime
      (λ t l z. f.right_pivot t l (sym (mod-eq_of_lt (right_residue t (col_at ps t) l (column_inside t l))) ∙ z))
      (λ t l. sym (product_at i (col_at ps t) li (column_inside t l)) ∙ round.complement.pivotal k (col_at ps t) lk (column_inside t l))
      (λ k t a b. f.right_after k t a b) s ls

  right_zero : (s k : ℕ) → s < r → k < n → entry U s (col_at qs k) ≡ 0
  right_zero s k ls lk =
      let j : ℕ = col_at qs k in
      let lj : j < A.width = (tri.nonzero k lk).1 in
      sym (mod-eq_of_lt (right_residue s j ls lj))
      ∙ upper_zero p r (λ s. entry U s j) (λ s t. entry L (row_at ps t) s) prime
      (λ t l z. f.left_pivot t l (sym (mod-eq_of_lt (left_residue (row_at ps t) t (row_inside t l) l)) ∙ z))
      (λ t l.
      ap (λ x. x % p) (sum_equal r (λ s. entry U s j * entry L (row_at ps t) s) (λ s. entry L (row_at ps t) s * entry U s j) (λ s b. let e : entry U s j * entry L (row_at ps t) s ≡ entry L (row_at ps t) s * entry U s j = omega arith in e))
      ∙ sym (product_at (row_at ps t) j (row_inside t l) lj) ∙ (round.each (row_at ps t) (row_inside t l)).zero k lk)
      (λ k t a b. f.left_after k t a b) s ls

  other_rows : (k t : ℕ) → k < n → t < r → row_at qs k ≢ row_at ps t
  other_rows k t lk lt same = f.left_pivot t lt (ap (λ i. entry L i t) (sym same) ∙ left_zero k t lk lt)

  other_columns : (k t : ℕ) → k < n → t < r → col_at qs k ≢ col_at ps t
  other_columns k t lk lt same = f.right_pivot t lt (ap (entry U t) (sym same) ∙ right_zero t k lt lk)

  -- the entries of the joined factors
  pivots : IsMatrix p (pivot_rows A qs)
  pivots = pivots_matrix qs m (λ k l. (tri.nonzero k l).0)

  left_first : (i k : ℕ) → i < A.height → k < n → entry left i k ≡ entry C i k
  left_first i k li lk =
      beside_first L round.fits.matrix i k (let e = round.fits.height in omega arith) (let e = round.fits.width in omega arith)

  left_second : (i t : ℕ) → i < A.height → entry left i (n + t) ≡ entry L i t
  left_second i t li =
      ap (λ w. entry left i (w + t)) (sym round.fits.width) ∙ beside_second L round.fits.matrix i t (let e = round.fits.height in omega arith)

  right_first : (k j : ℕ) → k < n → entry right k j ≡ entry A (row_at qs k) j
  right_first k j l = ap (λ u. slice_index u j) (above_first U pivots k (omega (arith, pivot_height A qs)) ∙ pivot_row A qs k l)

  right_second : (t j : ℕ) → entry right (n + t) j ≡ entry U t j
  right_second t j = ap (λ h. entry right (h + t) j) (sym (pivot_height A qs)) ∙ ap (λ u. slice_index u j) (above_second U pivots t)

  right_wide : U.width ≡ A.width
  right_wide = f.fit.right_width ∙ round.fits.rest.width

  long : length (qs ++ ps) ≡ n + r
  long = length-append qs ps

  below : (k : ℕ) → k < length (qs ++ ps) → k < n + r
  below k l = omega (arith, long)

  high : (pivot_rows A qs).height + U.height ≡ n + r
  high = let e = f.fit.right_height in omega (arith, pivot_height A qs)

  product : (i : ℕ) → i < A.height → row A i ≡ combine p (row left i) right
  product i li = list_equal A.width (row A i) (combine p (row left i) right) (m.each i li).len (length_list_of A.width _) (λ j lj.
      let one : ℕ = sum_below n (λ k. entry C i k * entry A (row_at qs k) j) in
      let two : ℕ = sum_below r (λ s. entry L i s * entry U s j) in
      let all : ℕ → ℕ = λ k. entry left i k * entry right k j in
      let whole : sum_below (n + r) all ≡ one + two =
      sum_split n r all
      ∙ ap₂ (λ a b. a + b)
      (sum_equal n all (λ k. entry C i k * entry A (row_at qs k) j) (λ k l. ap₂ (λ a b. a * b) (left_first i k li l) (right_first k j l)))
      (sum_equal r (λ t. all (n + t)) (λ s. entry L i s * entry U s j) (λ t l. ap₂ (λ a b. a * b) (left_second i t li) (right_second t j))) in
      let turn : two + one ≡ one + two = omega arith in
      (round.each i li).sum j lj ∙ ap (λ x. (x + one) % p) (product_at i j li lj)
      ∙ add_same p (two % p) two one one (mod-mod two p) refl ∙ ap (λ x. x % p) (turn ∙ sym whole)
      ∙ ap (λ h. sum_below h all % p) (sym high) ∙ sym (at_combine p (row left i) right j lj))

  fit : FitAsFactors p A (qs ++ ps) left right
  fit = record {
    left = beside_matrix round.fits.matrix f.fit.left (f.fit.left_height ∙ round.fits.rest.height ∙ sym round.fits.height);
    right = above_matrix pivots f.fit.right right_wide;
    left_height = round.fits.height;
    left_width = let e = round.fits.width in let g = f.fit.left_width in omega (arith, long);
    right_height = high ∙ sym long;
    right_width = refl;
    rows_below = λ k l. each_of n r (λ k. row_at (qs ++ ps) k < A.height)
        (λ k a. subst (λ x. x < A.height) (sym (row_first qs ps k a)) (tri.nonzero k a).0)
        (λ t a. subst (λ x. x < A.height) (sym (row_second qs ps t)) (row_inside t a)) k (below k l);
    columns_below = λ k l. each_of n r (λ k. col_at (qs ++ ps) k < A.width)
        (λ k a. subst (λ x. x < A.width) (sym (col_first qs ps k a)) (tri.nonzero k a).1)
        (λ t a. subst (λ x. x < A.width) (sym (col_second qs ps t)) (column_inside t a)) k (below k l);
    rows_distinct = λ k t a l. pairs_of n r (λ k t. row_at (qs ++ ps) k ≢ row_at (qs ++ ps) t)
        (λ k t a b same. triangular_rows tri k t a b (sym (row_first qs ps k (omega arith)) ∙ same ∙ row_first qs ps t b))
        (λ k t a b same. other_rows k t a b (sym (row_first qs ps k a) ∙ same ∙ row_second qs ps t))
        (λ k t a b same. f.fit.rows_distinct k t a b (sym (row_second qs ps k) ∙ same ∙ row_second qs ps t)) k t a (below t l);
    columns_distinct = λ k t a l. pairs_of n r (λ k t. col_at (qs ++ ps) k ≢ col_at (qs ++ ps) t)
        (λ k t a b same. triangular_columns tri k t a b (sym (col_first qs ps k (omega arith)) ∙ same ∙ col_first qs ps t b))
        (λ k t a b same. other_columns k t a b (sym (col_first qs ps k a) ∙ same ∙ col_second qs ps t))
        (λ k t a b same. f.fit.columns_distinct k t a b (sym (col_second qs ps k) ∙ same ∙ col_second qs ps t)) k t a (below t l);
  }

  pub joined : AreFactors p A (qs ++ ps) left right
  joined = record {
    fit = fit;
    product = product;
    left_pivot = λ k l. each_of n r (λ k. entry left (row_at (qs ++ ps) k) k ≢ 0)
        (λ k a z. let e : entry left (row_at (qs ++ ps) k) k ≡ 1 = ap (λ i. entry left i k) (row_first qs ps k a) ∙ left_first (row_at qs k) k (tri.nonzero k a).0 a ∙ round.one k a in omega arith)
        (λ t a z. f.left_pivot t a (sym (ap (λ i. entry left i (n + t)) (row_second qs ps t) ∙ left_second (row_at ps t) t (row_inside t a)) ∙ z)) k (below k l);
    right_pivot = λ k l. each_of n r (λ k. entry right k (col_at (qs ++ ps) k) ≢ 0)
        (λ k a z. (tri.nonzero k a).2 (sym (ap (entry right k) (col_first qs ps k a) ∙ right_first k (col_at qs k) a) ∙ z))
        (λ t a z. f.right_pivot t a (sym (ap (entry right (n + t)) (col_second qs ps t) ∙ right_second t (col_at ps t)) ∙ z)) k (below k l);
    left_after = λ k t a l. pairs_of n r (λ k t. entry left (row_at (qs ++ ps) k) t ≡ 0)
        (λ k t a b. let low : k < n = omega arith in
        ap (λ i. entry left i t) (row_first qs ps k low) ∙ left_first (row_at qs k) t (tri.nonzero k low).0 b ∙ round.alone k t low b (λ e. omega arith))
        (λ k t a b. ap (λ i. entry left i (n + t)) (row_first qs ps k a) ∙ left_second (row_at qs k) t (tri.nonzero k a).0 ∙ left_zero k t a b)
        (λ k t a b. let low : k < r = omega arith in
        ap (λ i. entry left i (n + t)) (row_second qs ps k) ∙ left_second (row_at ps k) t (row_inside k low) ∙ f.left_after k t a b) k t a (below t l);
    right_after = λ k t a l. pairs_of n r (λ k t. entry right t (col_at (qs ++ ps) k) ≡ 0)
        (λ k t a b. ap (entry right t) (col_first qs ps k (omega arith)) ∙ right_first t (col_at qs k) b ∙ tri.after k t a b)
        (λ k t a b. ap (entry right (n + t)) (col_first qs ps k a) ∙ right_second t (col_at qs k) ∙ right_zero t k b a)
        (λ k t a b. ap (entry right (n + t)) (col_second qs ps k) ∙ right_second t (col_at ps k) ∙ f.right_after k t a b) k t a (below t l);
  }

pub round_joined : RoundJoins
round_joined t s ps L U prime m tri round f = joined prime m tri round f
