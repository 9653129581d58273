-- What an eliminated block and the gathered coefficients make: factors of the matrix.
use Rattle.std.proofs.Common.{ℕ, Result, Ok, Err, IfOk, ◌≡◌, ◌≢◌, ◌+◌, ◌*◌, ◌%◌, ◌<◌, ◌≤◌, inl, inr, List, length, slice_index, sym, refl, ap, ap₂, ◌∙◌, arith, add-zero, zero-mul, mul-zero, mod-eq_of_lt}
use Rattle.std.proofs.lemmas.Bool.{cases_eq, cases_lt}
use Rattle.residue_words.specs.declared.plain.Pair.{Pair}
use Rattle.residue_words.specs.Matrix.{Matrix, IsMatrix, combine, entry, row}
use Rattle.residue_words.specs.Residues.{IsPrime, sum_below}
use Rattle.residue_words.proofs.Sums.{sum_equal, sum_zero}
use Rattle.residue_words.proofs.Vectors.{at_combine, entry_residue, length_list_of, list_equal}
use Rattle.row_space.specs.Factors.{FitAsFactors, col_at, row_at}
use Rattle.row_space.proofs.Counting.{pigeonhole}
use Rattle.sparse_rows.specs.Rows.{ResidueMatrix, LARGEST_SIZE}
use Rattle.dense_finish.specs.declared.pivots.Pivots.{Pivots}
use Rattle.dense_finish.specs.declared.right_factor.RightFactor.{RightFactor}
use Rattle.dense_finish.specs.Block.{DenseBlock, IsBlock, IsBlockOf, IsDense, with_entries}
use Rattle.dense_rows.specs.Rows.{block_row}
use Rattle.dense_finish.specs.Factors.{IsFactored, IsLeftFactor}
use Rattle.dense_finish.specs.Pivots.{AreEliminated, AreFound, ArePivotPlaces, EliminatesBlock, IsRightFactorOf, SplitBy, filled_entry}
use Rattle.dense_panels.specs.Splitting.{parts}
use Rattle.dense_rows.specs.Dense.{IsTaken}
use Rattle.dense_rows.proofs.Indexing.{AreIndices, IsEmptyColumn, IsEmptyRow, filled_indices, index_or_not, occupied_indices}
use Rattle.dense_panels.proofs.Splitting.{fresh, steps_front}

-- different items have different names
pub indices_apart : {n : ℕ} {Absent : ℕ → Type 0} {names : List ℕ} → AreIndices n Absent names → (j k : ℕ) → j < length names → k < length names → slice_index names j ≡ slice_index names k → j ≡ k
indices_apart h j k lj lk same = elim (cases_eq j k) [
  | inl e ↦ e
  | inr d ↦ elim (cases_lt j k) [
    | inl less ↦ absurd (omega (arith, h.rising j k less lk))
    | inr more ↦ absurd (omega (arith, h.rising k j (omega arith) lj))
  ]
]

-- there are no more names than numbers
indices_few : {n : ℕ} {Absent : ℕ → Type 0} {names : List ℕ} → AreIndices n Absent names → length names ≤ n
indices_few {n} {Absent} {names} h = pigeonhole (length names) n (slice_index names) h.inside (indices_apart h)

-- a block is one of residues at rows and columns of its matrix
pub block_dense : {A : ResidueMatrix} {block : DenseBlock} → 2 ≤ A.modulus → A.matrix.height ≤ LARGEST_SIZE → A.matrix.width ≤ LARGEST_SIZE → IsBlockOf A block → IsDense block
block_dense {A} {block} modulus low narrow is = record {
  modulus = omega (arith, is.modulus);
  low = omega (arith, is.height);
  narrow = omega (arith, is.width);
  rows_few = omega (arith, indices_few (filled_indices is.filled));
  rows_below = rw is.height is.filled.below;
  rows_rising = is.filled.rising;
  columns_few = omega (arith, indices_few (occupied_indices is.occupied));
  columns_below = rw is.width is.occupied.enough.below;
  columns_rising = is.occupied.enough.rising;
  long = is.entries.long;
  residues = rw is.modulus is.entries.vectors;
}

module _ {p : ℕ} {A : Matrix} {row_indices names : List ℕ} {block rows : List (List ℕ)} {f : Pivots} {L : ResidueMatrix} {pivots : List Pair} (sound : IsMatrix p A)
    (filled_rows : AreIndices A.height (IsEmptyRow A) row_indices) (filled_columns : AreIndices A.width (IsEmptyColumn A) names) (is_block : IsBlock p A row_indices names block) (found : AreFound p names A.width (length block) f)
    (eliminated : AreEliminated p (length names) (length block) f rows) (split : IsPrime p → SplitBy p names f block rows)
    (left_modulus : L.modulus ≡ p) (left_matrix : IsMatrix p L.matrix) (left : IsLeftFactor A.height row_indices f.columns.items rows L.matrix) (places : ArePivotPlaces f.rows.items f.columns.items row_indices names pivots) where
  abbrev r : ℕ
  r = length f.columns.items

  count : length pivots ≡ r
  count = places.long ∙ found.long

  pivot_row : (k : ℕ) → k < r → slice_index f.rows.items k < length row_indices
  pivot_row k l = omega (arith, found.inside k l, is_block.long)

  at_row : (k : ℕ) → k < r → row_at pivots k ≡ slice_index row_indices (slice_index f.rows.items k)
  at_row k l = places.row k (omega (arith, found.long))

  at_column : (k : ℕ) → k < r → col_at pivots k ≡ slice_index names (slice_index f.columns.items k)
  at_column k l = places.column k (omega (arith, found.long))

  -- the entry of L U at row i and column x, before the remainder is taken
  abbrev product_at : ℕ → ℕ → ℕ
  product_at i x = sum_below r (λ k. entry L.matrix i k * entry f.u.matrix k x)

  -- at the name of a row of the block and of one of its columns it is the row's entry
  inner : IsPrime p → (t j : ℕ) → t < length row_indices → j < length names → entry A (slice_index row_indices t) (slice_index names j) % p ≡ product_at (slice_index row_indices t) (slice_index names j) % p
  inner prime t j lt lj =
      let low : t < length block = omega (arith, is_block.long) in
      let s = (split prime).done t low low in
      let e = filled_entry f.u.matrix names in
      let column = slice_index f.columns.items in
      let same : parts r e column (block_row rows t) j ≡ product_at (slice_index row_indices t) (slice_index names j) =
      sum_equal r (λ k. slice_index (block_row rows t) (column k) * e k j) (λ k. entry L.matrix (slice_index row_indices t) k * entry f.u.matrix k (slice_index names j))
      (λ k l. ap (λ x. x * e k j) (sym (left.filled t k lt l))) in
      ap (λ x. x % p) (sym (is_block.each t j low lj))
      ∙ elim (index_or_not r column j) [
        | inl w ↦ s.taken j lj w ∙ ap (λ x. x % p) same
        | inr none ↦
            let out : IsTaken r column j → ⊥ = λ w. none w.0 w.1 w.2 in
            s.left j lj out ∙ ap (λ x. (parts r e column (block_row rows t) j + x) % p) (eliminated.clear t j low lj out) ∙ ap (λ x. x % p) (add-zero (parts r e column (block_row rows t) j) ∙ same)
      ]

  -- everywhere it is the matrix's entry
  product_is : IsPrime p → (i x : ℕ) → i < A.height → x < A.width → entry A i x % p ≡ product_at i x % p
  product_is prime i x li lx = elim (index_or_not (length names) (slice_index names) x) [
    | inl w ↦ elim (index_or_not (length row_indices) (slice_index row_indices) i) [
      | inl v ↦ ap₂ (λ s y. entry A s y % p) (sym v.2) (sym w.2) ∙ inner prime v.0 w.0 v.1 w.1 ∙ ap₂ (λ s y. product_at s y % p) v.2 w.2
      | inr none ↦
          ap (λ z. z % p) (filled_rows.others i li none x lx
          ∙ sym (sum_zero r (λ k. entry L.matrix i k * entry f.u.matrix k x) (λ k l. ap (λ z. z * entry f.u.matrix k x) (left.others i k li l none) ∙ zero-mul (entry f.u.matrix k x))))
    ]
    | inr none ↦
        ap (λ z. z % p) (filled_columns.others x lx none i li
        ∙ sym (sum_zero r (λ k. entry L.matrix i k * entry f.u.matrix k x) (λ k l. ap (λ z. entry L.matrix i k * z) (found.unnamed k x l lx none) ∙ mul-zero (entry L.matrix i k))))
  ]

  product : IsPrime p → (i : ℕ) → i < A.height → row A i ≡ combine p (row L.matrix i) f.u.matrix
  product prime i l = list_equal A.width (row A i) (combine p (row L.matrix i) f.u.matrix) (sound.each i l).len (length_list_of f.u.matrix.width _ ∙ found.wide) (λ x lx.
      sym (mod-eq_of_lt (entry_residue p A sound i x l lx)) ∙ product_is prime i x l lx
      ∙ ap (λ n. sum_below n (λ k. entry L.matrix i k * entry f.u.matrix k x) % p) (sym found.height) ∙ sym (at_combine p (row L.matrix i) f.u.matrix x (omega (arith, found.wide))))

  rows_below : (k : ℕ) → k < length pivots → row_at pivots k < A.height
  rows_below k l = let low : k < r = omega (arith, count) in omega (arith, at_row k low, filled_rows.inside (slice_index f.rows.items k) (pivot_row k low))

  columns_below : (k : ℕ) → k < length pivots → col_at pivots k < A.width
  columns_below k l = let low : k < r = omega (arith, count) in omega (arith, at_column k low, filled_columns.inside (slice_index f.columns.items k) (found.steps.inside k low))

  rows_distinct : (k t : ℕ) → k < t → t < length pivots → row_at pivots k ≢ row_at pivots t
  rows_distinct k t a l same =
      let high : t < r = omega (arith, count) in
      let low : k < r = omega arith in
      omega (arith, at_row k low, at_row t high, filled_rows.rising (slice_index f.rows.items k) (slice_index f.rows.items t) (found.rising k t a high) (pivot_row t high))

  columns_distinct : (k t : ℕ) → k < t → t < length pivots → col_at pivots k ≢ col_at pivots t
  columns_distinct k t a l same =
      let high : t < r = omega (arith, count) in
      let low : k < r = omega arith in
      fresh {n = length names} {e = filled_entry f.u.matrix names} (steps_front (omega arith) found.steps) k a
      (indices_apart filled_columns (slice_index f.columns.items k) (slice_index f.columns.items t) (found.steps.inside k low) (found.steps.inside t high) (sym (at_column k low) ∙ same ∙ at_column t high))

  fit : FitAsFactors p A pivots L.matrix f.u.matrix
  fit = record {
    left = left_matrix;
    right = found.matrix;
    left_height = left.height;
    left_width = left.width ∙ sym count;
    right_height = found.height ∙ sym count;
    right_width = found.wide;
    rows_below = rows_below;
    columns_below = columns_below;
    rows_distinct = rows_distinct;
    columns_distinct = columns_distinct;
  }

  factored : IsFactored p A (record { pivots = pivots; l = L; u = f.u })
  factored = record {
    left_modulus = left_modulus;
    right_modulus = found.modulus;
    fit = fit;
    factors = λ prime. record {
      fit = fit;
      product = product prime;
      left_pivot = λ k l z.
          let low : k < r = omega (arith, count) in
          eliminated.leads k low (sym (left.filled (slice_index f.rows.items k) k (pivot_row k low) low) ∙ ap (λ i. entry L.matrix i k) (sym (at_row k low)) ∙ z);
      right_pivot = λ k l z.
          let low : k < r = omega (arith, count) in
          omega (arith, ap (entry f.u.matrix k) (at_column k low), found.steps.one k low);
      left_after = λ k t a l.
          let high : t < r = omega (arith, count) in
          let low : k < r = omega arith in
          ap (λ i. entry L.matrix i t) (at_row k low) ∙ left.filled (slice_index f.rows.items k) t (pivot_row k low) high ∙ eliminated.after (slice_index f.rows.items k) t high (found.rising k t a high);
      right_after = λ k t a l.
          let high : t < r = omega (arith, count) in
          ap (entry f.u.matrix t) (at_column k (omega arith)) ∙ found.steps.later k t a high;
    };
  }

-- what the elimination of its rows tells of the block
pub eliminates : {E : Type 0} (old : DenseBlock) (rows : List (List ℕ)) (result : Result Pivots E) → IsDense old → length rows ≡ length old.entries →
    IfOk result (AreFound old.modulus old.columns old.width (length old.entries)) →
    IfOk result (λ f. AreEliminated old.modulus (length old.columns) (length old.entries) f rows) →
    (IsPrime old.modulus → IfOk result (λ f. SplitBy old.modulus old.columns f old.entries rows)) → IfOk result (EliminatesBlock old (with_entries old rows))
eliminates old rows (Ok f) dense long found eliminated split = record {
  same = refl;
  dense = record {
    modulus = dense.modulus;
    low = dense.low;
    narrow = dense.narrow;
    rows_few = dense.rows_few;
    rows_below = dense.rows_below;
    rows_rising = dense.rows_rising;
    columns_few = dense.columns_few;
    columns_below = dense.columns_below;
    columns_rising = dense.columns_rising;
    long = long ∙ dense.long;
    residues = eliminated.vectors;
  };
  stand = record {
    long = found.long;
    few = omega (arith, found.few, dense.long);
    rows = λ k l. omega (arith, found.inside k (omega (arith, found.long)), dense.long);
    rising = λ k t a l. found.rising k t a (omega (arith, found.long));
    columns = found.steps.inside;
    after = eliminated.after;
  };
  found = found;
  eliminated = eliminated;
  split = split;
}
eliminates old rows (Err e) dense long found eliminated split = tt

-- the factors of A by its eliminated block
pub assembled : {A L : ResidueMatrix} {old new : DenseBlock} {f : Pivots} {right : RightFactor} → IsBlockOf A old → EliminatesBlock old new f → L.modulus ≡ new.modulus → IsMatrix new.modulus L.matrix →
    IsLeftFactor new.height new.rows f.columns.items new.entries L.matrix → IsRightFactorOf new f right →
    IsFactored A.modulus A.matrix (record { pivots = right.pivots; l = L; u = right.u })
assembled {A} {L} {old} {new} {f} {right} is done left_modulus left_matrix left is_right =
    let modulus : new.modulus ≡ A.modulus = ap (λ b. b.modulus) done.same ∙ is.modulus in
    let height : new.height ≡ A.matrix.height = ap (λ b. b.height) done.same ∙ is.height in
    let rows : new.rows ≡ old.rows = ap (λ b. b.rows) done.same in
    let columns : new.columns ≡ old.columns = ap (λ b. b.columns) done.same in
    rw is_right.same (factored is.sound (filled_indices is.filled) (occupied_indices is.occupied) is.entries (rw (is.modulus, is.width) at done.found) (rw is.modulus at done.eliminated) (rw is.modulus at done.split)
    (left_modulus ∙ modulus) (rw modulus at left_matrix) (rw (height, rows) at left) (rw (rows, columns) at is_right.places))
