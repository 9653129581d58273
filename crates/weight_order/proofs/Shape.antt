-- Rows picked by weight, and their transpose.
use Rattle.std.proofs.Common.{ℕ, ◌≡◌, ◌≢◌, ◌<◌, ◌≤◌, List, length, map, slice_index, sym, refl, ap, subst, ◌∙◌, arith}
use Rattle.std.specs.List.{All}
use Rattle.std.proofs.lemmas.List.{get_or_default, length-map}
use Rattle.std.proofs.lemmas.List.Sorted.{All-permutation, length_permutation}
use Rattle.residue_words.specs.Matrix.{Matrix, IsMatrix, entry, row}
use Rattle.residue_words.proofs.Lists.{place_in}
use Rattle.residue_words.proofs.Sums.{sum_equal}
use Rattle.residue_words.proofs.Vectors.{entry_matrix_of}
use Rattle.row_space.proofs.Spans.{rising_equal}
use Rattle.sparse_rows.specs.Rows.{AreEnough, AreEnoughInSomeOrder, AreFilled, AreOccupied, AreWeights, IsFilled, ResidueMatrix, narrowed, selected, support, transposed}
use Rattle.sparse_rows.proofs.Permuting.{enough_permuted}
use Rattle.sparse_rows.proofs.Supports.{at_support, in_support, row_sparse}
use Rattle.weight_order.specs.Keeping.{AreFilledInSomeOrder, KeepsRank}
use Rattle.weight_order.specs.Shape.{AreByWeight, HasColumnsByWeight, HasFewFilled, HasFewRisingRows, HasRarestFirst, HasRowsByWeight}
use Rattle.weight_order.proofs.Keeping.{each_filled, keeps_chained, transposing_keeps, turning_keeps}
use Rattle.weight_order.proofs.Rearranging.{narrowed_turned}
use Rattle.weight_order.proofs.Selecting.{row_selected, selected_matrix}
use Rattle.weight_order.proofs.Transposing.{transposed_matrix}
use Rattle.weight_order.proofs.Weights.{counted, picked_sum, weight_sum}

-- a row is filled where it has an entry at some column
module _ {p : ℕ} {A : Matrix} (m : IsMatrix p A) where
  filled_at : (i j : ℕ) → i < A.height → entry A i j ≢ 0 → IsFilled A i
  filled_at i j l d = let t = place_in (support (row A i)) j (in_support m i l j d) in omega (arith, t.1)

  entry_turned : (i j : ℕ) → i < A.height → j < A.width → entry (transposed A) j i ≡ entry A i j
  entry_turned i j l b = entry_matrix_of A.width A.height (λ i j. entry A j i) j i b l

  column_at : (i j : ℕ) → i < A.height → j < A.width → entry A i j ≢ 0 → IsFilled (transposed A) j
  column_at i j l b d =
      let t = place_in (support (row (transposed A) j)) i (in_support (transposed_matrix p A m) j b i (λ z. d (sym (entry_turned i j l b) ∙ z))) in
      omega (arith, t.1)

  entry_of_column : (j : ℕ) → j < A.width → IsFilled (transposed A) j → (i : ℕ) × (i < A.height) × (entry A i j ≢ 0)
  entry_of_column j b f =
      let mt : IsMatrix p (transposed A) = transposed_matrix p A m in
      let i : ℕ = slice_index (support (row (transposed A) j)) 0 in
      let l : i < A.height = (row_sparse mt j b).below 0 f in
      (i, l, (λ z. at_support mt j b 0 f (entry_turned i j l b ∙ z)))

  -- the occupied columns are the filled rows of the transpose
  pub occupied_filled : (columns : List ℕ) → AreOccupied A columns → AreFilled (transposed A) columns
  occupied_filled columns o = record {
    rising = o.enough.rising;
    below = o.enough.below;
    filled = λ k l. let w = o.occupied k l in column_at w.0 (slice_index columns k) w.1 (o.enough.below k l) w.2;
    all = λ j b f. let w = entry_of_column j b f in o.enough.all w.0 j w.1 b w.2;
  }

  -- and the other way round
  pub filled_enough : (columns : List ℕ) → AreFilled (transposed A) columns → AreEnough A columns
  filled_enough columns f = record { rising = f.rising; below = f.below; all = λ i j l b d. f.all j b (column_at i j l b d) }

  pub turned_occupied : (columns : List ℕ) → AreFilled (transposed A) columns → AreOccupied A columns
  turned_occupied columns f =
      record { enough = filled_enough columns f; occupied = λ k l. entry_of_column (slice_index columns k) (f.below k l) (f.filled k l) }

  -- the filled rows are the occupied columns of the transpose
  pub filled_occupied : (rows : List ℕ) → AreFilled A rows → AreOccupied (transposed A) rows
  filled_occupied rows f = record {
    enough = record { rising = f.rising; below = f.below; all = λ j i b l d. f.all i l (filled_at i j l (λ z. d (entry_turned i j l b ∙ z))) };
    occupied = λ k l.
        let i : ℕ = slice_index rows k in
        let j : ℕ = slice_index (support (row A i)) 0 in
        let b : j < A.width = (row_sparse m i (f.below k l)).below 0 (f.filled k l) in
        (j, b, (λ z. at_support m i (f.below k l) 0 (f.filled k l) (sym (entry_turned i j (f.below k l) b) ∙ z)));
  }

-- the filled rows are one list
pub filled_count : (A : Matrix) (xs ys : List ℕ) → AreFilled A xs → AreFilled A ys → length xs ≡ length ys
filled_count A xs ys a b =
    (rising_equal (length xs) (length ys) (slice_index xs) (slice_index ys) a.rising b.rising
    (λ k l. let t = place_in ys (slice_index xs k) (b.all (slice_index xs k) (a.below k l) (a.filled k l)) in (t.0, t.1, sym t.2))
    (λ k l. let t = place_in xs (slice_index ys k) (a.all (slice_index ys k) (b.below k l) (b.filled k l)) in (t.0, t.1, sym t.2))).0

-- rows in some order are filled
order_filled : {A : Matrix} {order : List ℕ} → AreFilledInSomeOrder A order → All (IsFilled A) order
order_filled {A} {order} h = All-permutation (IsFilled A) h.0 order h.2 (λ k d l. subst (IsFilled A) (get_or_default h.0 k 0 d l) (h.1.filled k l))

-- the filled rows have the same occupied columns
module _ {p : ℕ} {B : Matrix} {order : List ℕ} (m : IsMatrix p B) (h : AreFilledInSomeOrder B order) where
  picked_matrix : IsMatrix p (selected B order)
  picked_matrix = selected_matrix p B order m (each_filled h)

  entry_picked : (k j : ℕ) → k < length order → entry (selected B order) k j ≡ entry B (slice_index order k) j
  entry_picked k j l = ap (λ v. slice_index v j) (row_selected B order k l)

  picked_filled : (k : ℕ) → k < length order → IsFilled (selected B order) k
  picked_filled k l = subst (λ v. 0 < length (support v)) (sym (row_selected B order k l)) (order_filled h k 0 l)

  columns_back : (columns : List ℕ) → AreFilled (transposed (selected B order)) columns → AreFilled (transposed B) columns
  columns_back columns f = record {
    rising = f.rising;
    below = f.below;
    filled = λ k l.
        let w = entry_of_column picked_matrix (slice_index columns k) (f.below k l) (f.filled k l) in
        column_at m (slice_index order w.0) (slice_index columns k) ((each_filled h).inside w.0 0 w.1) (f.below k l) (λ z. w.2 (entry_picked w.0 (slice_index columns k) w.1 ∙ z));
    all = λ j b g.
        let w = entry_of_column m j b g in
        let t = place_in order w.0 ((each_filled h).all w.0 w.1 (filled_at m w.0 j w.1 w.2)) in
        f.all j b (column_at picked_matrix t.0 j t.1 b (λ z. w.2 (sym (ap (λ i. entry B i j) t.2) ∙ sym (entry_picked t.0 j t.1) ∙ z)));
  }

  -- they have entries in the same columns
  picked_occupied : (columns : List ℕ) → AreOccupied B columns → AreOccupied (selected B order) columns
  picked_occupied columns o = record {
    enough = record {
      rising = o.enough.rising;
      below = o.enough.below;
      all = λ k j l b d. o.enough.all (slice_index order k) j ((each_filled h).inside k 0 l) b (λ z. d (entry_picked k j l ∙ z));
    };
    occupied = λ k l.
        let w = o.occupied k l in
        let j : ℕ = slice_index columns k in
        let t = place_in order w.0 ((each_filled h).all w.0 w.1 (filled_at m w.0 j w.1 w.2)) in
        (t.0, t.1, (λ z. w.2 (sym (ap (λ i. entry B i j) t.2) ∙ sym (entry_picked t.0 j t.1) ∙ z)));
  }

-- rows that are filled, by weight, no more than the columns that have an entry
few_rising : {p : ℕ} {B C : Matrix} {columns : List ℕ} → IsMatrix p B → AreOccupied B columns → HasFewFilled B (length columns) → HasRowsByWeight B C → HasFewRisingRows C
few_rising {p} {B} {C} {columns} m occupied few by = subst HasFewRisingRows (sym by.rows) record {
  rising = record {
    filled = picked_filled m by.filled;
    rising = λ i k a b.
        let at = row_selected B by.order in
        let low : i < length by.order = omega arith in
        subst (λ v. length (support v) ≤ length (support (row (selected B by.order) k))) (sym (at i low))
        (subst (λ v. length (support (row B (slice_index by.order i))) ≤ length (support v)) (sym (at k b)) (by.by_weight i k a b));
  };
  few = λ cs f. omega (
    arith,
    length_permutation by.filled.0 by.order by.filled.2,
    few by.filled.0 by.filled.1,
    filled_count (transposed B) cs columns (columns_back m by.filled cs f) (occupied_filled m columns occupied),
  );
}

-- so they are columns by weight, if they keep the rank
pub rows_are_columns : {R C : ResidueMatrix} {columns order : List ℕ} → IsMatrix R.modulus R.matrix → AreOccupied R.matrix columns → HasFewFilled R.matrix (length columns) →
    AreFilledInSomeOrder R.matrix order × AreByWeight R.matrix order → KeepsRank R C → C.matrix ≡ selected R.matrix order → HasColumnsByWeight R C columns
rows_are_columns {R} {C} {columns} {order} m occupied few h rank made = record {
  rank = rank;
  shape = few_rising m occupied few record { order = order; filled = h.0; by_weight = h.1; rows = made };
  occupied = subst (λ M. AreOccupied M columns) (sym made) (picked_occupied m h.0 columns occupied);
}

-- the same of the columns as rows
pub columns_are_rows : {R C : ResidueMatrix} {weights : List (ℕ × ℕ)} {rows order : List ℕ} → IsMatrix R.modulus R.matrix → AreWeights (transposed R.matrix) weights → AreFilled R.matrix rows →
    length weights ≤ length rows → AreFilledInSomeOrder (transposed R.matrix) order × AreByWeight (transposed R.matrix) order → KeepsRank R C → C.matrix ≡ selected (transposed R.matrix) order →
    HasColumnsByWeight R C rows
columns_are_rows {R} {C} {weights} {rows} {order} m w filled few h rank made =
    let turned : IsMatrix R.modulus (transposed R.matrix) = transposed_matrix R.modulus R.matrix m in
    let occupied : AreOccupied (transposed R.matrix) rows = filled_occupied m rows filled in record {
      rank = rank;
      shape = few_rising turned occupied
          (λ xs f. omega (arith, filled_count (transposed R.matrix) xs (map (λ w. w.1) weights) f w.filled, length-map weights (λ (w : ℕ × ℕ). w.1)))
          record { order = order; filled = h.0; by_weight = h.1; rows = made };
      occupied = subst (λ M. AreOccupied M rows) (sym made) (picked_occupied turned h.0 rows occupied);
    }

-- and of what the transpose gives
pub turned_are_columns : {R T C : ResidueMatrix} {columns : List ℕ} → IsMatrix R.modulus R.matrix → T.modulus ≡ R.modulus → T.matrix ≡ transposed R.matrix →
    HasColumnsByWeight T C columns → HasColumnsByWeight R C columns
turned_are_columns {R} {T} {C} {columns} m modulus matrix h =
    record { rank = keeps_chained {R = T} (transposing_keeps m modulus matrix) h.rank; shape = h.shape; occupied = h.occupied }

-- so many rows are filled
pub few_rows : (A : Matrix) (rows : List ℕ) (n : ℕ) → AreFilled A rows → length rows ≤ n → HasFewFilled A n
few_rows A rows n filled less xs f = omega (arith, filled_count A xs rows f filled)

-- and of the transpose
pub few_turned : {p : ℕ} {A : Matrix} (rows columns : List ℕ) → IsMatrix p A → AreOccupied A columns → length columns ≤ length rows → HasFewFilled (transposed A) (length rows)
few_turned {p} {A} rows columns m occupied less xs f = omega (arith, filled_count (transposed A) xs columns f (occupied_filled m columns occupied))

-- columns that are rows of C, and their filled rows in some order
module _ {p : ℕ} {C : Matrix} {order : List ℕ} (m : IsMatrix p C) (h : AreFilledInSomeOrder (transposed C) order) where
  turned_matrix : IsMatrix p (transposed C)
  turned_matrix = transposed_matrix p C m

  -- each column has the entries of its row
  same_weight : (j : ℕ) → j < C.height → length (support (row (transposed (selected (transposed C) order)) j)) ≡ length (support (row C j))
  same_weight j b =
      let S : Matrix = selected (transposed C) order in
      let ms : IsMatrix p S = picked_matrix turned_matrix h in
      weight_sum (transposed_matrix p S ms) j b
      ∙ sum_equal (length order) (λ i. counted (entry (transposed S) j i)) (λ i. counted (entry C j (slice_index order i))) (λ i l.
      ap counted (entry_turned ms i j l b ∙ entry_picked turned_matrix h i j l ∙ entry_turned m j (slice_index order i) b ((each_filled h).inside i 0 l)))
      ∙ picked_sum C.width (entry C j) h.0 order h.1.rising h.1.below (λ i l d. h.1.all i l (column_at m j i b l d)) h.2
      ∙ sym (weight_sum m j b)

  turned_rarest : HasFewRisingRows C → HasRarestFirst (selected (transposed C) order)
  turned_rarest few = record {
    rows = picked_filled turned_matrix h;
    columns = record {
      filled = λ j b. subst (λ n. 0 < n) (sym (same_weight j b)) (few.rising.filled j b);
      rising = λ j k a b. omega (arith, same_weight j (omega arith), same_weight k b, few.rising.rising j k a b);
    };
    tall = omega (arith, few.few h.0 h.1, length_permutation h.0 order h.2);
  }

pub rarest_first_of : {p : ℕ} {C S : Matrix} {order : List ℕ} → IsMatrix p C → HasFewRisingRows C → AreFilledInSomeOrder (transposed C) order → S ≡ selected (transposed C) order →
    HasRarestFirst S
rarest_first_of {p} {C} {S} {order} m few h rows = subst HasRarestFirst (sym rows) (turned_rarest m h few)

-- the columns of a matrix in the order of the rows of its transpose
pub order_enough : {p : ℕ} {A : Matrix} {order : List ℕ} → IsMatrix p A → AreFilledInSomeOrder (transposed A) order → AreEnoughInSomeOrder A order
order_enough {p} {A} {order} m h = enough_permuted h.0 order (filled_enough m h.0 h.1) h.2

-- rows in some order with their columns by weight keep the rank, and have the rarest first
pub rearranged_is : {R S : ResidueMatrix} {weights : List (ℕ × ℕ)} {columns order : List ℕ} → 2 ≤ R.modulus → IsMatrix R.modulus R.matrix → AreWeights (transposed R.matrix) weights →
    AreFilledInSomeOrder R.matrix order → length weights ≤ length order → AreFilledInSomeOrder (transposed R.matrix) columns × AreByWeight (transposed R.matrix) columns →
    S.modulus ≡ R.modulus → S.matrix ≡ selected (narrowed R.matrix columns) order → KeepsRank R S × HasRarestFirst S.matrix
rearranged_is {R} {S} {weights} {columns} {order} two m w rows few h modulus matrix =
    let C : ResidueMatrix = record { modulus = R.modulus; matrix = selected (transposed R.matrix) columns } in
    let less : length weights ≤ length rows.0 = omega (arith, length_permutation rows.0 order rows.2) in
    let by : HasColumnsByWeight R C rows.0 = columns_are_rows {C = C} m w rows.1 less h (turning_keeps {S = C} two m h.0 refl refl) refl in
    let mc : IsMatrix R.modulus C.matrix = by.rank.sound in
    let there : AreFilledInSomeOrder (transposed C.matrix) order = (rows.0, occupied_filled mc rows.0 by.occupied, rows.2) in
    let is : S.matrix ≡ selected (transposed C.matrix) order =
    matrix ∙ ap (λ M. selected M order) (sym (narrowed_turned R.matrix columns (order_enough m h.0).below)) in (
      keeps_chained {R = C} by.rank (turning_keeps {R = C} two mc there modulus is),
      rarest_first_of mc by.shape there is,
    )
