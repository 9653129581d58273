-- The pivots of two panels of the same rows, one behind the other, and what they leave.
use Rattle.std.proofs.Common.{ℕ, ◌≡◌, ◌+◌, ◌-◌, ◌*◌, ◌%◌, ◌<◌, ◌≤◌, inl, inr, List, ◌++◌, [], length, slice_index, zero, suc, sym, refl, ap, subst, ◌∙◌, arith, zero-mul, add-zero, length-append}
use Rattle.std.proofs.lemmas.Bool.{cases_lt}
use Rattle.std.proofs.lemmas.List.{get_or-append_right, get_or_append_left}
use Rattle.residue_words.specs.Matrix.{IsVector}
use Rattle.row_space.specs.Rows.{HasSteps}
use Rattle.dense_rows.specs.Rows.{block_row}
use Rattle.dense_panels.specs.Panel.{ArePivots, Continues, PanelReduces, PanelRows, joined_panel}
use Rattle.dense_panels.specs.Splitting.{IsSplit, PivotSequence}
use Rattle.dense_panels.specs.Units.{HasUnits, unit_row}
use Rattle.dense_panels.proofs.Splitting.{fresh, split_more, split_panel, steps_front}
use Rattle.dense_panels.proofs.UnitRows.{unit_off}

-- pivots at whose columns a row is 0 leave it as it is
skip_pivots : {p n : ℕ} {P : PivotSequence p n} {b v : List ℕ} (r s : ℕ) → HasSteps (r + s) n P.entry P.column → ((k : ℕ) → k < s → slice_index v (P.column (r + k)) ≡ 0) →
    IsSplit P r b v → IsSplit P (r + s) b v
skip_pivots {P = P} {b} {v} r zero steps none h = subst (λ t. IsSplit P t b v) (sym (add-zero r)) h
skip_pivots {p} {n} {P} {b} {v} r (suc s) steps none h =
    let last : r + s + 1 ≡ r + suc s = omega arith in
    subst (λ t. IsSplit P t b v) last
    (split_more {P = P} (subst (λ t. HasSteps t n P.entry P.column) (sym last) steps) (λ k l. refl) refl
    (λ j l out other.
    let none_there : slice_index v (P.column (r + s)) * P.entry (r + s) j ≡ 0 = ap (λ x. x * P.entry (r + s) j) (none s (omega arith)) ∙ zero-mul (P.entry (r + s) j) in
    let same : slice_index v j ≡ slice_index v j + slice_index v (P.column (r + s)) * P.entry (r + s) j = omega (arith, none_there) in
    ap (λ x. x % p) same)
    (skip_pivots r s (steps_front (omega arith) steps) (λ k l. none k (omega arith)) h))

module _ (p : ℕ) (front back : PanelRows) (pivots : ArePivots p front) where
  abbrev s : ℕ
  s = length front.columns

  abbrev t : ℕ
  t = length back.columns

  abbrev joined : PanelRows
  joined = joined_panel front back

  long : length joined.columns ≡ s + t
  long = length-append front.columns back.columns

  column_front : (k : ℕ) → k < s → slice_index joined.columns k ≡ slice_index front.columns k
  column_front k l = get_or_append_left front.columns back.columns 0 k l

  column_back : (k : ℕ) → slice_index joined.columns (s + k) ≡ slice_index back.columns k
  column_back k = let place : s + k - s ≡ k = omega arith in get_or-append_right front.columns back.columns s (s + k) 0 refl (omega arith) ∙ ap (slice_index back.columns) place

  row_front : (k : ℕ) → k < s → block_row joined.rows k ≡ block_row front.rows k
  row_front k l = get_or_append_left front.rows back.rows [] k (omega (arith, pivots.long))

  row_back : (k : ℕ) → block_row joined.rows (s + k) ≡ block_row back.rows k
  row_back k = let place : s + k - s ≡ k = omega arith in get_or-append_right front.rows back.rows s (s + k) [] pivots.long (omega arith) ∙ ap (block_row back.rows) place

  continues_front : {n r : ℕ} {P : PivotSequence p n} → Continues P r joined → Continues P r front
  continues_front h = record {
    stands = λ k l. h.stands k (omega (arith, long)) ∙ column_front k l;
    entries = λ k j l lj. h.entries k j (omega (arith, long)) lj ∙ ap (λ u. slice_index u j) (row_front k l);
  }

  continues_back : {n r : ℕ} {P : PivotSequence p n} → Continues P r joined → Continues P (r + s) back
  continues_back {n} {r} {P} h = record {
    stands = λ k l. ap P.column (place k) ∙ h.stands (s + k) (omega (arith, long)) ∙ column_back k;
    entries = λ k j l lj. ap (λ x. P.entry x j) (place k) ∙ h.entries (s + k) j (omega (arith, long)) lj ∙ ap (λ u. slice_index u j) (row_back k);
  }
    where
      place : (k : ℕ) → r + s + k ≡ r + (s + k)
      place k = omega arith

  module _ (wide : back.width ≡ front.width) where
    pub joined_pivots : ArePivots p back → ArePivots p joined
    joined_pivots others = record {
      long = length-append front.rows back.rows ∙ omega (arith, pivots.long, others.long, long);
      inside = λ k l. elim (cases_lt k s) [
        | inl less ↦ omega (arith, column_front k less, pivots.inside k less)
        | inr more ↦ omega (arith, at_column k more, others.inside (k - s) (omega (arith, l, long)), wide)
      ];
      vectors = λ k l. elim (cases_lt k s) [
        | inl less ↦ subst (IsVector p front.width) (sym (row_front k less)) (pivots.vectors k less)
        | inr more ↦ subst (IsVector p front.width) (sym (at_row k more)) (subst (λ n. IsVector p n (block_row back.rows (k - s))) wide (others.vectors (k - s) (omega (arith, l, long))))
      ];
      before = λ k j l lj. elim (cases_lt k s) [
        | inl less ↦ ap (λ u. slice_index u j) (row_front k less) ∙ pivots.before k j less (omega (arith, column_front k less))
        | inr more ↦ ap (λ u. slice_index u j) (at_row k more) ∙ others.before (k - s) j (omega (arith, l, long)) (omega (arith, at_column k more))
      ];
    }
      where
        place : (k : ℕ) → s ≤ k → k ≡ s + (k - s)
        place k more = omega arith

        at_column : (k : ℕ) → s ≤ k → slice_index joined.columns k ≡ slice_index back.columns (k - s)
        at_column k more = ap (slice_index joined.columns) (place k more) ∙ column_back (k - s)

        at_row : (k : ℕ) → s ≤ k → block_row joined.rows k ≡ block_row back.rows (k - s)
        at_row k more = ap (block_row joined.rows) (place k more) ∙ row_back (k - s)

    -- a row is reduced by one and then by the other
    pub joined_reduces : {v w x : List ℕ} → PanelReduces p front v w → PanelReduces p back w x → PanelReduces p joined v x
    joined_reduces {v} {w} {x} first second = record {
      vector = subst (λ n. IsVector p n x) wide second.vector;
      split = λ P r b continues steps h.
          let all : r + s + t ≡ r + length joined.columns = omega (arith, long) in
          subst (λ u. IsSplit P u b x) all
          (split_panel wide second P (r + s) b (continues_back continues) (subst (λ u. HasSteps u front.width P.entry P.column) (sym all) steps)
          (first.split P r b (continues_front continues) (steps_front (omega (arith, long)) steps) h));
    }

    -- a unit row at a column of the second panel is reduced by it alone
    joined_unit : (m : ℕ) {u : List ℕ} → m < t → PanelReduces p back (unit_row back.width (slice_index back.columns m)) u → PanelReduces p joined (unit_row front.width (slice_index back.columns m)) u
    joined_unit m {u} l second = record {
      vector = subst (λ n. IsVector p n u) wide second.vector;
      split = λ P r b continues steps h.
          let all : r + s + t ≡ r + length joined.columns = omega (arith, long) in
          let later : HasSteps (r + s + t) front.width P.entry P.column = subst (λ u. HasSteps u front.width P.entry P.column) (sym all) steps in
          let here : P.column (r + s + m) ≡ slice_index back.columns m = (continues_back continues).stands m l in
          let passed = skip_pivots {P = P} r s (steps_front (omega arith) later)
          (λ k lk. unit_off front.width (slice_index back.columns m) (P.column (r + k)) (later.inside (r + k) (omega arith))
          (λ same. fresh {r = r + s + m} (steps_front (omega arith) later) (r + k) (omega arith) (same ∙ sym here))) h in
          subst (λ u2. IsSplit P u2 b u) all
          (split_panel wide second P (r + s) b (continues_back continues) later (subst (λ n. IsSplit P (r + s) b (unit_row n (slice_index back.columns m))) (sym wide) passed));
    }

    -- what both leave of the unit rows at their columns
    module _ (news others : List (List ℕ)) (units_long : length news ≡ s) (reduced : (k : ℕ) → k < s → PanelReduces p joined (unit_row front.width (slice_index front.columns k)) (block_row news k))
        (others_long : length others ≡ t) (others_reduced : (k : ℕ) → k < t → PanelReduces p back (unit_row back.width (slice_index back.columns k)) (block_row others k)) where
      pub joined_units : HasUnits p (record { panel = joined; units = news ++ others; first = 0 })
      joined_units = record {
        long = length-append news others ∙ omega (arith, units_long, others_long, long);
        reduced = λ k l. elim (cases_lt k s) [
          | inl less ↦
              subst (λ c. PanelReduces p joined (unit_row front.width c) (block_row (news ++ others) k)) (sym (column_front k less))
              (subst (PanelReduces p joined (unit_row front.width (slice_index front.columns k))) (sym (get_or_append_left news others [] k (omega (arith, units_long)))) (reduced k less))
          | inr more ↦
              let place : k ≡ s + (k - s) = omega arith in
              let less : k - s < t = omega (arith, l, length-append news others, units_long, others_long) in
              subst (λ c. PanelReduces p joined (unit_row front.width c) (block_row (news ++ others) k)) (sym (ap (slice_index joined.columns) place ∙ column_back (k - s)))
              (subst (PanelReduces p joined (unit_row front.width (slice_index back.columns (k - s)))) (sym (get_or-append_right news others s k [] units_long more)) (joined_unit (k - s) less (others_reduced (k - s) less)))
        ];
        before = λ k j l lj. absurd (omega arith);
      }
