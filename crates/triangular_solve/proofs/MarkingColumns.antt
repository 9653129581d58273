-- Columns that are marked row by row, and taken one by one.
use Rattle.std.proofs.Common.{ℕ, ◌≡◌, ◌≢◌, ◌⊎◌, ◌+◌, ◌<◌, List, [], ◌∷◌, ◌++◌, length, map, slice_index, slice_set, inl, inr, ⊎_elim, sym, ap, subst, ◌∙◌, arith}
use Rattle.std.specs.List.{Contains}
use Rattle.std.proofs.lemmas.Bool.{cases_eq, cases_lt}
use Rattle.std.proofs.lemmas.List.{get_or_append_left, get_or_push, get_or-set_other, length-set, length_push}
use Rattle.std.proofs.lemmas.List.Elements.{Contains-append_left, Contains-push, Contains-push_cases}
use Rattle.residue_words.specs.Matrix.{Matrix, IsMatrix, entry, row}
use Rattle.residue_words.specs.declared.plain.Pair.{Pair}
use Rattle.residue_words.proofs.Lists.{not_in_nil}
use Rattle.row_space.specs.Factors.{row_at}
use Rattle.sparse_rows.specs.ColumnSet.{AllZero, TakesFirst}
use Rattle.sparse_rows.specs.Rows.{AreOccupied, AreRising, selected, support}
use Rattle.sparse_rows.proofs.Supports.{in_support, of_support}
use Rattle.triangular_solve.specs.ColumnMarks.{AreMarksOf, ListsMarks, MarksColumns}
use Rattle.triangular_solve.proofs.Marked.{mark_stays, mark_there, marked_inside, none_marked, taken_kept, taken_others, taken_past, taken_there}
use Rattle.triangular_solve.proofs.PlacingRows.{selected_height, selected_row}

-- no column is marked, and one more
pub marks_none : (old : List ℕ) → MarksColumns [] old old
marks_none old = record {
  long = λ i. length old;
  kept = λ j ne. ne;
  these = λ j m. absurd (not_in_nil j m);
  only = λ j ne. inl ne;
}

pub marks_one_more : {columns old new : List ℕ} → MarksColumns columns old new → (c : ℕ) → c < length old → MarksColumns (columns ++ c ∷ []) old (slice_set new c 1)
marks_one_more {columns} {old} {new} m c l = record {
  long = length-set new c 1 ∙ m.long;
  kept = λ j ne. mark_stays new c inside j (m.kept j ne);
  these = λ j k. ⊎_elim (λ o. mark_stays new c inside j (m.these j o)) (λ e. subst (λ (i : ℕ). slice_index (slice_set new c 1) i ≢ 0) e (mark_there new c inside)) (Contains-push_cases columns c j k);
  only = λ j ne. elim (cases_eq j c) [
    | inl e ↦ inr (subst (Contains (columns ++ c ∷ [])) (sym e) (Contains-push columns c))
    | inr d ↦ ⊎_elim (λ o. inl o) (λ k. inr (Contains-append_left columns (c ∷ []) j k)) (m.only j (λ z. ne (get_or-set_other new c j 1 0 d ∙ z)))
  ];
}
  where
    inside : c < length new
    inside = omega (arith, m.long)

-- no row is marked, and one more
pub row_marks_none : (A : Matrix) (qs : List Pair) (marks : List ℕ) → length marks ≡ A.width → AllZero marks → AreMarksOf A qs 0 marks
row_marks_none A qs marks e zero' = record {
  long = e;
  some = λ j ne. absurd (none_marked marks zero' j ne);
  all = λ k j l. absurd (omega arith);
}

pub row_marks_more : {p : ℕ} {A : Matrix} {qs : List Pair} {n : ℕ} {old new columns : List ℕ} → IsMatrix p A → row_at qs n < A.height → columns ≡ support (row A (row_at qs n)) → AreMarksOf A qs n old → MarksColumns columns old new →
    AreMarksOf A qs (n + 1) new
row_marks_more {p} {A} {qs} {n} {old} {new} {columns} m l e are marks = record {
  long = marks.long ∙ are.long;
  some = λ j ne. ⊎_elim
      (λ o. let s = are.some j o in (s.0, omega (arith, s.1), s.2))
      (λ k. (n, omega arith, of_support m (row_at qs n) l j (subst (λ xs. Contains xs j) e k)))
      (marks.only j ne);
  all = λ k j lk ne. elim (cases_lt k n) [
    | inl less ↦ marks.kept j (are.all k j less ne)
    | inr ge ↦
        let is : k ≡ n = omega arith in
        marks.these j (subst (λ xs. Contains xs j) (sym e) (in_support m (row_at qs n) l j (subst (λ t. entry A (row_at qs t) j ≢ 0) is ne)))
  ];
}

-- the columns of some first marks, and the marks that are left
pub record AreTaken (marks left columns : List ℕ) : Type 0 where
  pub rising : AreRising columns
  pub marked : (k : ℕ) → k < length columns → slice_index marks (slice_index columns k) ≢ 0
  pub old : (j : ℕ) → slice_index left j ≢ 0 → slice_index marks j ≢ 0
  pub behind : (j k : ℕ) → slice_index left j ≢ 0 → k < length columns → slice_index columns k < j
  pub every : (j : ℕ) → slice_index marks j ≢ 0 → Contains columns j ⊎ (slice_index left j ≢ 0)

pub none_taken : (marks : List ℕ) → AreTaken marks marks []
none_taken marks = record {
  rising = λ k t less l. absurd (let x : t < length {A = ℕ} [] = l in omega arith);
  marked = λ k l. absurd (let x : k < length {A = ℕ} [] = l in omega arith);
  old = λ j ne. ne;
  behind = λ j k ne l. absurd (let x : k < length {A = ℕ} [] = l in omega arith);
  every = λ j ne. inr ne;
}

pub one_taken : {marks left new columns : List ℕ} {c v : ℕ} → AreTaken marks left columns → TakesFirst left new c v → AreTaken marks new (columns ++ c ∷ [])
one_taken {marks} {left} {new} {columns} {c} {v} t first = record {
  rising = λ k i less l. elim (cases_lt i (length columns)) [
    | inl lt ↦ omega (arith, t.rising k i less lt, before k (omega arith), before i lt)
    | inr ge ↦ (let lk : k < length columns = omega (arith, many) in omega (arith, t.behind c k (taken_there first) lk, before k lk, last i (omega (arith, many))))
  ];
  marked = λ k l. elim (cases_lt k (length columns)) [
    | inl lt ↦ subst (λ j. slice_index marks j ≢ 0) (sym (before k lt)) (t.marked k lt)
    | inr ge ↦ subst (λ j. slice_index marks j ≢ 0) (sym (last k (omega (arith, many)))) (t.old c (taken_there first))
  ];
  old = λ j ne. t.old j (taken_kept first j ne);
  behind = λ j k ne l. elim (cases_lt k (length columns)) [
    | inl lt ↦ omega (arith, t.behind j k (taken_kept first j ne) lt, before k lt)
    | inr ge ↦ omega (arith, last k (omega (arith, many)), taken_past first j ne)
  ];
  every = λ j ne. ⊎_elim
      (λ k. inl (Contains-append_left columns (c ∷ []) j k))
      (λ o. ⊎_elim (λ e. inl (subst (Contains (columns ++ c ∷ [])) (sym e) (Contains-push columns c))) (λ l. inr l) (taken_others first j o))
      (t.every j ne);
}
  where
    many : length (columns ++ c ∷ []) ≡ length columns + 1
    many = length_push columns c

    before : (k : ℕ) → k < length columns → slice_index (columns ++ c ∷ []) k ≡ slice_index columns k
    before k l = get_or_append_left columns (c ∷ []) 0 k l

    last : (k : ℕ) → length columns ≡ k → slice_index (columns ++ c ∷ []) k ≡ c
    last k e = get_or_push columns c 0 k e

pub all_taken : {marks left columns : List ℕ} → AreTaken marks left columns → AllZero left → ListsMarks marks columns
all_taken {marks} {left} {columns} t zero' = record {
  rising = t.rising;
  marked = t.marked;
  all = λ j ne. ⊎_elim (λ k. k) (λ o. absurd (none_marked left zero' j o)) (t.every j ne);
}

-- the columns of the rows of all pairs
pub marked_occupied : {A : Matrix} {qs : List Pair} {marks columns : List ℕ} → AreMarksOf A qs (length qs) marks → ListsMarks marks columns → AreOccupied (selected A (map (λ (q : Pair). q.row) qs)) columns
marked_occupied {A} {qs} {marks} {columns} are lists = record {
  enough = record {
    rising = lists.rising;
    below = λ k l. omega (arith, marked_inside marks (slice_index columns k) (lists.marked k l), are.long);
    all = λ i j l lj ne.
        let li : i < length qs = omega (arith, selected_height A qs) in
        lists.all j (are.all i j li (λ z. ne (ap (λ w. slice_index w j) (selected_row A qs i li) ∙ z)));
  };
  occupied = λ k l.
      let s = are.some (slice_index columns k) (lists.marked k l) in
      (s.0, omega (arith, s.1, selected_height A qs), (λ z. s.2 (ap (λ w. slice_index w (slice_index columns k)) (sym (selected_row A qs s.0 s.1)) ∙ z)));
}
