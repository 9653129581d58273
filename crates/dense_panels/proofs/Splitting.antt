-- Rows that split into the rows of pivots and what is left.
use Rattle.std.proofs.Common.{ℕ, ◌≡◌, ◌≢◌, ◌+◌, ◌*◌, ◌%◌, ◌<◌, ◌≤◌, inl, inr, List, length, slice_index, take, sym, refl, ap, ap₂, subst, ◌∙◌, arith, mul-one, mul-zero, mod-eq_of_lt}
use native.Mathlib.Nat.{mod-mod}
use Rattle.std.proofs.lemmas.Bool.{cases_eq}
use Rattle.std.proofs.lemmas.List.{get_or-take, length-take}
use Rattle.residue_words.specs.Matrix.{IsVector}
use Rattle.residue_words.specs.Residues.{sum_below}
use Rattle.residue_words.proofs.Residues.{add_same}
use Rattle.residue_words.proofs.Sums.{sum_equal, sum_more}
use Rattle.row_space.specs.Rows.{HasSteps}
use Rattle.dense_rows.specs.Rows.{block_row}
use Rattle.dense_rows.specs.Dense.{IsTaken, TakesOut}
use Rattle.dense_panels.specs.Panel.{Continues, PanelReduces, PanelRows}
use Rattle.dense_panels.specs.Splitting.{IsSplit, PivotSequence, parts}

-- the panel's first k pivots
abbrev pub first_pivots : ℕ → PanelRows → PanelRows
first_pivots k panel = record { width = panel.width; columns = take k panel.columns; rows = panel.rows }

-- fewer steps
pub steps_front : {r s n : ℕ} {e : ℕ → ℕ → ℕ} {column : ℕ → ℕ} → r ≤ s → HasSteps s n e column → HasSteps r n e column
steps_front le h = record {
  inside = λ k l. h.inside k (omega arith);
  one = λ k l. h.one k (omega arith);
  later = λ k t a b. h.later k t a (omega arith);
}

-- the last pivot's column is none of those before
pub fresh : {r n : ℕ} {e : ℕ → ℕ → ℕ} {column : ℕ → ℕ} → HasSteps (r + 1) n e column → (k : ℕ) → k < r → column k ≡ column r → ⊥
fresh {r} {n} {e} {column} h k l same = omega (arith, h.later k r l (omega arith), h.one r (omega arith), ap (e r) same)

-- with one pivot more, whose column holds the same coefficient
parts_more : (r : ℕ) (e : ℕ → ℕ → ℕ) (column : ℕ → ℕ) (v w : List ℕ) (j : ℕ) → ((k : ℕ) → k < r → slice_index w (column k) ≡ slice_index v (column k)) →
    slice_index w (column r) ≡ slice_index v (column r) → parts (r + 1) e column w j ≡ parts r e column v j + slice_index v (column r) * e r j
parts_more r e column v w j same last =
    sum_more r (λ k. slice_index w (column k) * e k j)
    ∙ ap₂ (λ x y. x + y) (sum_equal r (λ k. slice_index w (column k) * e k j) (λ k. slice_index v (column k) * e k j) (λ k l. ap (λ x. x * e k j) (same k l)))
    (ap (λ x. x * e r j) last)

-- One pivot more: w keeps the coefficients, and elsewhere v is w and the multiple of the pivot's row by v's entry at its column.
pub split_more : {p n r : ℕ} {P : PivotSequence p n} {b v w : List ℕ} → HasSteps (r + 1) n P.entry P.column →
    ((k : ℕ) → k < r → slice_index w (P.column k) ≡ slice_index v (P.column k)) → slice_index w (P.column r) ≡ slice_index v (P.column r) →
    ((j : ℕ) → j < n → (IsTaken r P.column j → ⊥) → j ≢ P.column r → slice_index v j % p ≡ (slice_index w j + slice_index v (P.column r) * P.entry r j) % p) →
    IsSplit P r b v → IsSplit P (r + 1) b w
split_more {p} {n} {r} {P} {b} {v} {w} steps same last rest h = record {
  taken = λ j l t. elim (cases_eq t.0 r) [
    | inl f ↦
        let here : P.column r ≡ j = ap P.column (sym f) ∙ t.2 in
        let term : slice_index v (P.column r) * P.entry r j ≡ slice_index v j =
        ap₂ (λ x y. x * y) (ap (slice_index v) here) (ap (P.entry r) (sym here) ∙ steps.one r (omega arith)) ∙ mul-one (slice_index v j) in
        let sum : parts r P.entry P.column v j + slice_index v j ≡ parts (r + 1) P.entry P.column w j = omega (arith, more j) in
        h.left j l (λ s. fresh steps s.0 s.1 (s.2 ∙ sym here)) ∙ ap (λ x. x % p) sum
    | inr d ↦
        let less : t.0 < r = omega (arith, t.1) in
        let none : slice_index v (P.column r) * P.entry r j ≡ 0 =
        ap (λ y. slice_index v (P.column r) * y) (ap (P.entry r) (sym t.2) ∙ steps.later t.0 r less (omega arith)) ∙ mul-zero (slice_index v (P.column r)) in
        let sum : parts r P.entry P.column v j ≡ parts (r + 1) P.entry P.column w j = omega (arith, more j) in
        h.taken j l (t.0, less, t.2) ∙ ap (λ x. x % p) sum
  ];
  left = λ j l no.
      let sum : parts r P.entry P.column v j + (slice_index w j + slice_index v (P.column r) * P.entry r j) ≡ parts (r + 1) P.entry P.column w j + slice_index w j = omega (arith, more j) in
      let old : IsTaken r P.column j → ⊥ = λ t. no (t.0, omega (arith, t.1), t.2) in
      h.left j l old
      ∙ add_same p (parts r P.entry P.column v j) (parts r P.entry P.column v j) (slice_index v j) (slice_index w j + slice_index v (P.column r) * P.entry r j) refl
      (rest j l old (λ same. no (r, omega arith, sym same)))
      ∙ ap (λ x. x % p) sum;
}
  where
    more : (j : ℕ) → parts (r + 1) P.entry P.column w j ≡ parts r P.entry P.column v j + slice_index v (P.column r) * P.entry r j
    more j = parts_more r P.entry P.column v w j same last

-- with equal columns and rows
pub split_same : {p n r : ℕ} {P Q : PivotSequence p n} {b v : List ℕ} → ((k : ℕ) → k < r → P.column k ≡ Q.column k) →
    ((k j : ℕ) → k < r → j < n → P.entry k j ≡ Q.entry k j) → IsSplit P r b v → IsSplit Q r b v
split_same {p} {n} {r} {P} {Q} {b} {v} stands entries h = record {
  taken = λ j l t. h.taken j l (t.0, t.1, stands t.0 t.1 ∙ t.2) ∙ ap (λ x. x % p) (equal j l);
  left = λ j l no. h.left j l (λ t. no (t.0, t.1, sym (stands t.0 t.1) ∙ t.2)) ∙ ap (λ x. (x + slice_index v j) % p) (equal j l);
}
  where
    equal : (j : ℕ) → j < n → parts r P.entry P.column v j ≡ parts r Q.entry Q.column v j
    equal j l = sum_equal r (λ k. slice_index v (P.column k) * P.entry k j) (λ k. slice_index v (Q.column k) * Q.entry k j)
        (λ k lk. ap₂ (λ x y. x * y) (ap (slice_index v) (stands k lk)) (entries k j lk l))

-- no pivot
pub split_none : {p n : ℕ} {P : PivotSequence p n} {b : List ℕ} → IsSplit P 0 b b
unfolding sum_below
split_none {p} {n} {P} {b} = record {
  taken = λ j l t. absurd (omega (arith, t.1));
  left = λ j l no. let plain : slice_index b j ≡ 0 + slice_index b j = omega arith in ap (λ x. x % p) plain;
}

-- a pivot that is taken out
pub split_taken_out : {p n r c : ℕ} {q : List ℕ} {P : PivotSequence p n} {b v w : List ℕ} → length v ≡ n → c ≡ P.column r → ((j : ℕ) → j < n → P.entry r j ≡ slice_index q j) →
    HasSteps (r + 1) n P.entry P.column → TakesOut p c q v w → IsSplit P r b v → IsSplit P (r + 1) b w
split_taken_out {p} {n} {r} {c} {q} {P} {b} {v} {w} long at row steps out h = split_more {P = P} steps
    (λ k l.
    let inside : P.column k < n = steps.inside k (omega arith) in
    let none : slice_index v c * slice_index q (P.column k) ≡ 0 =
    ap (λ x. slice_index v c * x) (sym (row (P.column k) inside) ∙ steps.later k r l (omega arith)) ∙ mul-zero (slice_index v c) in
    let plain : slice_index w (P.column k) + slice_index v c * slice_index q (P.column k) ≡ slice_index w (P.column k) = omega arith in
    sym (out.sum (P.column k) (omega arith) (λ same. fresh steps k l (same ∙ at)) ∙ ap (λ x. x % p) plain ∙ mod-eq_of_lt (out.vector.residues (P.column k) (omega arith))))
    (ap (slice_index w) (sym at) ∙ out.coefficient ∙ ap (slice_index v) at)
    (λ j l no other.
    ap (λ x. x % p) (out.sum j (omega arith) (λ same. other (same ∙ at))) ∙ mod-mod (slice_index w j + slice_index v c * slice_index q j) p
    ∙ ap₂ (λ x y. (slice_index w j + x * y) % p) (ap (slice_index v) at) (sym (row j l))) h

-- a panel without a pivot leaves all
pub reduces_empty : {p : ℕ} (panel : PanelRows) {v : List ℕ} → length panel.columns ≡ 0 → IsVector p panel.width v → PanelReduces p panel v v
reduces_empty {p} panel {v} none vector = record {
  vector = vector;
  split = λ P r b continues steps h. let all : r ≡ r + length panel.columns = omega (arith, none) in subst (λ t. IsSplit P t b v) all h;
}

-- none of the pivots is taken out yet
pub reduces_none : {p : ℕ} (panel : PanelRows) {v : List ℕ} → IsVector p panel.width v → PanelReduces p (first_pivots 0 panel) v v
reduces_none panel vector = reduces_empty (first_pivots 0 panel) refl vector

-- one more is
pub reduces_more : {p : ℕ} (panel : PanelRows) {v w x : List ℕ} (k : ℕ) → k < length panel.columns → PanelReduces p (first_pivots k panel) v w →
    TakesOut p (slice_index panel.columns k) (block_row panel.rows k) w x → PanelReduces p (first_pivots (k + 1) panel) v x
reduces_more {p} panel {v} {w} {x} k l h out = record {
  vector = subst (λ n. IsVector p n x) h.vector.len out.vector;
  split = λ P r b continues steps before.
      let columns = panel.columns in
      let here : slice_index columns k ≡ P.column (r + k) = sym (continues.stands k (omega (arith, more)) ∙ get_or-take _ columns _ 0 (omega arith)) in
      let first : HasSteps (r + k + 1) panel.width P.entry P.column = steps_front (omega (arith, more)) steps in
      let old : IsSplit P (r + k) b w =
      subst (λ t. IsSplit P (r + t) b w) fewer
      (h.split P r b (record {
        stands = λ t lt. continues.stands t (omega (arith, more, fewer)) ∙ get_or-take _ columns _ 0 (omega (arith, fewer)) ∙ sym (get_or-take _ columns _ 0 (omega (arith, fewer)));
        entries = λ t j lt lj. continues.entries t j (omega (arith, more, fewer)) lj;
      }) (steps_front (omega (arith, more, fewer)) steps) before) in
      let next : r + k + 1 ≡ r + length (take (k + 1) columns) = omega (arith, more) in
      subst (λ t. IsSplit P t b x) next
      (split_taken_out h.vector.len here (λ j lj. continues.entries k j (omega (arith, more)) lj) first out old);
}
  where
    fewer : length (take k panel.columns) ≡ k
    fewer = omega (arith, length-take k panel.columns)

    more : length (take (k + 1) panel.columns) ≡ k + 1
    more = omega (arith, length-take (k + 1) panel.columns)

-- what the panel leaves, where its rows have n entries
pub split_panel : {p n : ℕ} {panel : PanelRows} {v w : List ℕ} → panel.width ≡ n → PanelReduces p panel v w → (P : PivotSequence p n) (r : ℕ) (b : List ℕ) → Continues P r panel →
    HasSteps (r + length panel.columns) n P.entry P.column → IsSplit P r b v → IsSplit P (r + length panel.columns) b w
split_panel {p} {n} {panel} {v} {w} wide h = subst (λ m. (P : PivotSequence p m) (r : ℕ) (b : List ℕ) → Continues P r panel →
    HasSteps (r + length panel.columns) m P.entry P.column → IsSplit P r b v → IsSplit P (r + length panel.columns) b w) wide h.split
