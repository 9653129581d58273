-- The rows of a block while it is eliminated.
use Rattle.std.proofs.Common.{ℕ, ◌≡◌, ◌≢◌, ◌+◌, ◌*◌, ◌%◌, ◌<◌, ◌≤◌, ◌⊎◌, Bool, true, false, inl, inr, List, [], ◌∷◌, ◌++◌, length, slice_index, slice_index_or, slice_set, sym, refl, ap, ap₂, subst, ◌∙◌, arith, add-zero, zero-add, zero-mul, length-append}
use Rattle.std.proofs.Math.ListN.{get_or-append}
use Rattle.std.proofs.Math.Seq.{get_or-append_seam}
use Rattle.std.proofs.lemmas.Bool.{cases_eq, cases_lt}
use Rattle.std.proofs.lemmas.List.{get_or-set_same, get_or-set_other, length-set}
use Rattle.residue_words.specs.Matrix.{IsVector}
use Rattle.residue_words.specs.Residues.{IsPrime}
use Rattle.row_space.specs.Rows.{HasSteps}
use Rattle.dense_finish.specs.declared.pivots.Pivots.{Pivots}
use Rattle.dense_rows.specs.Rows.{block_row, entry_of}
use Rattle.dense_panels.specs.Panel.{PanelReduces, PanelRows, no_pivots, with_pivot}
use Rattle.dense_finish.specs.Pivots.{AreEliminated, AreFound, AreSplit, IsPanelFrom, filled_entry, pivot_sequence, stage}
use Rattle.dense_panels.specs.Splitting.{IsSplit}
use Rattle.dense_rows.specs.Dense.{IsTaken}
use Rattle.dense_finish.proofs.Growing.{AreCoefficients, Grows, IsPivotRow, unmarked}
use Rattle.dense_panels.proofs.Splitting.{split_more, split_none, split_panel, split_same}

pub cases_bool : (b : Bool) → (b ≡ true) ⊎ (b ≡ false)
cases_bool true = inl refl
cases_bool false = inr refl

-- row i becomes w
pub record Changes (i : ℕ) (w : List ℕ) (old new : List (List ℕ)) : Type 0 where
  pub long : length new ≡ length old
  pub here : (t : ℕ) → t ≡ i → block_row new t ≡ w
  pub others : (t : ℕ) → t ≢ i → block_row new t ≡ block_row old t

pub changes_set : (rows : List (List ℕ)) (i : ℕ) (w : List ℕ) → i < length rows → Changes i w rows (slice_set rows i w)
changes_set rows i w l = record {
  long = length-set rows i w;
  here = λ t e. ap (block_row (slice_set rows i w)) e ∙ get_or-set_same rows i w [] l;
  others = λ t d. get_or-set_other rows i t w [] d;
}

pub changes_twice : {i : ℕ} {v w : List ℕ} {old mid new : List (List ℕ)} → Changes i v old mid → Changes i w mid new → Changes i w old new
changes_twice a b = record { long = b.long ∙ a.long; here = b.here; others = λ t d. b.others t d ∙ a.others t d }

-- of a changed row i, what holds of w
changed : (P : List ℕ → Type 0) {i : ℕ} {w : List ℕ} {old new : List (List ℕ)} → Changes i w old new → P w → (t : ℕ) → (t ≢ i → P (block_row old t)) → P (block_row new t)
changed P {i} {w} {old} {new} h here t other = elim (cases_eq t i) [ inl e ↦ subst P (sym (h.here t e)) here | inr d ↦ subst P (sym (h.others t d)) (other d) ]

-- row i holds coefficients alone
pub eliminated_same : {p n width i : ℕ} {names w : List ℕ} {f : Pivots} {old new : List (List ℕ)} → AreFound p names width i f → Changes i w old new → IsVector p n w →
    ((j : ℕ) → j < n → (IsTaken (length f.columns.items) (slice_index f.columns.items) j → ⊥) → slice_index w j ≡ 0) → AreEliminated p n i f old → AreEliminated p n (i + 1) f new
eliminated_same {p} {n} {width} {i} {names} {w} {f} {old} {new} found h vector clear before = record {
  vectors = λ t l. changed (IsVector p n) h vector t (λ d. before.vectors t (omega (arith, h.long)));
  clear = λ t j l lj none. changed (λ v. slice_index v j ≡ 0) h (clear j lj none) t (λ d. before.clear t j (omega arith) lj none);
  leads = λ k l z. before.leads k l (sym (same k (slice_index f.columns.items k) l) ∙ z);
  after = λ t k l a. ap (λ v. slice_index v (slice_index f.columns.items k)) (h.others t (λ e. omega (arith, found.inside k l))) ∙ before.after t k l a;
}
  where
    same : (k j : ℕ) → k < length f.columns.items → entry_of new (slice_index f.rows.items k) j ≡ entry_of old (slice_index f.rows.items k) j
    same k j l = ap (λ v. slice_index v j) (h.others (slice_index f.rows.items k) (λ e. omega (arith, found.inside k l)))

-- row i is the next pivot's
pub eliminated_more : {p width i c : ℕ} {names q v w : List ℕ} {f g : Pivots} {old new : List (List ℕ)} → AreFound p names width i f → Grows names i c q f g → Changes i w old new →
    c < length names → slice_index_or f.taken.items c false ≡ false → slice_index v c ≢ 0 → AreCoefficients p (length names) c f.taken.items v w →
    AreEliminated p (length names) i f old → AreEliminated p (length names) (i + 1) g new
eliminated_more {p} {width} {i} {c} {names} {q} {v} {w} {f} {g} {old} {new} found grown h inside free nonzero kept before = record {
  vectors = λ t l. changed (IsVector p (length names)) h kept.vector t (λ d. before.vectors t (omega (arith, h.long)));
  clear = λ t j l lj none.
      let fewer : IsTaken r (slice_index f.columns.items) j → ⊥ = λ s. none (s.0, omega (arith, s.1, grown.count), grown.columns s.0 s.1 ∙ s.2) in
      let last : j ≢ c = λ e. none (r, omega (arith, grown.count), grown.column ∙ sym e) in
      changed (λ u. slice_index u j ≡ 0) h
      (elim (cases_bool (slice_index_or f.taken.items j false)) [
        | inl marked ↦ absurd (fewer (found.only j lj marked))
        | inr unmarked ↦ kept.clear j lj last unmarked
      ]) t (λ d. before.clear t j (omega arith) lj fewer);
  leads = λ k l z. elim (cases_eq k r) [
    | inl e ↦
        nonzero (sym kept.lead ∙ ap (λ u. slice_index u c) (sym (h.here (slice_index g.rows.items k) (ap (slice_index g.rows.items) e ∙ grown.row)))
        ∙ ap (slice_index (block_row new (slice_index g.rows.items k))) (sym (ap (slice_index g.columns.items) e ∙ grown.column)) ∙ z)
    | inr d ↦
        let low : k < r = omega (arith, grown.count) in
        before.leads k low (sym (same k (slice_index f.columns.items k) low) ∙ ap (entry_of new (slice_index g.rows.items k)) (sym (grown.columns k low)) ∙ z)
  ];
  after = λ t k l a. elim (cases_eq k r) [
    | inl e ↦
        let less : t < i = omega (arith, ap (slice_index g.rows.items) e, grown.row) in
        ap (entry_of new t) (ap (slice_index g.columns.items) e ∙ grown.column) ∙ ap (λ u. slice_index u c) (h.others t (λ z. omega arith))
        ∙ before.clear t c less inside (unmarked found c free)
    | inr d ↦
        let low : k < r = omega (arith, grown.count) in
        ap (entry_of new t) (grown.columns k low) ∙ ap (λ u. slice_index u (slice_index f.columns.items k)) (h.others t (λ z. omega (arith, grown.rows k low, found.inside k low)))
        ∙ before.after t k low (omega (arith, grown.rows k low))
  ];
}
  where
    r : ℕ
    r = length f.columns.items

    same : (k j : ℕ) → k < r → entry_of new (slice_index g.rows.items k) j ≡ entry_of old (slice_index f.rows.items k) j
    same k j l =
        ap (λ t. entry_of new t j) (grown.rows k l) ∙ ap (λ u. slice_index u j) (h.others (slice_index f.rows.items k) (λ e. omega (arith, found.inside k l)))

-- the rows behind the first i are changed
pub eliminated_behind : {p n width i : ℕ} {names : List ℕ} {f : Pivots} {old new : List (List ℕ)} → AreFound p names width i f → length new ≡ length old → ((t : ℕ) → t < i → block_row new t ≡ block_row old t) →
    ((t : ℕ) → i ≤ t → t < length old → IsVector p n (block_row new t)) → AreEliminated p n i f old → AreEliminated p n i f new
eliminated_behind {p} {n} {width} {i} {names} {f} {old} {new} found long same vectors before = record {
  vectors = λ t l. elim (cases_lt t i) [
    | inl less ↦ subst (IsVector p n) (sym (same t less)) (before.vectors t (omega arith))
    | inr more ↦ vectors t more (omega arith)
  ];
  clear = λ t j l lj none. ap (λ v. slice_index v j) (same t l) ∙ before.clear t j l lj none;
  leads = λ k l z. before.leads k l (sym (ap (λ v. slice_index v (slice_index f.columns.items k)) (same (slice_index f.rows.items k) (found.inside k l))) ∙ z);
  after = λ t k l a. ap (λ v. slice_index v (slice_index f.columns.items k)) (same t (omega (arith, found.inside k l))) ∙ before.after t k l a;
}

-- what the panel's pivots leave of a row splits by all pivots
pub reduced_split : {p r : ℕ} {names b v w : List ℕ} {panel : PanelRows} {f : Pivots} → IsPanelFrom p names r f panel →
    HasSteps (length f.columns.items) (length names) (filled_entry f.u.matrix names) (slice_index f.columns.items) → PanelReduces p panel v w →
    IsSplit (pivot_sequence p names f) r b v →
    IsSplit (pivot_sequence p names f) (length f.columns.items) b w
reduced_split {p} {r} {names} {b} {v} {w} {panel} {f} h steps reduces split =
    let P = pivot_sequence p names f in
    subst (λ t. IsSplit P t b w) h.total
    (split_panel h.wide reduces P r b h.continues (subst (λ t. HasSteps t (length names) P.entry P.column) (sym h.total) steps) split)

-- row i splits by all pivots
pub split_row : {p r i : ℕ} {names w : List ℕ} {block old new : List (List ℕ)} {f : Pivots} → Changes i w old new →
    IsSplit (pivot_sequence p names f) (length f.columns.items) (block_row block i) w → AreSplit p names r block (stage f old i) → AreSplit p names r block (stage f new (i + 1))
split_row {p} {r} {i} {names} {w} {block} {old} {new} {f} h here before = record {
  long = h.long ∙ before.long;
  done = λ t l lb. elim (cases_eq t i) [
    | inl e ↦ subst (IsSplit (pivot_sequence p names f) (length f.columns.items) (block_row block t)) (sym (h.here t e))
        (subst (λ s. IsSplit (pivot_sequence p names f) (length f.columns.items) (block_row block s) w) (sym e) here)
    | inr d ↦ subst (IsSplit (pivot_sequence p names f) (length f.columns.items) (block_row block t)) (sym (h.others t d)) (before.done t (omega arith) lb)
  ];
  ahead = λ t l lb. subst (IsSplit (pivot_sequence p names f) r (block_row block t)) (sym (h.others t (λ e. omega arith))) (before.ahead t (omega arith) lb);
}

-- with the next pivot, of row i, whose reduced row is v
pub split_pivot : {p r width i c : ℕ} {names q v w : List ℕ} {block old : List (List ℕ)} {f g : Pivots} → IsPrime p → r ≤ length f.columns.items → AreFound p names width i f →
    AreFound p names width (i + 1) g → Grows names i c q f g → c < length names → slice_index_or f.taken.items c false ≡ false → IsPivotRow p (length names) c f.taken.items v q →
    AreCoefficients p (length names) c f.taken.items v w → AreEliminated p (length names) i f old →
    IsSplit (pivot_sequence p names f) (length f.columns.items) (block_row block i) v → AreSplit p names r block (stage f old i) →
    IsSplit (pivot_sequence p names g) (length g.columns.items) (block_row block i) w × AreSplit p names r block (stage g old i)
split_pivot {p} {r} {width} {i} {c} {names} {q} {v} {w} {block} {old} {f} {g} prime le found found_then grown inside free pivot kept eliminated here before = (
  longer (block_row block i) w (split_more {P = pivot_sequence p names g} steps
      (λ k l. ap (slice_index w) (grown.columns k l) ∙ kept.kept (slice_index f.columns.items k) (found.steps.inside k l) (found.marked k l) ∙ ap (slice_index v) (sym (grown.columns k l)))
      (ap (slice_index w) grown.column ∙ kept.lead ∙ ap (slice_index v) (sym grown.column))
      (λ j l none other.
      let last : j ≢ c = λ same. other (same ∙ sym grown.column) in
      elim (cases_bool (slice_index_or f.taken.items j false)) [
        | inl marked ↦ let t = found.only j l marked in absurd (none (t.0, t.1, grown.columns t.0 t.1 ∙ t.2))
        | inr unmarked ↦
            pivot.scaled prime j l last unmarked
            ∙ ap (λ x. x % p) (ap₂ (λ x y. slice_index v x * y) (sym grown.column) (sym (grown.entry j l)) ∙ sym (zero-add (slice_index v (slice_index g.columns.items s) * filled_entry g.u.matrix names s j)))
            ∙ ap (λ x. (x + slice_index v (slice_index g.columns.items s) * filled_entry g.u.matrix names s j) % p) (sym (kept.clear j l last unmarked))
      ]) (turned s (omega arith) (block_row block i) v here)),
  record {
    long = before.long;
    done = λ t l lb.
        let none : slice_index (block_row old t) (slice_index g.columns.items s) ≡ 0 =
        ap (slice_index (block_row old t)) grown.column ∙ eliminated.clear t c l inside (unmarked found c free) in
        longer (block_row block t) (block_row old t)
        (split_more {P = pivot_sequence p names g} steps (λ k lk. refl) refl
        (λ j lj out other.
        ap (λ x. x % p) (sym (ap (λ x. slice_index (block_row old t) j + x * filled_entry g.u.matrix names s j) none ∙ ap (λ x. slice_index (block_row old t) j + x) (zero-mul (filled_entry g.u.matrix names s j))
        ∙ add-zero (slice_index (block_row old t) j)))) (turned s (omega arith) (block_row block t) (block_row old t) (before.done t l lb)));
    ahead = λ t l lb. turned r le (block_row block t) (block_row old t) (before.ahead t l lb);
  },
)
  where
    s : ℕ
    s = length f.columns.items

    steps : HasSteps (s + 1) (length names) (filled_entry g.u.matrix names) (slice_index g.columns.items)
    steps = subst (λ t. HasSteps t (length names) (filled_entry g.u.matrix names) (slice_index g.columns.items)) grown.count found_then.steps

    turned : (t : ℕ) → t ≤ s → (b u : List ℕ) → IsSplit (pivot_sequence p names f) t b u →
        IsSplit (pivot_sequence p names g) t b u
    turned t lt b u h = split_same (λ k l. sym (grown.columns k (omega arith))) (λ k j l lj. sym (grown.entries k j (omega arith) lj)) h

    longer : (b u : List ℕ) → IsSplit (pivot_sequence p names g) (s + 1) b u →
        IsSplit (pivot_sequence p names g) (length g.columns.items) b u
    longer b u h = subst (λ t. IsSplit (pivot_sequence p names g) t b u) (sym grown.count) h

-- the panel's pivots are taken from the rows behind the first i
pub split_behind : {p r i : ℕ} {names : List ℕ} {panel : PanelRows} {block old new : List (List ℕ)} {f : Pivots} → IsPanelFrom p names r f panel →
    HasSteps (length f.columns.items) (length names) (filled_entry f.u.matrix names) (slice_index f.columns.items) → length new ≡ length old → ((t : ℕ) → t < i → block_row new t ≡ block_row old t) →
    ((t : ℕ) → i ≤ t → t < length old → PanelReduces p panel (block_row old t) (block_row new t)) → AreSplit p names r block (stage f old i) → AreSplit p names (length f.columns.items) block (stage f new i)
split_behind {p} {r} {i} {names} {panel} {block} {old} {new} {f} h steps long same behind before = record {
  long = long ∙ before.long;
  done = λ t l lb. subst (IsSplit (pivot_sequence p names f) (length f.columns.items) (block_row block t)) (sym (same t l)) (before.done t l lb);
  ahead = λ t l lb. reduced_split h steps (behind t l (omega (arith, before.long))) (before.ahead t l lb);
}

-- no row is taken yet
pub split_begins : {p : ℕ} (names : List ℕ) (block : List (List ℕ)) (f : Pivots) → length f.columns.items ≡ 0 → AreSplit p names (length f.columns.items) block (stage f block 0)
split_begins {p} names block f none = record {
  long = refl;
  done = λ t l lb. absurd (omega arith);
  ahead = λ t l lb. subst (λ r. IsSplit (pivot_sequence p names f) r (block_row block t) (block_row block t)) (sym none) split_none;
}

pub eliminated_begins : {p n : ℕ} (block : List (List ℕ)) (f : Pivots) → length f.columns.items ≡ 0 → ((t : ℕ) → t < length block → IsVector p n (block_row block t)) → AreEliminated p n 0 f block
eliminated_begins block f none vectors = record {
  vectors = vectors;
  clear = λ t j l lj out. absurd (omega arith);
  leads = λ k l. absurd (omega arith);
  after = λ t k l a. absurd (omega arith);
}

-- a panel without a pivot
pub panel_begins : {p : ℕ} (names : List ℕ) (f : Pivots) → IsPanelFrom p names (length f.columns.items) f (no_pivots (length names))
panel_begins {p} names f =
    record {
      wide = refl;
      pivots = record {
        long = refl;
        inside = λ k l. absurd (omega arith);
        vectors = λ k l. absurd (omega arith);
        before = λ k j l. absurd (omega arith);
      };
      total = omega arith;
      continues = record { stands = λ k l. absurd (omega arith); entries = λ k j l. absurd (omega arith) };
    }

-- and with one more
pub panel_more : {p r i c : ℕ} {names q v : List ℕ} {old_panel : PanelRows} {f g : Pivots} → Grows names i c q f g → c < length names →
    IsPivotRow p (length names) c f.taken.items v q → IsPanelFrom p names r f old_panel → IsPanelFrom p names r g (with_pivot old_panel c q)
panel_more {p} {r} {i} {c} {names} {q} {v} {old_panel} {f} {g} grown inside pivot panel = record {
  wide = panel.wide;
  pivots = record {
    long = length-append rows (q ∷ []) ∙ ap (λ t. t + 1) panel.pivots.long ∙ sym long;
    inside = λ k l. elim (cases_eq k m) [
      | inl e ↦ omega (arith, last k e, panel.wide)
      | inr d ↦ omega (arith, old k (omega (arith, long)), panel.pivots.inside k (omega (arith, long)))
    ];
    vectors = λ k l. elim (cases_eq k m) [
      | inl e ↦ subst (IsVector p old_panel.width) (sym (last_row k e)) (subst (λ n. IsVector p n q) (sym panel.wide) pivot.vector)
      | inr d ↦ subst (IsVector p old_panel.width) (sym (old_row k (omega (arith, long)))) (panel.pivots.vectors k (omega (arith, long)))
    ];
    before = λ k j l lj. elim (cases_eq k m) [
      | inl e ↦ ap (λ u. slice_index u j) (last_row k e) ∙ pivot.before j (omega (arith, last k e))
      | inr d ↦ ap (λ u. slice_index u j) (old_row k (omega (arith, long))) ∙ panel.pivots.before k j (omega (arith, long)) (omega (arith, old k (omega (arith, long))))
    ];
  };
  total = omega (arith, long, panel.total, grown.count);
  continues = record {
    stands = λ k l. elim (cases_eq k m) [
      | inl e ↦ let end : r + k ≡ length f.columns.items = omega (arith, panel.total) in ap (slice_index g.columns.items) end ∙ grown.column ∙ sym (last k e)
      | inr d ↦
          let low : k < m = omega (arith, long) in
          grown.columns (r + k) (omega (arith, panel.total)) ∙ panel.continues.stands k low ∙ sym (old k low)
    ];
    entries = λ k j l lj. elim (cases_eq k m) [
      | inl e ↦
          let end : r + k ≡ length f.columns.items = omega (arith, panel.total) in
          ap (λ t. filled_entry g.u.matrix names t j) end ∙ grown.entry j lj ∙ ap (λ u. slice_index u j) (sym (last_row k e))
      | inr d ↦
          let low : k < m = omega (arith, long) in
          grown.entries (r + k) j (omega (arith, panel.total)) lj ∙ panel.continues.entries k j low lj ∙ ap (λ u. slice_index u j) (sym (old_row k low))
    ];
  };
}
  where
    columns : List ℕ
    columns = old_panel.columns

    rows : List (List ℕ)
    rows = old_panel.rows

    columns_then : List ℕ
    columns_then = columns ++ c ∷ []

    rows_then : List (List ℕ)
    rows_then = rows ++ q ∷ []

    m : ℕ
    m = length columns

    long : length columns_then ≡ m + 1
    long = length-append columns (c ∷ [])

    last : (k : ℕ) → k ≡ m → slice_index columns_then k ≡ c
    last k e = ap (slice_index columns_then) e ∙ get_or-append_seam columns c [] 0

    old : (k : ℕ) → k < m → slice_index columns_then k ≡ slice_index columns k
    old k l = get_or-append columns (c ∷ []) 0 k l

    last_row : (k : ℕ) → k ≡ m → block_row rows_then k ≡ q
    last_row k e = ap (block_row rows_then) (e ∙ sym panel.pivots.long) ∙ get_or-append_seam rows q [] []

    old_row : (k : ℕ) → k < m → block_row rows_then k ≡ block_row rows k
    old_row k l = get_or-append rows (q ∷ []) [] k (omega (arith, panel.pivots.long))
