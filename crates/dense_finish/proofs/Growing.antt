-- A matrix with one row more, and the pivots with one more.
use Rattle.std.proofs.Common.{ℕ, ◌≡◌, ◌≢◌, ◌+◌, ◌*◌, ◌%◌, ◌<◌, Bool, true, false, inl, inr, List, [], ◌∷◌, ◌++◌, length, slice_index, slice_index_or, sym, ap, subst, ◌∙◌, arith, length-append}
use Rattle.std.proofs.Math.ListN.{get_or-append}
use Rattle.std.proofs.Math.Seq.{get_or-append_seam}
use Rattle.std.proofs.lemmas.Bool.{cases_eq}
use Rattle.std.proofs.lemmas.List.{get_or-set_same, get_or-set_other, length-set}
use Rattle.residue_words.specs.Matrix.{IsVector, entry, row}
use Rattle.residue_words.specs.Residues.{IsPrime}
use Rattle.sparse_rows.specs.Stored.{with_row}
use Rattle.sparse_rows.proofs.Loops.{matrix_more, row_before, row_last}
use Rattle.dense_finish.specs.declared.pivots.Pivots.{Pivots}
use Rattle.dense_rows.specs.Dense.{IsPivotOf, IsPut, IsTaken, KeepsCoefficients}
use Rattle.dense_finish.specs.Pivots.{AddsPivot, AreFound, filled_entry, pivot_at}
use Rattle.dense_rows.proofs.Indexing.{index_or_not}

-- residues that are put make a vector
pub put_vector : {p n m : ℕ} {name value : ℕ → ℕ} {v : List ℕ} → 0 < p → ((k : ℕ) → k < m → value k < p) → IsPut n m name value v → IsVector p n v
put_vector {p} {n} {m} {name} {value} {v} pos small h = record {
  len = h.long;
  residues = λ x l. elim (index_or_not m name x) [
    | inl w ↦ omega (arith, ap (slice_index v) w.2, h.put w.0 w.1, small w.0 w.1)
    | inr none ↦ omega (arith, h.others x l none)
  ];
}

-- their rows of U are as wide as U
pub found_own : {p width i : ℕ} {names : List ℕ} {f : Pivots} → AreFound p names width i f → AreFound p names f.u.matrix.width i f
found_own {p} {width} {i} {names} {f} h = subst (λ n. AreFound p names n i f) (sym h.wide) h

-- the pivots of f stay, and behind them one of row i stands at column c with the row q
pub record Grows (names : List ℕ) (i c : ℕ) (q : List ℕ) (f g : Pivots) : Type 0 where
  pub count : length g.columns.items ≡ length f.columns.items + 1
  pub rows : (k : ℕ) → k < length f.columns.items → slice_index g.rows.items k ≡ slice_index f.rows.items k
  pub row : slice_index g.rows.items (length f.columns.items) ≡ i
  pub columns : (k : ℕ) → k < length f.columns.items → slice_index g.columns.items k ≡ slice_index f.columns.items k
  pub column : slice_index g.columns.items (length f.columns.items) ≡ c
  pub entries : (k j : ℕ) → k < length f.columns.items → j < length names → filled_entry g.u.matrix names k j ≡ filled_entry f.u.matrix names k j
  pub entry : (j : ℕ) → j < length names → filled_entry g.u.matrix names (length f.columns.items) j ≡ slice_index q j

module _ {p width i c : ℕ} {names q : List ℕ} {f g : Pivots} (found : AreFound p names width i f) (extends : AddsPivot names (pivot_at i c q) f g) where
  grown_row : (k : ℕ) → k < length f.columns.items → row g.u.matrix k ≡ row f.u.matrix k
  grown_row k l = ap (λ A. row A k) extends.matrix ∙ row_before extends.row found.matrix k (omega (arith, found.height))

  grown_end : row g.u.matrix (length f.columns.items) ≡ extends.row
  grown_end = ap (λ A. row A (length f.columns.items)) extends.matrix ∙ ap (row (with_row f.u.matrix extends.row)) (sym found.height) ∙ row_last extends.row found.matrix

  pub grows : Grows names i c q f g
  grows = record {
    count = ap length extends.columns ∙ length-append f.columns.items (c ∷ []);
    rows = λ k l. ap (λ xs. slice_index xs k) extends.rows ∙ get_or-append f.rows.items (i ∷ []) 0 k (omega (arith, found.long));
    row = ap (λ xs. slice_index xs (length f.columns.items)) extends.rows ∙ ap (slice_index (f.rows.items ++ i ∷ [])) (sym found.long) ∙ get_or-append_seam f.rows.items i [] 0;
    columns = λ k l. ap (λ xs. slice_index xs k) extends.columns ∙ get_or-append f.columns.items (c ∷ []) 0 k l;
    column = ap (λ xs. slice_index xs (length f.columns.items)) extends.columns ∙ get_or-append_seam f.columns.items c [] 0;
    entries = λ k j l lj. ap (λ v. slice_index v (slice_index names j)) (grown_row k l);
    entry = λ j lj. ap (λ v. slice_index v (slice_index names j)) grown_end ∙ extends.put.put j lj;
  }

-- a column that is not marked is none of the pivots'
pub unmarked : {p width i : ℕ} {names : List ℕ} {f : Pivots} → AreFound p names width i f → (c : ℕ) → slice_index_or f.taken.items c false ≡ false → IsTaken (length f.columns.items) (slice_index f.columns.items) c → ⊥
unmarked {p} {width} {i} {names} {f} found c free t =
    let no_more : true ≡ false = sym (found.marked t.0 t.1) ∙ ap (λ x. slice_index_or f.taken.items x false) t.2 ∙ free in cc

-- what a pivot's row and the coefficients are, of rows of n entries
pub record IsPivotRow (p n c : ℕ) (taken : List Bool) (v q : List ℕ) : Type 0 where
  pub vector : IsVector p n q
  pub one : slice_index q c ≡ 1
  pub before : (j : ℕ) → j < c → slice_index q j ≡ 0
  pub clear : (j : ℕ) → j < n → slice_index_or taken j false ≡ true → slice_index q j ≡ 0
  pub scaled : IsPrime p → (j : ℕ) → j < n → j ≢ c → slice_index_or taken j false ≡ false → slice_index v j % p ≡ (slice_index v c * slice_index q j) % p

pub pivot_row_is : {p n c : ℕ} {taken : List Bool} {v q : List ℕ} → length v ≡ n → IsPivotOf p c taken v q → IsPivotRow p n c taken v q
pivot_row_is {p} {n} {c} {taken} {v} {q} long h = record {
  vector = subst (λ t. IsVector p t q) long h.vector;
  one = h.one;
  before = h.before;
  clear = λ j l t. h.clear j (omega arith) t;
  scaled = λ prime j l d f. h.scaled prime j (omega arith) d f;
}

pub record AreCoefficients (p n c : ℕ) (taken : List Bool) (v w : List ℕ) : Type 0 where
  pub vector : IsVector p n w
  pub lead : slice_index w c ≡ slice_index v c
  pub kept : (j : ℕ) → j < n → slice_index_or taken j false ≡ true → slice_index w j ≡ slice_index v j
  pub clear : (j : ℕ) → j < n → j ≢ c → slice_index_or taken j false ≡ false → slice_index w j ≡ 0

pub coefficients_are : {p n c : ℕ} {taken : List Bool} {v w : List ℕ} → length v ≡ n → KeepsCoefficients p c taken v w → AreCoefficients p n c taken v w
coefficients_are {p} {n} {c} {taken} {v} {w} long h = record {
  vector = subst (λ t. IsVector p t w) long h.vector;
  lead = h.lead;
  kept = λ j l t. h.kept j (omega arith) t;
  clear = λ j l d f. h.clear j (omega arith) d f;
}

-- with the next pivot of a row they are still pivots, of the rows up to this one
pub found_more : {p width i c : ℕ} {names v q : List ℕ} {f g : Pivots} → 0 < p → c < length names → slice_index_or f.taken.items c false ≡ false → AreFound p names width i f →
    AddsPivot names (pivot_at i c q) f g → IsPivotRow p (length names) c f.taken.items v q → AreFound p names width (i + 1) g
found_more {p} {width} {i} {c} {names} {v} {q} {f} {g} pos inside free found extends pivot = record {
  modulus = extends.modulus ∙ found.modulus;
  matrix = rw extends.matrix (matrix_more found.matrix (put_vector pos pivot.vector.residues extends.put));
  wide = ap (λ A. A.width) extends.matrix ∙ found.wide;
  height = ap (λ A. A.height) extends.matrix ∙ ap (λ t. t + 1) found.height ∙ sym grown.count;
  long = ap length extends.rows ∙ length-append f.rows.items (i ∷ []) ∙ ap (λ t. t + 1) found.long ∙ sym grown.count;
  few = omega (arith, grown.count, found.few);
  inside = λ k l. elim (cases_eq k r) [
    | inl e ↦ omega (arith, ap (slice_index g.rows.items) e, grown.row)
    | inr d ↦ omega (arith, grown.rows k (less k l d), found.inside k (less k l d))
  ];
  rising = λ k t a l. elim (cases_eq t r) [
    | inl e ↦ omega (arith, ap (slice_index g.rows.items) e, grown.row, grown.rows k (omega arith), found.inside k (omega arith))
    | inr d ↦ omega (arith, grown.rows t (less t l d), grown.rows k (omega (arith, less t l d)), found.rising k t a (less t l d))
  ];
  steps = record {
    inside = λ k l. elim (cases_eq k r) [
      | inl e ↦ omega (arith, ap (slice_index g.columns.items) e, grown.column)
      | inr d ↦ omega (arith, grown.columns k (less k l d), found.steps.inside k (less k l d))
    ];
    one = λ k l. elim (cases_eq k r) [
      | inl e ↦ ap (λ t. filled_entry g.u.matrix names t (slice_index g.columns.items t)) e ∙ ap (filled_entry g.u.matrix names r) grown.column ∙ grown.entry c inside ∙ pivot.one
      | inr d ↦
          ap (filled_entry g.u.matrix names k) (grown.columns k (less k l d)) ∙ grown.entries k (slice_index f.columns.items k) (less k l d) (found.steps.inside k (less k l d))
          ∙ found.steps.one k (less k l d)
    ];
    later = λ k t a l. elim (cases_eq t r) [
      | inl e ↦
          let low : k < r = omega arith in
          ap (λ s. filled_entry g.u.matrix names s (slice_index g.columns.items k)) e ∙ ap (filled_entry g.u.matrix names r) (grown.columns k low)
          ∙ grown.entry (slice_index f.columns.items k) (found.steps.inside k low) ∙ pivot.clear (slice_index f.columns.items k) (found.steps.inside k low) (found.marked k low)
      | inr d ↦
          let low : k < r = omega (arith, less t l d) in
          ap (filled_entry g.u.matrix names t) (grown.columns k low) ∙ grown.entries t (slice_index f.columns.items k) (less t l d) (found.steps.inside k low) ∙ found.steps.later k t a (less t l d)
    ];
  };
  unnamed = λ k x l lx none. elim (cases_eq k r) [
    | inl e ↦ ap (λ t. entry g.u.matrix t x) e ∙ ap (λ u. slice_index u x) (grown_end found extends) ∙ extends.put.others x (omega (arith, found.wide)) none
    | inr d ↦ ap (λ u. slice_index u x) (grown_row found extends k (less k l d)) ∙ found.unnamed k x (less k l d) lx none
  ];
  marks = ap length extends.taken ∙ length-set f.taken.items c true ∙ found.marks;
  marked = λ k l. elim (cases_eq k r) [
    | inl e ↦ ap (λ t. slice_index_or g.taken.items (slice_index g.columns.items t) false) e ∙ ap (λ x. slice_index_or g.taken.items x false) grown.column ∙ here
    | inr d ↦
        let old : slice_index_or f.taken.items (slice_index f.columns.items k) false ≡ true = found.marked k (less k l d) in
        ap (λ x. slice_index_or g.taken.items x false) (grown.columns k (less k l d)) ∙ ap (λ xs. slice_index_or xs (slice_index f.columns.items k) false) extends.taken
        ∙ get_or-set_other f.taken.items c (slice_index f.columns.items k) true false
        (λ same. let clash : true ≡ false = sym old ∙ ap (λ x. slice_index_or f.taken.items x false) same ∙ free in cc)
        ∙ old
  ];
  only = λ j l t. elim (cases_eq j c) [
    | inl e ↦ (r, omega (arith, grown.count), grown.column ∙ sym e)
    | inr d ↦
        let w = found.only j l (sym (ap (λ xs. slice_index_or xs j false) extends.taken ∙ get_or-set_other f.taken.items c j true false d) ∙ t) in
        (w.0, omega (arith, grown.count, w.1), grown.columns w.0 w.1 ∙ w.2)
  ];
}
  where
    r : ℕ
    r = length f.columns.items

    grown : Grows names i c q f g
    grown = grows found extends

    less : (k : ℕ) → k < length g.columns.items → k ≢ r → k < r
    less k l d = omega (arith, grown.count)

    here : slice_index_or g.taken.items c false ≡ true
    here = ap (λ xs. slice_index_or xs c false) extends.taken ∙ get_or-set_same f.taken.items c true false (omega (arith, found.marks))
