-- Rows reduced by what a panel leaves of unit rows.
use Rattle.std.proofs.Common.{ℕ, ◌≡◌, ◌≢◌, ◌+◌, ◌-◌, ◌*◌, ◌%◌, ◌<◌, inl, inr, List, length, slice_index, sym, refl, ap, ◌∙◌, arith, mul-one, mul-zero, zero-mul}
use Rattle.std.proofs.lemmas.Bool.{cases_lt}
use Rattle.std.proofs.lemmas.List.{get_or-set_other, get_or-set_same}
use Rattle.residue_words.specs.Matrix.{IsVector, zeros}
use Rattle.residue_words.specs.Residues.{sum_below}
use Rattle.residue_words.proofs.Residues.{add_same, mul_same}
use Rattle.residue_words.proofs.Sums.{sum_add, sum_equal, sum_front, sum_pair, sum_same, sum_single, sum_zero}
use Rattle.residue_words.proofs.Vectors.{at_zeros, length_list_of}
use Rattle.row_space.specs.Rows.{HasSteps}
use Rattle.dense_rows.specs.Rows.{block_row, entry_of}
use Rattle.dense_rows.specs.Dense.{IsCleared}
use Rattle.dense_panels.specs.Panel.{ArePivots, Continues, PanelReduces, PanelRows}
use Rattle.dense_panels.specs.Splitting.{IsSplit, PivotSequence, parts}
use Rattle.dense_panels.specs.Units.{AreUnits, unit_row}
use Rattle.dense_panels.proofs.Splitting.{fresh, steps_front}

-- a unit row at its column, and at another
unit_on : (n c : ℕ) → c < n → slice_index (unit_row n c) c ≡ 1
unit_on n c l = get_or-set_same (zeros n) c 1 0 (omega (arith, length_list_of n (λ j. 0)))

pub unit_off : (n c j : ℕ) → j < n → j ≢ c → slice_index (unit_row n c) j ≡ 0
unit_off n c j l d = get_or-set_other (zeros n) c j 1 0 d ∙ at_zeros n j l

-- v0 is v without the entries at the panel's columns, and w is v0 and the units' rows, each as often as v has its column's entry
module _ (p from : ℕ) (panel : PanelRows) (units : List (List ℕ)) (v v0 w : List ℕ) (pivots : ArePivots p panel) (are : AreUnits p panel from units) (vector : IsVector p panel.width v)
    (cleared : IsCleared p (length panel.columns) (slice_index panel.columns) v v0) (made : (j : ℕ) → j < panel.width →
    slice_index w j % p ≡ (slice_index v0 j + sum_below (length panel.columns) (λ k. slice_index v (slice_index panel.columns k) * entry_of units k j)) % p) where
  abbrev n : ℕ
  n = panel.width

  abbrev s : ℕ
  s = length panel.columns

  abbrev col : ℕ → ℕ
  col k = slice_index panel.columns k

  abbrev times : ℕ → ℕ
  times k = slice_index v (col k)

  module _ (P : PivotSequence p panel.width) (r : ℕ) (b : List ℕ) (continues : Continues P r panel) (steps : HasSteps (r + length panel.columns) panel.width P.entry P.column) (h : IsSplit P r b v) where
    apart : (t k : ℕ) → t < r → k < s → P.column t ≢ col k
    apart t k lt lk same = fresh {r = r + k} (steps_front (omega arith) steps) t (omega arith) (same ∙ sym (continues.stands k lk))

    distinct : (k m : ℕ) → k < m → m < s → col k ≢ col m
    distinct k m less lm same = fresh {r = r + m} (steps_front (omega arith) steps) (r + k) (omega arith) (continues.stands k (omega arith) ∙ same ∙ sym (continues.stands m lm))

    other : (k m : ℕ) → k < s → m < s → k ≢ m → col m ≢ col k
    other k m lk lm d same = elim (cases_lt k m) [ inl less ↦ distinct k m less lm (sym same) | inr more ↦ distinct m k (omega arith) lk same ]

    -- the units stand apart from the pivots before the panel
    unit_parts : (k j : ℕ) → k < s → parts r P.entry P.column (unit_row n (col k)) j ≡ 0
    unit_parts k j l =
        sum_zero r (λ t. slice_index (unit_row n (col k)) (P.column t) * P.entry t j)
        (λ t lt. ap (λ x. x * P.entry t j) (unit_off n (col k) (P.column t) (steps.inside t (omega arith)) (apart t k lt l)) ∙ zero-mul (P.entry t j))

    unit_split : (k : ℕ) → k < s → IsSplit P r (unit_row n (col k)) (unit_row n (col k))
    unit_split k l = record {
      taken = λ j lj t. ap (λ x. x % p) (unit_off n (col k) j lj (λ e. apart t.0 k t.1 l (t.2 ∙ e)) ∙ sym (unit_parts k j l));
      left = λ j lj no. ap (λ x. x % p) (omega (arith, unit_parts k j l));
    }

    units_split : (k : ℕ) → k < s → IsSplit P (r + s) (unit_row n (col k)) (block_row units k)
    units_split k l = (are.reduced k (omega (arith, are.long))).split P r (unit_row n (col k)) continues steps (unit_split k l)

    -- what v has at the panel's columns
    abbrev at_columns : ℕ → ℕ
    at_columns j = sum_below s (λ k. times k * slice_index (unit_row n (col k)) j)

    at_column : (j m : ℕ) → m < s → col m ≡ j → at_columns j ≡ slice_index v j
    at_column j m l same =
        sum_single s (λ k. times k * slice_index (unit_row n (col k)) j) m l
        (λ k lk d. ap (λ x. times k * x) (unit_off n (col k) j (omega (arith, pivots.inside m l)) (λ e. other k m lk l d (same ∙ e))) ∙ mul-zero (times k))
        ∙ ap (λ x. times m * x) (ap (slice_index (unit_row n (col m))) (sym same) ∙ unit_on n (col m) (pivots.inside m l)) ∙ mul-one (times m) ∙ ap (slice_index v) same

    at_no_column : (j : ℕ) → j < n → ((k : ℕ) → k < s → j ≢ col k) → at_columns j ≡ 0
    at_no_column j l off = sum_zero s (λ k. times k * slice_index (unit_row n (col k)) j) (λ k lk. ap (λ x. times k * x) (unit_off n (col k) j l (off k lk)) ∙ mul-zero (times k))

    -- v0's parts are those of v by the pivots before the panel
    front : (j : ℕ) → parts (r + s) P.entry P.column v0 j ≡ parts r P.entry P.column v j
    front j =
        sum_front (r + s) r (λ t. slice_index v0 (P.column t) * P.entry t j) (omega arith)
        (λ t le lt.
        let k : ℕ = t - r in
        let lk : k < s = omega arith in
        let place : r + k ≡ t = omega arith in
        let column : col k ≡ P.column t = sym (continues.stands k lk) ∙ ap P.column place in
        ap (λ x. x * P.entry t j) (cleared.clear (P.column t) (omega (arith, vector.len, steps.inside t lt)) (k, lk, column)) ∙ zero-mul (P.entry t j))
        ∙ sum_equal r (λ t. slice_index v0 (P.column t) * P.entry t j) (λ t. slice_index v (P.column t) * P.entry t j)
        (λ t lt. ap (λ x. x * P.entry t j) (cleared.kept (P.column t) (omega (arith, vector.len, steps.inside t (omega arith))) (λ u. apart t u.0 lt u.1 (sym u.2))))

    -- the parts of w
    whole : (j : ℕ) → parts (r + s) P.entry P.column w j % p ≡ (parts r P.entry P.column v j + sum_below s (λ k. times k * parts (r + s) P.entry P.column (block_row units k) j)) % p
    whole j =
        let sum : ℕ → ℕ = λ x. sum_below s (λ k. times k * entry_of units k x) in
        sum_same p (r + s) (λ t. slice_index w (P.column t) * P.entry t j) (λ t. (slice_index v0 (P.column t) + sum (P.column t)) * P.entry t j)
        (λ t l. mul_same p (slice_index w (P.column t)) (slice_index v0 (P.column t) + sum (P.column t)) (P.entry t j) (P.entry t j) (made (P.column t) (steps.inside t l)) refl)
        ∙ ap (λ x. x % p) (
        sum_equal (r + s) (λ t. (slice_index v0 (P.column t) + sum (P.column t)) * P.entry t j) (λ t. slice_index v0 (P.column t) * P.entry t j + sum (P.column t) * P.entry t j) (λ t l. omega arith)
        ∙ sum_add (r + s) (λ t. slice_index v0 (P.column t) * P.entry t j) (λ t. sum (P.column t) * P.entry t j)
        ∙ (λ i. front j i + sym (sum_pair s (r + s) times (λ k t. entry_of units k (P.column t)) (λ t. P.entry t j)) i))

    pub now_split : IsSplit P (r + s) b w
    now_split = record {
      taken = λ j l t.
          let same : parts (r + s) P.entry P.column w j % p ≡ (parts r P.entry P.column v j + at_columns j) % p =
          whole j ∙ add_same p (parts r P.entry P.column v j) (parts r P.entry P.column v j) (sum_below s (λ k. times k * parts (r + s) P.entry P.column (block_row units k) j)) (at_columns j) refl
          (sum_same p s (λ k. times k * parts (r + s) P.entry P.column (block_row units k) j) (λ k. times k * slice_index (unit_row n (col k)) j)
          (λ k lk. mul_same p (times k) (times k) (parts (r + s) P.entry P.column (block_row units k) j) (slice_index (unit_row n (col k)) j) refl (sym ((units_split k lk).taken j l t)))) in
          elim (cases_lt t.0 r) [
            | inl before ↦
                let none : at_columns j ≡ 0 = at_no_column j l (λ k lk e. apart t.0 k before lk (t.2 ∙ e)) in
                let plain : parts r P.entry P.column v j ≡ parts r P.entry P.column v j + at_columns j = omega arith in
                h.taken j l (t.0, before, t.2) ∙ ap (λ x. x % p) plain ∙ sym same
            | inr behind ↦
                let m : ℕ = t.0 - r in
                let lm : m < s = omega (arith, t.1) in
                let place : r + m ≡ t.0 = omega arith in
                let column : col m ≡ j = sym (continues.stands m lm) ∙ ap P.column place ∙ t.2 in
                h.left j l (λ u. apart u.0 m u.1 lm (u.2 ∙ sym column)) ∙ ap (λ x. (parts r P.entry P.column v j + x) % p) (sym (at_column j m lm column)) ∙ sym same
          ];
      left = λ j l no.
          let free : (k : ℕ) → k < s → j ≢ col k = λ k lk e. no (r + k, omega arith, continues.stands k lk ∙ sym e) in
          let none : at_columns j ≡ 0 = at_no_column j l free in
          let kept : slice_index v0 j ≡ slice_index v j = cleared.kept j (omega (arith, vector.len)) (λ u. free u.0 u.1 (sym u.2)) in
          let x : ℕ = parts r P.entry P.column v j in
          let y : ℕ = sum_below s (λ k. times k * parts (r + s) P.entry P.column (block_row units k) j) in
          let z : ℕ = sum_below s (λ k. times k * entry_of units k j) in
          let both : (y + z) % p ≡ at_columns j % p =
          ap (λ x. x % p) (sym (sum_add s (λ k. times k * parts (r + s) P.entry P.column (block_row units k) j) (λ k. times k * entry_of units k j)))
          ∙ sum_same p s (λ k. times k * parts (r + s) P.entry P.column (block_row units k) j + times k * entry_of units k j) (λ k. times k * slice_index (unit_row n (col k)) j)
          (λ k lk.
          let turn : times k * parts (r + s) P.entry P.column (block_row units k) j + times k * entry_of units k j ≡ times k * (parts (r + s) P.entry P.column (block_row units k) j + entry_of units k j) = omega arith in
          ap (λ x. x % p) turn ∙ mul_same p (times k) (times k) (parts (r + s) P.entry P.column (block_row units k) j + entry_of units k j) (slice_index (unit_row n (col k)) j) refl
          (sym ((units_split k lk).left j l no))) in
          let turned : x + y + (slice_index v0 j + z) ≡ x + slice_index v j + (y + z) = omega arith in
          let plain : x + slice_index v j + at_columns j ≡ x + slice_index v j = omega arith in
          h.left j l (λ u. no (u.0, omega (arith, u.1), u.2))
          ∙ sym (add_same p (parts (r + s) P.entry P.column w j) (x + y) (slice_index w j) (slice_index v0 j + z) (whole j) (made j l) ∙ ap (λ x. x % p) turned
          ∙ add_same p (x + slice_index v j) (x + slice_index v j) (y + z) (at_columns j) refl both ∙ ap (λ x. x % p) plain);
    }

  pub reduced_by_units : IsVector p panel.width w → PanelReduces p panel v w
  reduced_by_units w_vector = record { vector = w_vector; split = now_split }
