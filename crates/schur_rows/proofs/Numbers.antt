-- The numbers of the pairs beside their rows.
use Rattle.std.proofs.Common.{ℕ, ◌≡◌, ◌≢◌, ◌+◌, ◌<◌, ◌≤◌, ◌∙◌, Option, None, Some, true, false, inl, inr, List, length, replicate, slice_index, slice_index_or, slice_set, sym, ap, subst, arith}
use Rattle.std.proofs.lemmas.Bool.{cases_eq, cases_lt}
use Rattle.std.proofs.lemmas.List.{get_or_default, get_or-replicate, get_or-set_other, get_or-set_same, length-replicate, length-set}
use Rattle.residue_words.specs.declared.plain.Pair.{Pair}
use Rattle.residue_words.specs.Matrix.{Matrix, IsMatrix, row}
use Rattle.residue_words.proofs.Lists.{contains_at, place_in}
use Rattle.row_space.specs.Factors.{row_at, col_at}
use Rattle.std.specs.List.{Contains}
use Rattle.std.specs.Option.{MatchOption, is_some}
use Rattle.sparse_rows.specs.Columns.{IsAbsent, IsAt}
use Rattle.sparse_rows.specs.Rows.{AreFilled, AreRising, ResidueMatrix, support, LARGEST_SIZE}
use Rattle.sparse_rows.proofs.Supports.{in_support}
use Rattle.pivot_table.specs.Order.{Triangular}
use Rattle.triangular_solve.specs.Reduced.{IsPivotRow}
use Rattle.schur_rows.specs.PivotNumbers.{AreNumbersOf, HasNumbers, IsRowOfPair}
use Rattle.schur_rows.specs.declared.pivot_numbers.PivotNumbers.{PivotNumbers}
use Rattle.schur_rows.proofs.Distinct.{triangular_short}

-- ascending numbers that are the same stand at the same place
pub rising_apart : (xs : List ℕ) → AreRising xs → (k t : ℕ) → k < length xs → t < length xs → slice_index xs k ≡ slice_index xs t → k ≡ t
rising_apart xs rising k t lk lt same = elim (cases_eq k t) [
  | inl e ↦ e
  | inr d ↦ elim (cases_lt k t) [
    | inl less ↦ absurd (let l = rising k t less lt in omega arith)
    | inr more ↦ absurd (let l = rising t k (omega arith) lk in omega arith)
  ]
]

pub numbers_none : (qs : List Pair) (rows numbers : List ℕ) → numbers ≡ replicate (length rows) 4294967295 → AreNumbersOf qs rows 0 numbers
numbers_none qs rows numbers e = record {
  long = ap length e ∙ length-replicate (length rows) 4294967295;
  some = λ t l d. absurd (d (ap (λ u. slice_index u t) e ∙ get_or-replicate (length rows) t 4294967295 0 l));
  every = λ k l. absurd (omega arith);
}

pub numbers_more : {qs : List Pair} {rows numbers : List ℕ} {n : ℕ} → AreRising rows → AreNumbersOf qs rows n numbers → (i t : ℕ) → i ≡ row_at qs n → t < length rows → slice_index rows t ≡ i →
    ((k : ℕ) → k < n → row_at qs k ≢ row_at qs n) → AreNumbersOf qs rows (n + 1) (slice_set numbers t n)
numbers_more {qs} {rows} {numbers} {n} rising h i t is lt at apart = record {
  long = length-set numbers t n ∙ h.long;
  some = λ x lx d. elim (cases_eq x t) [
    | inl e ↦
        let v : slice_index (slice_set numbers t n) x ≡ n = ap (slice_index (slice_set numbers t n)) e ∙ same in
        (omega arith, ap (row_at qs) v ∙ sym is ∙ sym at ∙ ap (slice_index rows) (sym e))
    | inr o ↦
        let v = get_or-set_other numbers t x n 0 o in
        let was = h.some x lx (λ z. d (v ∙ z)) in
        (omega (arith, v, was.0), ap (row_at qs) v ∙ was.1)
  ];
  every = λ k l. elim (cases_lt k n) [
    | inl less ↦
        let was = h.every k less in
        (was.0, was.1, was.2, get_or-set_other numbers t was.0 n 0 (λ e. apart k less (sym was.2 ∙ ap (slice_index rows) e ∙ at ∙ is)) ∙ was.3)
    | inr ge ↦
        let e : k ≡ n = omega arith in
        (t, lt, at ∙ is ∙ ap (row_at qs) (sym e), same ∙ sym e)
  ];
}
  where
    same : slice_index (slice_set numbers t n) t ≡ n
    same = get_or-set_same numbers t n 0 (omega (arith, h.long))

-- a row with NONE beside it, and one that isn't there, are no pivot's
pub none_here : {qs : List Pair} {r : PivotNumbers} {xs : List ℕ} → HasNumbers qs r → xs ≡ r.rows.items → (i t n : ℕ) → t < length xs → slice_index xs t ≡ i → n ≡ slice_index_or r.numbers.items t n →
    n ≡ 4294967295 → IsPivotRow qs i → ⊥
none_here {qs} {r} {xs} h same i t n l at read none w =
    let found = h.numbers.every w.0 w.1 in
    let low : t < length r.rows.items = omega (arith, ap length same) in
    let value : n ≡ slice_index r.numbers.items t = read ∙ get_or_default r.numbers.items t n 0 (omega (arith, h.numbers.long)) in
    let e : found.0 ≡ t = rising_apart r.rows.items h.rising found.0 t found.1 low (found.2 ∙ w.2 ∙ sym at ∙ ap (λ u. slice_index u t) same) in
    omega (arith, found.3, ap (slice_index r.numbers.items) e, none, value, w.1, h.few)

pub none_there : {qs : List Pair} {r : PivotNumbers} {xs : List ℕ} → HasNumbers qs r → xs ≡ r.rows.items → (i : ℕ) → ((t : ℕ) → t < length xs → slice_index xs t ≢ i) → IsPivotRow qs i → ⊥
none_there {qs} {r} {xs} h same i away w =
    let found = h.numbers.every w.0 w.1 in
    away found.0 (omega (arith, found.1, ap length same)) (ap (λ u. slice_index u found.0) same ∙ found.2 ∙ w.2)

pub pair_here : {qs : List Pair} {r : PivotNumbers} {xs : List ℕ} → HasNumbers qs r → xs ≡ r.rows.items → (i t n : ℕ) → t < length xs → slice_index xs t ≡ i → n ≡ slice_index_or r.numbers.items t n → n ≢ 4294967295 →
    IsRowOfPair qs i n
pair_here {qs} {r} {xs} h same i t n l at read some =
    let low : t < length r.rows.items = omega (arith, ap length same) in
    let value : n ≡ slice_index r.numbers.items t = read ∙ get_or_default r.numbers.items t n 0 (omega (arith, h.numbers.long)) in
    let was = h.numbers.some t low (λ z. some (value ∙ z)) in
    (omega (arith, was.0, value), ap (row_at qs) value ∙ was.1 ∙ ap (λ u. slice_index u t) (sym same) ∙ at)

pub rising_there : {qs : List Pair} {r : PivotNumbers} {xs : List ℕ} → HasNumbers qs r → xs ≡ r.rows.items → AreRising xs
rising_there {qs} {r} {xs} h same = subst AreRising (sym same) h.rising

-- there are no more pairs than rows
pub pairs_few : {R S : ResidueMatrix} {qs ps : List Pair} {h : ℕ} → R ≡ S → h ≡ R.matrix.height → h ≤ LARGEST_SIZE → ps ≡ qs → Triangular S.matrix qs → length ps ≤ LARGEST_SIZE
pairs_few {R} {S} {qs} {ps} {h} same value bound pairs tri = omega (arith, triangular_short tri, ap length pairs, ap (λ (R : ResidueMatrix). R.matrix.height) same, value, bound)

-- the rows of pairs have an entry
pub pairs_filled : {p : ℕ} {A : Matrix} {qs : List Pair} {rows : List ℕ} → IsMatrix p A → Triangular A qs → AreFilled A rows → (k : ℕ) → k < length qs → Contains rows (row_at qs k)
pairs_filled {p} {A} {qs} {rows} m tri filled k l =
    let n = tri.nonzero k l in
    let t = place_in (support (row A (row_at qs k))) (col_at qs k) (in_support m (row_at qs k) n.0 (col_at qs k) n.2) in
    filled.all (row_at qs k) n.0 (omega (arith, t.1))

pub pairs_known : {R S T : ResidueMatrix} {qs ps : List Pair} {rows xs : List ℕ} → R ≡ T → IsMatrix R.modulus R.matrix → S ≡ T → AreFilled S.matrix rows → xs ≡ rows → ps ≡ qs → Triangular T.matrix qs →
    (k : ℕ) → k < length ps → Contains xs (row_at ps k)
pairs_known {R} {S} {T} {qs} {ps} {rows} {xs} first sound second filled value pairs tri =
    subst (λ xs. (k : ℕ) → k < length ps → Contains xs (row_at ps k)) (sym value)
    (subst (λ ps. (k : ℕ) → k < length ps → Contains rows (row_at ps k)) (sym pairs)
    (pairs_filled (subst (λ (R : ResidueMatrix). IsMatrix R.modulus R.matrix) first sound) tri (subst (λ (R : ResidueMatrix). AreFilled R.matrix rows) second filled)))

pub all_numbers : {S T : ResidueMatrix} {qs ps : List Pair} {r : PivotNumbers} {xs : List ℕ} → S ≡ T → AreFilled S.matrix r.rows.items → xs ≡ r.rows.items → ps ≡ qs → length ps ≤ LARGEST_SIZE →
    AreNumbersOf ps xs (length ps) r.numbers.items → HasNumbers qs r
all_numbers {S} {T} {qs} {ps} {r} {xs} second filled value pairs few numbers = record {
  few = omega (arith, ap length pairs);
  rising = filled.rising;
  numbers = subst (λ qs. AreNumbersOf qs r.rows.items (length qs) r.numbers.items) pairs (subst (λ xs. AreNumbersOf ps xs (length ps) r.numbers.items) value numbers);
}

-- a number that was looked for, and found or not
pub found_among : (xs : List ℕ) (x : ℕ) (place : Option ℕ) → MatchOption place (IsAbsent xs x) (IsAt xs x) → is_some place ≡ true → Contains xs x
found_among xs x None at some = absurd cc
found_among xs x (Some k) at some = contains_at xs k x at.0 at.1

pub not_among : (xs : List ℕ) (x : ℕ) (place : Option ℕ) → MatchOption place (IsAbsent xs x) (IsAt xs x) → is_some place ≡ false → ¬ Contains xs x
not_among xs x None absent none c = let w = place_in xs x c in absent w.0 w.1 w.2
not_among xs x (Some k) at none c = absurd cc
