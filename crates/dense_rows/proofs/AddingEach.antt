-- Sums added to rows, some columns or some products at a time.
use Rattle.std.proofs.Common.{ℕ, List, [], ◌≡◌, ◌+◌, ◌-◌, ◌*◌, ◌%◌, ◌<◌, ◌≤◌, below_more, inl, inr, length, length-set, set, slice_index, subst, sym, refl, ap, ◌∙◌, arith, mod-eq_of_lt, mod-lt, mul-le-mul_left, mul-le-mul_right, mul-zero}
use Rattle.std.proofs.lemmas.Bool.{cases_lt}
use Rattle.std.proofs.lemmas.List.{get_or-set_other, get_or-set_same}
use Rattle.residue_words.specs.Matrix.{IsVector}
use native.Mathlib.Nat.{mod-mod}
use Rattle.residue_words.proofs.Residues.{add_same}
use Rattle.residue_words.proofs.Sums.{sum_bound, sum_equal, sum_split, sum_zero}
use Rattle.dense_rows.specs.Rows.{AreVectors, block_row, entry_of}
use Rattle.dense_rows.specs.Products.{AddsBetween, AddsToEach, IsTile, IsWritten, columns_of, products, run_of}
use Rattle.dense_rows.specs.declared.products.Columns.{Columns}
use Rattle.dense_rows.specs.declared.products.Run.{Run}

-- equal sums
pub adds_equal : {p : ℕ} {columns : Columns} {f g : ℕ → ℕ} {old new : List ℕ} → ((j : ℕ) → columns.start ≤ j → j < columns.end → f j ≡ g j) → AddsBetween p columns f old new → AddsBetween p columns g old new
adds_equal {p} {columns} {f} {g} {old} {new} same h = record {
  long = h.long;
  added = λ j from l. h.added j from l ∙ ap (λ t. (slice_index old j + t) % p) (same j from l);
  before = h.before;
  behind = h.behind;
}

-- a row of residues stays one
pub adds_vector : {p n : ℕ} {columns : Columns} {f : ℕ → ℕ} {old new : List ℕ} → IsVector p n old → AddsBetween p columns f old new → IsVector p n new
adds_vector {p} {n} {columns} {f} {old} {new} vector h = record {
  len = h.long ∙ vector.len;
  residues = λ j l. elim (cases_lt j columns.start) [
    | inl low ↦ omega (arith, h.before j low, vector.residues j l)
    | inr high ↦ elim (cases_lt j columns.end) [
      | inl inside ↦ omega (arith, h.added j high inside, mod-lt (slice_index old j + f j) (positive j l))
      | inr past ↦ omega (arith, h.behind j past, vector.residues j l)
    ]
  ];
}
  where
    positive : (j : ℕ) → j < n → 0 < p
    positive j l = omega (arith, vector.residues j l)

pub adds_vectors : {p n : ℕ} {columns : Columns} {f : ℕ → ℕ → ℕ} {old new : List (List ℕ)} → AreVectors p n old → AddsToEach p columns f old new → AreVectors p n new
adds_vectors {old = old} vectors h t l = let inside : t < length old = omega (arith, h.long, l) in adds_vector (vectors t inside) (h.each t inside)

-- no columns
pub adds_none : {p end : ℕ} {f : ℕ → ℕ → ℕ} (rows : List (List ℕ)) → AddsToEach p (columns_of end end) f rows rows
adds_none rows = record {
  long = refl;
  each = λ t l. record { long = refl; added = λ j from less. absurd (omega arith); before = λ j less. refl; behind = λ j le. refl };
}

-- the columns before
pub adds_before : {p start end width : ℕ} {f : ℕ → ℕ → ℕ} {old mid new : List (List ℕ)} → start ≤ end → end ≤ width → AddsToEach p (columns_of end width) f old mid →
    AddsToEach p (columns_of start end) f mid new → AddsToEach p (columns_of start width) f old new
adds_before {p} {start} {end} {width} {f} {old} {mid} {new} low high h g = record {
  long = g.long ∙ h.long;
  each = λ t l.
      let a = h.each t l in
      let b = g.each t (omega (arith, h.long)) in
      record {
        long = b.long ∙ a.long;
        added = λ j from less. elim (cases_lt j end) [
          | inl before ↦ b.added j from before ∙ ap (λ x. (x + f t j) % p) (a.before j before)
          | inr behind ↦ b.behind j behind ∙ a.added j behind less
        ];
        before = λ j less. b.before j less ∙ a.before j (omega arith);
        behind = λ j le. b.behind j (omega arith) ∙ a.behind j le;
      };
}

-- nothing added
pub adds_nothing : {p end width : ℕ} {f : ℕ → ℕ → ℕ} {old new : List (List ℕ)} → AreVectors p width old → ((t j : ℕ) → t < length old → j < end → f t j ≡ 0) → end ≤ width →
    AddsToEach p (columns_of end width) f old new → AddsToEach p (columns_of 0 width) f old new
adds_nothing {p} {end} {width} {f} {old} {new} vectors none le h = record {
  long = h.long;
  each = λ t l. record {
    long = (h.each t l).long;
    added = λ j from less. elim (cases_lt j end) [
      | inl before ↦
          let plain : slice_index (block_row old t) j + f t j ≡ slice_index (block_row old t) j = omega (arith, none t j l before) in
          (h.each t l).before j before ∙ sym (ap (λ x. x % p) plain ∙ mod-eq_of_lt ((vectors t l).residues j less))
      | inr behind ↦ (h.each t l).added j behind less
    ];
    before = λ j less. absurd (omega arith);
    behind = (h.each t l).behind;
  };
}

-- sums added one after the other
pub plus_then : (p x a b c : ℕ) {y z : ℕ} → y ≡ (x + a) % p → z ≡ (y + b) % p → a + b ≡ c → z ≡ (x + c) % p
plus_then p x a b c first second sum =
    let whole : x + a + b ≡ x + c = omega arith in
    second ∙ ap (λ t. (t + b) % p) first ∙ add_same p ((x + a) % p) (x + a) b b (mod-mod (x + a) p) refl ∙ ap (λ t. t % p) whole

-- sums written where they belong
pub adds_written : {p : ℕ} {columns : Columns} {f : ℕ → ℕ} {v old new : List ℕ} → IsWritten columns v old new →
    ((j : ℕ) → columns.start ≤ j → j < columns.end → slice_index v (j - columns.start) ≡ (slice_index old j + f j) % p) → AddsBetween p columns f old new
adds_written h same = record { long = h.long; added = λ j from less. h.written j from less ∙ same j from less; before = h.before; behind = h.behind }

-- products of two runs, and of a run where the rows are 0
pub products_split : (c : List ℕ) (rows : List (List ℕ)) (s n j : ℕ) → products c rows (run_of 0 s) j + products c rows (run_of s n) j ≡ products c rows (run_of 0 (s + n)) j
products_split c rows s n j =
    let f : ℕ → ℕ = λ i. slice_index c (0 + i) * entry_of rows (0 + i) j in
    let g : ℕ → ℕ = λ i. slice_index c (s + i) * entry_of rows (s + i) j in
    omega (arith, sum_split s n f, sum_equal n g (λ i. f (s + i)) (λ i l. let plain : s + i ≡ 0 + (s + i) = omega arith in ap (λ k. slice_index c k * entry_of rows k j) plain))

pub products_zero : (c : List ℕ) (rows : List (List ℕ)) (run : Run) (j : ℕ) → ((k : ℕ) → k < run.first + run.count → entry_of rows k j ≡ 0) → products c rows run j ≡ 0
products_zero c rows run j none =
    sum_zero run.count (λ i. slice_index c (run.first + i) * entry_of rows (run.first + i) j)
    (λ i l. ap (λ y. slice_index c (run.first + i) * y) (none (run.first + i) (omega arith)) ∙ mul-zero (slice_index c (run.first + i)))

-- products of residues are small where there are few
pub products_small : (p most : ℕ) (c : List ℕ) (rows : List (List ℕ)) (run : Run) (j : ℕ) → most * (p * p) < 18446744073709551616 → run.count ≤ most →
    ((k : ℕ) → slice_index c k < p) → ((k : ℕ) → k < run.first + run.count → entry_of rows k j < p) → products c rows run j < 18446744073709551616
products_small p most c rows run j room few left right =
    let bound : products c rows run j ≤ run.count * (p * p) = sum_bound run.count (p * p) (λ i. slice_index c (run.first + i) * entry_of rows (run.first + i) j)
    (λ i l.
    let a = slice_index c (run.first + i) in
    let b = entry_of rows (run.first + i) j in
    let b_less : b < p = right (run.first + i) (omega arith) in
    let a_less : a < p = left (run.first + i) in
    let one : a * b ≤ a * p = mul-le-mul_left a (omega arith) in
    let two : a * p ≤ p * p = mul-le-mul_right p (omega arith) in
    omega arith) in
    let more : run.count * (p * p) ≤ most * (p * p) = mul-le-mul_right (p * p) few in
    omega arith

-- the residues of eight entries and sums
pub plus_eight : (p : ℕ) (old sums v : List ℕ) (f : ℕ → ℕ) {x : List ℕ} → x ≡ old → ((k : ℕ) → k < 8 → slice_index v k ≡ (slice_index x k + slice_index sums k) % p) →
    ((k : ℕ) → k < 8 → slice_index sums k ≡ f k) → (k : ℕ) → k < 8 → slice_index v k ≡ (slice_index old k + f k) % p
plus_eight p old sums v f same all is k l = all k l ∙ (λ i. (slice_index (same i) k + is k l i) % p)

-- equal sums, each of the rows
pub each_equal : {p : ℕ} {columns : Columns} {f g : ℕ → ℕ → ℕ} {old new : List (List ℕ)} → ((t j : ℕ) → columns.start ≤ j → j < columns.end → f t j ≡ g t j) → AddsToEach p columns f old new → AddsToEach p columns g old new
each_equal same h = record { long = h.long; each = λ t l. adds_equal (same t) (h.each t l) }

-- the products with a tile's rows are those with the rows that it is of
pub products_tile : (c : List ℕ) (rows tile : List (List ℕ)) (start n j : ℕ) → IsTile start rows tile → n ≤ length rows → start ≤ j → j < start + 8 →
    products c tile (run_of 0 n) (j - start) ≡ products c rows (run_of 0 n) j
products_tile c rows tile start n j is few from less =
    sum_equal n (λ i. slice_index c (0 + i) * entry_of tile (0 + i) (j - start)) (λ i. slice_index c (0 + i) * entry_of rows (0 + i) j)
    (λ i l.
    let place : start + (j - start) ≡ j = omega arith in
    ap (λ y. slice_index c (0 + i) * y) (is (0 + i) (j - start) (omega arith) (omega arith) ∙ ap (entry_of rows (0 + i)) place))

-- what holds of the first n rows, holds of one more and of four more that are put behind them
row_more : (P : ℕ → List ℕ → Type 0) (xs : List (List ℕ)) (n : ℕ) (v : List ℕ) → n < length xs → ((t : ℕ) → t < n → P t (block_row xs t)) → P n v → (t : ℕ) → t < n + 1 → P t (block_row (set xs n v) t)
row_more P xs n v l before here =
    below_more (λ t. P t (block_row (set xs n v) t)) n (λ t less. subst (P t) (sym (get_or-set_other xs n t v [] (omega arith))) (before t less)) (subst (P n) (sym (get_or-set_same xs n v [] l)) here)

pub four_more : (P : ℕ → List ℕ → Type 0) (xs : List (List ℕ)) (n : ℕ) (a b c d : List ℕ) → n + 4 ≤ length xs → ((t : ℕ) → t < n → P t (block_row xs t)) → P n a → P (n + 1) b → P (n + 2) c → P (n + 3) d →
    (t : ℕ) → t < n + 4 → P t (block_row (set (set (set (set xs n a) (n + 1) b) (n + 2) c) (n + 3) d) t)
four_more P xs n a b c d room before pa pb pc pd t l =
    let one = set xs n a in
    let two = set one (n + 1) b in
    let three = set two (n + 2) c in
    let long : length three ≡ length xs = length-set two (n + 2) c ∙ length-set one (n + 1) b ∙ length-set xs n a in
    row_more P three (n + 3) d (omega (arith, long))
    (λ s ls. row_more P two (n + 2) c (omega (arith, length-set one (n + 1) b, length-set xs n a))
    (λ s ls. row_more P one (n + 1) b (omega (arith, length-set xs n a))
    (λ s ls. row_more P xs n a (omega arith) before pa s (omega arith)) pb s (omega arith)) pc s (omega arith)) pd t (omega arith)

pub four_kept : (xs : List (List ℕ)) (n : ℕ) (a b c d : List ℕ) (t : ℕ) → n + 4 ≤ t → block_row (set (set (set (set xs n a) (n + 1) b) (n + 2) c) (n + 3) d) t ≡ block_row xs t
four_kept xs n a b c d t le =
    let one = set xs n a in
    let two = set one (n + 1) b in
    let three = set two (n + 2) c in
    get_or-set_other three (n + 3) t d [] (omega arith) ∙ get_or-set_other two (n + 2) t c [] (omega arith) ∙ get_or-set_other one (n + 1) t b [] (omega arith) ∙ get_or-set_other xs n t a [] (omega arith)
