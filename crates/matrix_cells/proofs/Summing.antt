-- Cells in the order of their places are summed at each place.
use Rattle.std.proofs.Common.{ℕ, ◌≡◌, ◌≢◌, ◌+◌, ◌%◌, ◌<◌, ◌≤◌, inl, inr, List, [], ◌∷◌, ◌++◌, length, cond, eqb, get_or, sym, refl, drop, take, ap, ap₂, subst, ◌∙◌, arith}
use native.Mathlib.Nat.{mod-mod, zero-mod}
use Rattle.std.specs.List.{All, sum_by}
use Rattle.std.proofs.lemmas.Bool.{cases_eq, cases_lt, cond-true, cond-false, eq-eqb, ne_eqb}
use Rattle.std.proofs.lemmas.List.{get_or_append_left, get_or-drop, get_or_push, get_or_default, get_or-take, length-drop, length_push, length-take}
use Rattle.std.proofs.lemmas.List.Elements.{All-get_or, All-head, All-push, All-tail, All-weaker}
use Rattle.std.proofs.lemmas.List.Sums.{sum_by-cons, sum_by-drop_more, sum_by_push, sum_by-take-drop}
use Rattle.residue_words.proofs.Residues.{add_same}
use Rattle.matrix_cells.specs.declared.values_at_places.Cell.{Cell}
use Rattle.matrix_cells.specs.Cells.{AreEntries, AreSums, weight}

-- a cell more
weight_push : (t : ℕ) (cells : List Cell) (c : Cell) → weight t (cells ++ c ∷ []) ≡ weight t cells + cond (eqb c.place t) c.val 0
weight_push t cells c = sum_by_push (λ c. cond (eqb c.place t) c.val 0) cells c

-- a cell more at its place
weight_push_here : (cells : List Cell) (c : Cell) → weight c.place (cells ++ c ∷ []) ≡ weight c.place cells + c.val
weight_push_here cells c = weight_push c.place cells c ∙ ap (λ w. weight c.place cells + w) (cond-true (eqb c.place c.place) c.val 0 (eq-eqb c.place c.place refl))

-- a cell more at another place
weight_push_other : (t : ℕ) (cells : List Cell) (c : Cell) → c.place ≢ t → weight t (cells ++ c ∷ []) ≡ weight t cells
weight_push_other t cells c d = weight_push t cells c ∙ ap (λ w. weight t cells + w) (cond-false (eqb c.place t) c.val 0 (ne_eqb c.place t d)) ∙ omega arith

-- no cell stands at the place
pub weight_none : (t : ℕ) (cells : List Cell) → All (λ c. c.place ≢ t) cells → weight t cells ≡ 0
weight_none t [] h = refl
weight_none t (c ∷ cells) h =
    sum_by-cons (λ c. cond (eqb c.place t) c.val 0) c cells
    ∙ ap₂ ◌+◌ (cond-false (eqb c.place t) c.val 0 (ne_eqb c.place t (All-head (λ c. c.place ≢ t) c cells h))) (weight_none t cells (All-tail (λ c. c.place ≢ t) c cells h))

-- there are cells at a place of positive weight, so what holds of the places of all cells holds of it
weight_some : (t : ℕ) (cells : List Cell) (P : ℕ → Type 0) → 0 < weight t cells → All (λ c. P c.place) cells → P t
weight_some t [] P some h = absurd (omega (arith, some))
weight_some t (c ∷ cells) P some h = elim (cases_eq c.place t) [
  | inl q ↦ subst P q (All-head (λ c. P c.place) c cells h)
  | inr d ↦
      let rest : weight t (c ∷ cells) ≡ weight t cells =
      sum_by-cons (λ c. cond (eqb c.place t) c.val 0) c cells ∙ ap (λ w. w + weight t cells) (cond-false (eqb c.place t) c.val 0 (ne_eqb c.place t d)) ∙ omega arith in
      weight_some t cells P (subst (λ w. 0 < w) rest some) (All-tail (λ c. P c.place) c cells h)
]

-- the weight at an entry's place is its value
pub weight_here : (p : ℕ) (kept : List Cell) (k : ℕ) (d : Cell) → AreEntries p kept → k < length kept → weight (get_or kept k d).place kept ≡ (get_or kept k d).val
weight_here p kept k d e l =
    let c : Cell = get_or kept k d in
    let f : Cell → ℕ = λ b. cond (eqb b.place c.place) b.val 0 in
    let first : sum_by f (take k kept) ≡ 0 = weight_none c.place (take k kept) (λ i b a.
    let short : i < k = omega (arith, length-take k kept) in
    let same : get_or (take k kept) i b ≡ get_or kept i b = get_or-take k kept i b short in
    rw same (λ q. omega (arith, q, e.ascending i k b short l, ap (λ (b : Cell). b.place) (get_or_default kept k b d l)))) in
    let last : sum_by f (drop (k + 1) kept) ≡ 0 = weight_none c.place (drop (k + 1) kept) (λ i b a.
    let same : get_or (drop (k + 1) kept) i b ≡ get_or kept (k + 1 + i) b = get_or-drop (k + 1) kept i b in
    rw same (λ q. omega (arith, q, e.ascending k (k + 1 + i) b (omega arith) (omega (arith, length-drop (k + 1) kept)), ap (λ (b : Cell). b.place) (get_or_default kept k b d l)))) in
    let here : f c ≡ c.val = cond-true (eqb c.place c.place) c.val 0 (eq-eqb c.place c.place refl) in
    omega (arith, sum_by-take-drop f kept k, sum_by-drop_more f kept k d l, first, last, here)

-- a kept cell stands at the place of one of the cells
pub kept_places : (p : ℕ) (cells kept : List Cell) (P : ℕ → Type 0) → AreSums p cells kept → All (λ c. P c.place) cells → All (λ c. P c.place) kept
kept_places p cells kept P s h = λ k d l.
    let t : ℕ = (get_or kept k d).place in
    let value : 0 < (get_or kept k d).val = All-get_or (λ c. 0 < c.val) kept k d l s.entries.positive in
    let same : (get_or kept k d).val ≡ weight t cells % p = sym (weight_here p kept k d s.entries l) ∙ s.sums t in
    elim (cases_eq (weight t cells) 0) [
      | inl z ↦ absurd (omega (arith, value, same ∙ ap (λ w. w % p) z ∙ zero-mod p))
      | inr d ↦ weight_some t cells P (omega (arith, d)) h
    ]

-- entries and a cell behind them
entries_push : (p : ℕ) (kept : List Cell) (c : Cell) → AreEntries p kept → All (λ k. k.place < c.place) kept → 0 < c.val → c.val < p → AreEntries p (kept ++ c ∷ [])
entries_push p kept c e before some low = record {
  ascending = λ i k d a b.
      let long : length (kept ++ c ∷ []) ≡ length kept + 1 = length_push kept c in
      elim (cases_lt k (length kept)) [
        | inl l ↦
            let first : get_or (kept ++ c ∷ []) i d ≡ get_or kept i d = get_or_append_left kept (c ∷ []) d i (omega arith) in
            let second : get_or (kept ++ c ∷ []) k d ≡ get_or kept k d = get_or_append_left kept (c ∷ []) d k l in
            rw (first, second) (e.ascending i k d a l)
        | inr g ↦
            let first : get_or (kept ++ c ∷ []) i d ≡ get_or kept i d = get_or_append_left kept (c ∷ []) d i (omega arith) in
            let second : get_or (kept ++ c ∷ []) k d ≡ c = get_or_push kept c d k (omega arith) in
            rw (first, second) (All-get_or (λ k. k.place < c.place) kept i d (omega arith) before)
      ];
  positive = All-push (λ c. 0 < c.val) kept c e.positive some;
  residues = All-push (λ c. c.val < p) kept c e.residues low;
}

-- the kept cells have the sums of the cells but at one place, whose sum is apart; they stand before it
pub record IsSummed (p : ℕ) (cells kept : List Cell) (sum : Cell) : Type 0 where
  pub entries : AreEntries p kept
  pub before : All (λ c. c.place < sum.place) kept
  pub residue : sum.val < p
  pub here : sum.val ≡ weight sum.place cells % p
  pub others : (t : ℕ) → sum.place ≢ t → weight t kept ≡ weight t cells % p

-- a cell at the place is added
pub summed_more : (p : ℕ) (cells kept : List Cell) (sum : Cell) (c : Cell) (next : ℕ) → IsSummed p cells kept sum → c.place ≡ sum.place → next ≡ (sum.val + c.val) % p → next < p →
    IsSummed p (cells ++ c ∷ []) kept record { place = sum.place; val = next }
summed_more p cells kept sum c next s q e low = record {
  entries = s.entries;
  before = s.before;
  residue = low;
  here =
      let same : weight sum.place (cells ++ c ∷ []) ≡ weight sum.place cells + c.val = subst (λ t. weight t (cells ++ c ∷ []) ≡ weight t cells + c.val) q (weight_push_here cells c) in
      e ∙ sym (ap (λ t. t % p) same ∙ add_same p (weight sum.place cells) sum.val c.val c.val (sym (mod-mod (weight sum.place cells) p) ∙ ap (λ t. t % p) (sym s.here)) refl);
  others = λ t d. s.others t d ∙ sym (ap (λ w. w % p) (weight_push_other t cells c (λ r. d (sym q ∙ r))));
}

-- the sum is put behind the others, if it is not 0
pub summed_kept : (p : ℕ) (cells kept kept' : List Cell) (sum : Cell) → IsSummed p cells kept sum → kept' ≡ cond (eqb sum.val 0) kept (kept ++ sum ∷ []) → AreSums p cells kept'
summed_kept p cells kept kept' sum s e =
    let none : weight sum.place kept ≡ 0 = weight_none sum.place kept (All-weaker (λ c. c.place < sum.place) (λ c. c.place ≢ sum.place) (λ c l q. omega arith) kept s.before) in
    elim (cases_eq sum.val 0) [
      | inl z ↦
          let same : kept' ≡ kept = e ∙ cond-true (eqb sum.val 0) kept (kept ++ sum ∷ []) (eq-eqb sum.val 0 z) in
          rw same record {
            entries = s.entries;
            sums = λ t. elim (cases_eq sum.place t) [
              | inl q ↦ subst (λ t. weight t kept ≡ weight t cells % p) q (none ∙ sym z ∙ s.here)
              | inr d ↦ s.others t d
            ];
          }
      | inr d ↦
          let more : kept' ≡ kept ++ sum ∷ [] = e ∙ cond-false (eqb sum.val 0) kept (kept ++ sum ∷ []) (ne_eqb sum.val 0 d) in
          rw more record {
            entries = entries_push p kept sum s.entries s.before (omega arith) s.residue;
            sums = λ t. elim (cases_eq sum.place t) [
              | inl q ↦ subst (λ t. weight t (kept ++ sum ∷ []) ≡ weight t cells % p) q (weight_push_here kept sum ∙ ap (λ w. w + sum.val) none ∙ (let e : 0 + sum.val ≡ sum.val = omega arith in e) ∙ s.here)
              | inr o ↦ weight_push_other t kept sum o ∙ s.others t o
            ];
          }
    ]

-- all kept cells stand before a later place
pub kept_before : (kept kept' : List Cell) (sum : Cell) (t : ℕ) → All (λ c. c.place < sum.place) kept → kept' ≡ cond (eqb sum.val 0) kept (kept ++ sum ∷ []) → sum.place < t → All (λ c. c.place < t) kept'
kept_before kept kept' sum t before e later =
    let all : All (λ c. c.place < t) kept = All-weaker (λ c. c.place < sum.place) (λ c. c.place < t) (λ c l. omega arith) kept before in
    elim (cases_eq sum.val 0) [
      | inl z ↦
          let same : kept' ≡ kept = e ∙ cond-true (eqb sum.val 0) kept (kept ++ sum ∷ []) (eq-eqb sum.val 0 z) in
          rw same all
      | inr d ↦
          let more : kept' ≡ kept ++ sum ∷ [] = e ∙ cond-false (eqb sum.val 0) kept (kept ++ sum ∷ []) (ne_eqb sum.val 0 d) in
          rw more (All-push (λ c. c.place < t) kept sum all later)
    ]

-- there is room for each sum that is kept
pub kept_few : (kept sum i next : ℕ) → next ≡ cond (eqb sum 0) kept (kept + 1) → kept ≤ i → (0 < sum → kept < i) → next ≤ i
kept_few kept sum i next e few room = elim (cases_eq sum 0) [
  | inl z ↦ omega (arith, e ∙ cond-true (eqb sum 0) kept (kept + 1) (eq-eqb sum 0 z))
  | inr d ↦ omega (arith, e ∙ cond-false (eqb sum 0) kept (kept + 1) (ne_eqb sum 0 d), room (omega arith))
]

-- a later place is next
pub summed_move : (p : ℕ) (cells kept : List Cell) (place : ℕ) → 0 < p → AreSums p cells kept → All (λ c. c.place < place) kept → IsSummed p cells kept record { place = place; val = 0 }
summed_move p cells kept place some s before = record {
  entries = s.entries;
  before = before;
  residue = some;
  here = sym (weight_none place kept (All-weaker (λ c. c.place < place) (λ c. c.place ≢ place) (λ c l q. omega arith) kept before)) ∙ s.sums place;
  others = λ t d. s.sums t;
}
