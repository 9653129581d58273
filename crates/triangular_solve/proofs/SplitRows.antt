-- A row that is split into the entries in some columns and the others, and joined again.
use Rattle.std.proofs.Common.{ℕ, ◌≡◌, ◌+◌, ◌%◌, ◌<◌, ◌≤◌, ◌⊎◌, List, [], length, slice_index, slice_set, take, inl, inr, sym, refl, ap, ap₂, subst, ◌∙◌, arith, mod-eq_of_lt}
use Rattle.std.specs.List.{Contains}
use Rattle.std.proofs.lemmas.Bool.{cases_eq, cases_lt}
use Rattle.std.proofs.lemmas.List.{length-set, length-take-le, get_or-set_same, get_or-set_other, get_or-take, take_all, take_more}
use Rattle.residue_words.specs.Matrix.{IsVector, zeros}
use Rattle.residue_words.proofs.Lists.{contains_at, place_in}
use Rattle.residue_words.proofs.Vectors.{at_zeros}
use Rattle.sparse_rows.specs.Rows.{AreBelow}
use Rattle.sparse_rows.specs.Stored.{IsSparse, spread}
use Rattle.sparse_rows.proofs.Occurrences.{among_or_not}
use Rattle.sparse_rows.proofs.Loops.{length_zeros}
use Rattle.sparse_rows.proofs.Spread.{at_spread, entry_beyond, length_spread, spread_none, spread_push}
use Rattle.triangular_solve.specs.AscendingColumns.{IsPlaceOf}
use Rattle.triangular_solve.specs.PivotRows.{IsSplitRow}
use Rattle.lead_rows.specs.Scattered.{HaveDistinctColumns}
use Rattle.lead_rows.proofs.Draining.{set_vector}

pub distinct_same : (xs : List ℕ) → HaveDistinctColumns xs → (k t : ℕ) → k < length xs → t < length xs → slice_index xs k ≡ slice_index xs t → k ≡ t
distinct_same xs distinct k t lk lt e = elim (cases_eq k t) [
  | inl s ↦ s
  | inr d ↦ elim (cases_lt k t) [ inl l ↦ absurd (distinct k t l lt e) | inr g ↦ absurd (distinct t k (omega arith) lk (sym e)) ]
]

-- a column has a place or none
pub placed_or_none : (columns : List ℕ) (j : ℕ) → ((i : ℕ) × (i < length columns) × (slice_index columns i ≡ j)) ⊎ (¬ Contains columns j)
placed_or_none columns j = elim (among_or_not columns j) [
  | inl w ↦ inl w
  | inr none ↦ inr (λ m. let w = place_in columns j m in none w.0 w.1 w.2)
]

-- the first k columns and values
pub first_sparse : {p n : ℕ} {cs vs : List ℕ} → IsSparse p n cs vs → (k : ℕ) → k < length cs → IsSparse p (slice_index cs k) (take k cs) (take k vs)
first_sparse {p} {n} {cs} {vs} s k l = record {
  long = lc ∙ sym lv;
  rising = λ t u a b. omega (arith, get_or-take k cs t 0 (omega (arith, lc)), get_or-take k cs u 0 (omega (arith, lc)), s.rising t u a (omega (arith, lc)));
  below = λ t b. omega (arith, get_or-take k cs t 0 (omega (arith, lc)), s.rising t k (omega (arith, lc)) l);
  positive = λ t b. omega (arith, get_or-take k vs t 0 (omega (arith, lv)), s.positive t (omega (arith, lv, s.long)));
  residues = λ t b. omega (arith, get_or-take k vs t 0 (omega (arith, lv)), s.residues t (omega (arith, lv, s.long)));
}
  where
    lc : length (take k cs) ≡ k
    lc = length-take-le k cs (omega arith)

    lv : length (take k vs) ≡ k
    lv = length-take-le k vs (omega (arith, s.long))

-- the row of the first k + 1 of them
pub first_more : {p n : ℕ} {cs vs : List ℕ} → IsSparse p n cs vs → (k : ℕ) → k < length cs →
    spread n (take (k + 1) cs) (take (k + 1) vs) ≡ slice_set (spread n (take k cs) (take k vs)) (slice_index cs k) (slice_index vs k)
first_more {p} {n} {cs} {vs} s k l =
    ap₂ (spread n) (take_more cs k 0 l) (take_more vs k 0 (omega (arith, s.long))) ∙ spread_push (first_sparse s k l) n (slice_index vs k) (s.below k l)

-- it is 0 from the next column on
pub first_zero : {p n : ℕ} {cs vs : List ℕ} → IsSparse p n cs vs → (k : ℕ) → k < length cs → (j : ℕ) → slice_index cs k ≤ j → j < n → slice_index (spread n (take k cs) (take k vs)) j ≡ 0
first_zero {p} {n} {cs} {vs} s k l j le lj = at_spread n (take k cs) (take k vs) j lj ∙ entry_beyond (take k cs) (take k vs) (slice_index cs k) j (first_sparse s k l).below le

-- the zero row is split
pub split_none : (columns : List ℕ) (n : ℕ) → AreBelow n columns → IsSplitRow columns (zeros n) (zeros (length columns)) (zeros n)
split_none columns n below = record {
  long = length_zeros (length columns);
  wide = refl;
  inside = λ i l. at_zeros (length columns) i l ∙ sym (at_zeros n (slice_index columns i) (below i l));
  none = λ i l. at_zeros n (slice_index columns i) (below i l);
  outside = λ j l none. refl;
}

-- one entry more in these columns
pub split_inside : {columns v inner outer : List ℕ} → HaveDistinctColumns columns → IsSplitRow columns v inner outer → (c i x : ℕ) → IsPlaceOf columns c i → c < length v →
    IsSplitRow columns (slice_set v c x) (slice_set inner i x) outer
split_inside {columns} {v} {inner} {outer} distinct s c i x at l = record {
  long = length-set inner i x ∙ s.long;
  wide = s.wide ∙ sym (length-set v c x);
  inside = λ t lt. elim (cases_eq t i) [
    | inl e ↦ ap (slice_index (slice_set inner i x)) e ∙ get_or-set_same inner i x 0 (omega (arith, at.0, s.long))
        ∙ sym (ap (λ k. slice_index (slice_set v c x) (slice_index columns k)) e ∙ ap (slice_index (slice_set v c x)) at.1 ∙ get_or-set_same v c x 0 l)
    | inr d ↦ get_or-set_other inner i t x 0 d ∙ s.inside t lt ∙ sym (get_or-set_other v c (slice_index columns t) x 0 (λ e. d (distinct_same columns distinct t i lt at.0 (e ∙ sym at.1))))
  ];
  none = s.none;
  outside = λ j lj none. s.outside j (omega (arith, length-set v c x)) none ∙ sym (get_or-set_other v c j x 0 (λ e. none (contains_at columns i j at.0 (at.1 ∙ sym e))));
}

-- one entry more elsewhere
pub split_outside : {columns v inner outer : List ℕ} → IsSplitRow columns v inner outer → (c x : ℕ) → ¬ Contains columns c → c < length v → IsSplitRow columns (slice_set v c x) inner (slice_set outer c x)
split_outside {columns} {v} {inner} {outer} s c x not l = record {
  long = s.long;
  wide = length-set outer c x ∙ s.wide ∙ sym (length-set v c x);
  inside = λ t lt. s.inside t lt ∙ sym (get_or-set_other v c (slice_index columns t) x 0 (λ e. not (contains_at columns t c lt e)));
  none = λ t lt. get_or-set_other outer c (slice_index columns t) x 0 (λ e. not (contains_at columns t c lt e)) ∙ s.none t lt;
  outside = λ j lj none. elim (cases_eq j c) [
    | inl e ↦ ap (slice_index (slice_set outer c x)) e ∙ get_or-set_same outer c x 0 (omega (arith, s.wide)) ∙ sym (ap (slice_index (slice_set v c x)) e ∙ get_or-set_same v c x 0 l)
    | inr d ↦ get_or-set_other outer c j x 0 d ∙ s.outside j (omega (arith, length-set v c x)) none ∙ sym (get_or-set_other v c j x 0 d)
  ];
}

-- where v is 0 the row outside is
pub outer_zero : {columns v inner outer : List ℕ} → IsSplitRow columns v inner outer → (j : ℕ) → j < length v → slice_index v j ≡ 0 → slice_index outer j ≡ 0
outer_zero {columns} {v} {inner} {outer} s j l z = elim (placed_or_none columns j) [
  | inl w ↦ ap (slice_index outer) (sym w.2) ∙ s.none w.0 w.1
  | inr not ↦ s.outside j l not ∙ z
]

-- the first k entries of a row are split
pub record IsSplitting (p : ℕ) (columns cs vs : List ℕ) (k n : ℕ) (inner outer : List ℕ) : Type 0 where
  pub split : IsSplitRow columns (spread n (take k cs) (take k vs)) inner outer
  pub residues : IsVector p (length columns) inner

pub splitting_inside : {p n k : ℕ} {columns cs vs inner outer : List ℕ} → 0 < p → HaveDistinctColumns columns → IsSparse p n cs vs → IsSplitting p columns cs vs k n inner outer → k < length cs →
    (i : ℕ) → IsPlaceOf columns (slice_index cs k) i → (next : List ℕ) → next ≡ slice_set inner i ((slice_index inner i + slice_index vs k) % p) → IsSplitting p columns cs vs (k + 1) n next outer
splitting_inside {p} {n} {k} {columns} {cs} {vs} {inner} {outer} pos distinct s d l i at next e = record {
  split = subst (λ w. IsSplitRow columns (spread n (take (k + 1) cs) (take (k + 1) vs)) w outer) (sym is)
      (subst (λ v. IsSplitRow columns v (slice_set inner i (slice_index vs k)) outer) (sym (first_more s k l))
      (split_inside distinct d.split (slice_index cs k) i (slice_index vs k) at (omega (arith, s.below k l, length_spread n (take k cs) (take k vs)))));
  residues = subst (IsVector p (length columns)) (sym is) (set_vector d.residues i (slice_index vs k) (s.residues k (omega (arith, s.long))));
}
  where
    was : slice_index inner i ≡ 0
    was = d.split.inside i at.0 ∙ ap (slice_index (spread n (take k cs) (take k vs))) at.1 ∙ first_zero s k l (slice_index cs k) (omega arith) (s.below k l)

    sum : (slice_index inner i + slice_index vs k) % p ≡ slice_index vs k
    sum = let z : slice_index inner i + slice_index vs k ≡ slice_index vs k = omega (arith, was) in ap (λ x. x % p) z ∙ mod-eq_of_lt (s.residues k (omega (arith, s.long)))

    is : next ≡ slice_set inner i (slice_index vs k)
    is = e ∙ ap (slice_set inner i) sum

pub splitting_outside : {p n k : ℕ} {columns cs vs inner outer : List ℕ} → IsSparse p n cs vs → IsSplitting p columns cs vs k n inner outer → k < length cs → ¬ Contains columns (slice_index cs k) →
    (next : List ℕ) → next ≡ slice_set outer (slice_index cs k) (slice_index vs k) → IsSplitting p columns cs vs (k + 1) n inner next
splitting_outside {p} {n} {k} {columns} {cs} {vs} {inner} {outer} s d l not next e = record {
  split = subst (IsSplitRow columns (spread n (take (k + 1) cs) (take (k + 1) vs)) inner) (sym e)
      (subst (λ v. IsSplitRow columns v inner (slice_set outer (slice_index cs k) (slice_index vs k))) (sym (first_more s k l))
      (split_outside d.split (slice_index cs k) (slice_index vs k) not (omega (arith, s.below k l, length_spread n (take k cs) (take k vs)))));
  residues = d.residues;
}

pub splitting_none : (p n : ℕ) (columns cs vs : List ℕ) → AreBelow n columns → 0 < p → IsSplitting p columns cs vs 0 n (zeros (length columns)) (zeros n)
splitting_none p n columns cs vs below pos = record {
  split = subst (λ v. IsSplitRow columns v (zeros (length columns)) (zeros n)) (sym (spread_none n [])) (split_none columns n below);
  residues = record { len = length_zeros (length columns); residues = λ j l. omega (arith, at_zeros (length columns) j l) };
}

pub splitting_behind : {p n k : ℕ} {columns cs vs inner outer : List ℕ} → IsSparse p n cs vs → IsSplitting p columns cs vs k n inner outer → k < length cs →
    (j : ℕ) → slice_index cs k ≤ j → j < n → slice_index outer j ≡ 0
splitting_behind {p} {n} {k} {columns} {cs} {vs} s d l j le lj = outer_zero d.split j (omega (arith, length_spread n (take k cs) (take k vs))) (first_zero s k l j le lj)

pub splitting_all : {p n k : ℕ} {columns cs vs inner outer : List ℕ} → IsSparse p n cs vs → IsSplitting p columns cs vs k n inner outer → length cs ≤ k → IsSplitRow columns (spread n cs vs) inner outer
splitting_all {p} {n} {k} {columns} {cs} {vs} {inner} {outer} s d le =
    subst (λ v. IsSplitRow columns v inner outer) (ap₂ (spread n) (take_all k cs le) (take_all k vs (omega (arith, s.long)))) d.split
