-- Rows whose entries stand in any order: what is at a column, a multiple that is added, and rows one after another.
use Rattle.std.proofs.Common.{ℕ, zero, suc, ◌≡◌, ◌+◌, ◌*◌, ◌%◌, ◌<◌, List, [], ◌∷◌, length, slice_index, slice_set, inl, inr, sym, refl, ap, subst, ◌∙◌, arith, mod-eq_of_lt, mul-zero, add-zero}
use Rattle.std.proofs.lemmas.Bool.{cases_eq}
use Rattle.std.proofs.lemmas.List.{get_or-set_other, get_or-set_same, length-set}
use Rattle.residue_words.specs.Matrix.{IsVector}
use Rattle.residue_words.proofs.Residues.{add_same}
use Rattle.sparse_rows.specs.Rows.{AddsAt, AddsMultiple, ResidueRow}
use Rattle.sparse_rows.specs.Stored.{IsSparse, entry_at, spread}
use Rattle.sparse_rows.proofs.Adding.{IsAdding, IsAddingTo}
use Rattle.sparse_rows.proofs.Spread.{at_spread, entry_cover, entry_head, entry_tail, length_spread}
use Rattle.lead_rows.specs.Scattered.{HaveDistinctColumns, IsScattered}

-- at a listed column stands its value
pub entry_listed : (cs vs : List ℕ) → length cs ≡ length vs → HaveDistinctColumns cs → (k : ℕ) → k < length cs → entry_at cs vs (slice_index cs k) ≡ slice_index vs k
entry_listed [] vs e d k l = absurd (omega arith)
entry_listed (c ∷ cs) [] e d k l = absurd (omega arith)
entry_listed (c ∷ cs) (v ∷ vs) e d zero l = entry_head c cs v vs
entry_listed (c ∷ cs) (v ∷ vs) e d (suc k) l =
    entry_tail c cs v vs (slice_index cs k) (d 0 (suc k) (omega arith) (omega arith))
    ∙ entry_listed cs vs (omega arith) (λ s t a b. d (suc s) (suc t) (omega arith) (omega arith)) k (omega arith)

-- ascending columns are distinct
pub sparse_scattered : {p n : ℕ} {cs vs : List ℕ} → IsSparse p n cs vs → IsScattered p n cs vs
sparse_scattered {p} {n} {cs} {vs} s = record {
  long = s.long;
  distinct = λ k t a l e. let r : slice_index cs k < slice_index cs t = s.rising k t a l in absurd (omega arith);
  below = s.below;
  positive = s.positive;
  residues = s.residues;
}

-- the row is one of residues
pub scattered_vector : {p n : ℕ} {cs vs : List ℕ} → 0 < p → IsScattered p n cs vs → IsVector p n (spread n cs vs)
scattered_vector {p} {n} {cs} {vs} pos s = record {
  len = length_spread n cs vs;
  residues = λ j l. elim (entry_cover cs vs j) [
    | inl none ↦ omega (arith, at_spread n cs vs j l)
    | inr (t, lt, e) ↦ omega (arith, at_spread n cs vs j l, ap (entry_at cs vs) e, entry_listed cs vs s.long s.distinct t lt, s.residues t (omega (arith, s.long)))
  ];
}

-- one entry more is added
scattered_more : {p n by : ℕ} {cols vals before sums : List ℕ} {k : ℕ} → 0 < p → IsScattered p n cols vals → length before ≡ n → IsAdding p by cols vals before k sums → k < length cols →
    (v : ℕ) → v % p ≡ (by * slice_index vals k) % p → IsAdding p by cols vals before (k + 1) (slice_set sums (slice_index cols k) ((slice_index sums (slice_index cols k) + v) % p))
scattered_more {p} {n} {by} {cols} {vals} {before} {sums} {k} pos s long a l v e = record {
  len = length-set sums c _ ∙ a.len;
  done = λ t lt. elim (cases_eq t k) [
    | inl same ↦ ap (λ t. slice_index new (slice_index cols t)) same ∙ here ∙ ap (λ t. (slice_index before (slice_index cols t) + by * slice_index vals t) % p) (sym same)
    | inr d ↦ get_or-set_other sums c (slice_index cols t) _ 0 (s.distinct t k (omega arith) l) ∙ a.done t (omega arith)
  ];
  residues = λ j lj. elim (cases_eq j c) [
    | inl same ↦
        let small : ((slice_index sums c + v) % p) < p = omega arith in
        let is : slice_index new j ≡ (slice_index sums c + v) % p = ap (slice_index new) same ∙ get_or-set_same sums c _ 0 inside in
        omega arith
    | inr d ↦ let is : slice_index new j ≡ slice_index sums j = get_or-set_other sums c j _ 0 d in let small : slice_index sums j < p = a.residues j lj in omega arith
  ];
  left = λ j none. get_or-set_other sums c j _ 0 (λ z. none k (omega arith) (sym z)) ∙ a.left j (λ t lt. none t (omega arith));
}
  where
    c : ℕ
    c = slice_index cols k

    new : List ℕ
    new = slice_set sums c ((slice_index sums c + v) % p)

    inside : c < length sums
    inside = omega (arith, a.len, long, s.below k l)

    old : slice_index sums c ≡ slice_index before c
    old = a.left c (λ t lt. s.distinct t k lt l)

    here : slice_index new c ≡ (slice_index before c + by * slice_index vals k) % p
    here = get_or-set_same sums c _ 0 inside ∙ ap (λ t. (t + v) % p) old
        ∙ add_same p (slice_index before c) (slice_index before c) v (by * slice_index vals k) refl e

-- all of them are
scattered_all : {p n by : ℕ} {cols vals before sums : List ℕ} → IsScattered p n cols vals → IsVector p n before → IsAdding p by cols vals before (length cols) sums →
    (j : ℕ) → j < n → slice_index sums j ≡ (slice_index before j + by * entry_at cols vals j) % p
scattered_all {p} {n} {by} {cols} {vals} {before} {sums} s vector a j l =
    elim (entry_cover cols vals j) [
      | inl none ↦
          a.left j (λ t lt z. let v : entry_at cols vals (slice_index cols t) ≡ slice_index vals t = entry_listed cols vals s.long s.distinct t lt in
          let pos : 0 < slice_index vals t = s.positive t (omega (arith, s.long)) in
          absurd (omega (arith, sym v ∙ ap (entry_at cols vals) z ∙ none)))
          ∙ sym (ap (λ t. (slice_index before j + by * t) % p) none ∙ ap (λ t. (slice_index before j + t) % p) (mul-zero by) ∙ ap (λ t. t % p) (add-zero (slice_index before j)) ∙ mod-eq_of_lt (vector.residues j l))
      | inr (t, lt, e) ↦
          ap (slice_index sums) (sym e) ∙ a.done t lt ∙ ap (λ u. (slice_index before (slice_index cols t) + by * u) % p) (sym (entry_listed cols vals s.long s.distinct t lt))
          ∙ ap (λ j. (slice_index before j + by * entry_at cols vals j) % p) e
    ]

pub scattered_step : {by : ℕ} {cols vals : List ℕ} {k : ℕ} {old now new : ResidueRow} → IsScattered old.modulus (length old.row) cols vals → IsAddingTo by cols vals k old now → k < length cols →
    (v : ℕ) → v % old.modulus ≡ (by * slice_index vals k) % old.modulus → AddsAt (slice_index cols k) v now new → IsAddingTo by cols vals (k + 1) old new
scattered_step {by} {cols} {vals} {k} {old} {now} {new} s a l v e added = record {
  modulus = added.modulus ∙ a.modulus;
  positive = a.positive;
  vector = a.vector;
  adding = subst (IsAdding old.modulus by cols vals old.row (k + 1)) (sym (added.row ∙ ap (λ m. slice_set now.row (slice_index cols k) ((slice_index now.row (slice_index cols k) + v) % m)) a.modulus))
      (scattered_more a.positive s refl a.adding l v e);
}

pub scattered_done : {by : ℕ} {cols vals : List ℕ} {old new : ResidueRow} → IsScattered old.modulus (length old.row) cols vals → IsAddingTo by cols vals (length cols) old new → AddsMultiple by cols vals old new
scattered_done {by} {cols} {vals} {old} {new} s a = record {
  modulus = a.modulus;
  vector = record { len = a.adding.len; residues = a.adding.residues };
  sums = scattered_all s a.vector a.adding;
}
