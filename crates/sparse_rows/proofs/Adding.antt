-- A multiple of a row that comes to sums entry by entry.
use Rattle.std.proofs.Common.{ℕ, ◌≡◌, ◌≢◌, ◌+◌, ◌*◌, ◌%◌, ◌<◌, List, length, slice_index, slice_set, inl, inr, sym, refl, ap, subst, ◌∙◌, arith, mod-eq_of_lt, mul-zero, add-zero}
use Rattle.std.proofs.lemmas.List.{length-set, get_or-set_same, get_or-set_other}
use Rattle.std.proofs.lemmas.Bool.{cases_eq}
use Rattle.residue_words.specs.Matrix.{IsVector}
use Rattle.residue_words.proofs.Residues.{add_same}
use Rattle.sparse_rows.specs.Stored.{IsSparse, entry_at}
use Rattle.sparse_rows.proofs.Spread.{entry_here, entry_cover}
use Rattle.sparse_rows.specs.Rows.{ResidueRow}
use Rattle.sparse_rows.specs.Rows.{AddsAt, AddsMultiple}

-- the multiple is added at the first k columns, and nowhere else
pub record IsAdding (p by : ℕ) (cols vals before : List ℕ) (k : ℕ) (sums : List ℕ) : Type 0 where
  pub len : length sums ≡ length before
  pub done : (t : ℕ) → t < k → slice_index sums (slice_index cols t) ≡ (slice_index before (slice_index cols t) + by * slice_index vals t) % p
  pub residues : (j : ℕ) → j < length before → slice_index sums j < p
  pub left : (j : ℕ) → ((t : ℕ) → t < k → slice_index cols t ≢ j) → slice_index sums j ≡ slice_index before j

-- at first nothing is
pub adding_none : {p by : ℕ} {cols vals before : List ℕ} → IsVector p (length before) before → IsAdding p by cols vals before 0 before
adding_none vector = record { len = refl; done = λ t l. absurd (omega arith); residues = vector.residues; left = λ j none. refl }

-- one entry more
pub adding_more : {p n by : ℕ} {cols vals before sums : List ℕ} {k : ℕ} → 0 < p → IsSparse p n cols vals → length before ≡ n → IsAdding p by cols vals before k sums → k < length cols →
    (v : ℕ) → v % p ≡ (by * slice_index vals k) % p → IsAdding p by cols vals before (k + 1) (slice_set sums (slice_index cols k) ((slice_index sums (slice_index cols k) + v) % p))
adding_more {p} {n} {by} {cols} {vals} {before} {sums} {k} pos sparse long a l v e = record {
  len = length-set sums c _ ∙ a.len;
  done = λ t lt. elim (cases_eq t k) [
    | inl same ↦ ap (λ t. slice_index new (slice_index cols t)) same ∙ here ∙ ap (λ t. (slice_index before (slice_index cols t) + by * slice_index vals t) % p) (sym same)
    | inr d ↦ get_or-set_other sums c (slice_index cols t) _ 0 (λ z. let r : slice_index cols t < slice_index cols k = sparse.rising t k (omega arith) l in absurd (omega arith)) ∙ a.done t (omega arith)
  ];
  residues = λ j lj. elim (cases_eq j c) [
    | inl same ↦
        let small : ((slice_index sums c + v) % p) < p = omega arith in
        let is : slice_index new j ≡ (slice_index sums c + v) % p = ap (slice_index new) same ∙ get_or-set_same sums c _ 0 inside in
        omega arith
    | inr d ↦ let is : slice_index new j ≡ slice_index sums j = get_or-set_other sums c j _ 0 d in let small : slice_index sums j < p = a.residues j lj in omega arith
  ];
  left = λ j none. get_or-set_other sums c j _ 0 (λ z. none k (omega arith) (sym z)) ∙ a.left j (λ t lt. none t (omega arith));
}
  where
    c : ℕ
    c = slice_index cols k

    new : List ℕ
    new = slice_set sums c ((slice_index sums c + v) % p)

    inside : c < length sums
    inside = omega (arith, a.len, long, sparse.below k l)

    old : slice_index sums c ≡ slice_index before c
    old = a.left c (λ t lt z. let r : slice_index cols t < slice_index cols k = sparse.rising t k lt l in absurd (omega arith))

    here : slice_index new c ≡ (slice_index before c + by * slice_index vals k) % p
    here = get_or-set_same sums c _ 0 inside ∙ ap (λ t. (t + v) % p) old
        ∙ add_same p (slice_index before c) (slice_index before c) v (by * slice_index vals k) refl e

-- all of it
pub adding_all : {p n by : ℕ} {cols vals before sums : List ℕ} → IsSparse p n cols vals → IsVector p n before → IsAdding p by cols vals before (length cols) sums →
    (j : ℕ) → j < n → slice_index sums j ≡ (slice_index before j + by * entry_at cols vals j) % p
adding_all {p} {n} {by} {cols} {vals} {before} {sums} sparse vector a j l =
    elim (entry_cover cols vals j) [
      | inl none ↦
          a.left j (λ t lt z. let v : entry_at cols vals (slice_index cols t) ≡ slice_index vals t = entry_here cols vals sparse.long sparse.rising t lt in
          let pos : 0 < slice_index vals t = sparse.positive t (omega (arith, sparse.long)) in
          absurd (omega (arith, sym v ∙ ap (entry_at cols vals) z ∙ none)))
          ∙ sym (ap (λ t. (slice_index before j + by * t) % p) none ∙ ap (λ t. (slice_index before j + t) % p) (mul-zero by) ∙ ap (λ t. t % p) (add-zero (slice_index before j)) ∙ mod-eq_of_lt (vector.residues j l))
      | inr (t, lt, e) ↦
          ap (slice_index sums) (sym e) ∙ a.done t lt ∙ ap (λ u. (slice_index before (slice_index cols t) + by * u) % p) (sym (entry_here cols vals sparse.long sparse.rising t lt))
          ∙ ap (λ j. (slice_index before j + by * entry_at cols vals j) % p) e
    ]

-- as it is told of an accumulator
pub record IsAddingTo (by : ℕ) (cols vals : List ℕ) (k : ℕ) (old new : ResidueRow) : Type 0 where
  pub modulus : new.modulus ≡ old.modulus
  pub positive : 0 < old.modulus
  pub vector : IsVector old.modulus (length old.row) old.row
  pub adding : IsAdding old.modulus by cols vals old.row k new.row

pub adding_step : {by : ℕ} {cols vals : List ℕ} {k : ℕ} {old now new : ResidueRow} → IsSparse old.modulus (length old.row) cols vals → IsAddingTo by cols vals k old now → k < length cols →
    (v : ℕ) → v % old.modulus ≡ (by * slice_index vals k) % old.modulus → AddsAt (slice_index cols k) v now new → IsAddingTo by cols vals (k + 1) old new
adding_step {by} {cols} {vals} {k} {old} {now} {new} sparse a l v e added = record {
  modulus = added.modulus ∙ a.modulus;
  positive = a.positive;
  vector = a.vector;
  adding = subst (IsAdding old.modulus by cols vals old.row (k + 1)) (sym (added.row ∙ ap (λ m. slice_set now.row (slice_index cols k) ((slice_index now.row (slice_index cols k) + v) % m)) a.modulus))
      (adding_more a.positive sparse refl a.adding l v e);
}

pub adding_done : {by : ℕ} {cols vals : List ℕ} {old new : ResidueRow} → IsSparse old.modulus (length old.row) cols vals → IsAddingTo by cols vals (length cols) old new → AddsMultiple by cols vals old new
adding_done {by} {cols} {vals} {old} {new} sparse a = record {
  modulus = a.modulus;
  vector = record { len = a.adding.len; residues = a.adding.residues };
  sums = adding_all sparse a.vector a.adding;
}
