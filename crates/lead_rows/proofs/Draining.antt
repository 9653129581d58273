-- What reducing sums by kept rows keeps.
use Rattle.std.proofs.Common.{ℕ, ◌≡◌, ◌≢◌, ◌+◌, ◌-◌, ◌*◌, ◌%◌, ◌<◌, ◌≤◌, List, length, slice_index, slice_set, inl, inr, sym, refl, ap, subst, ◌∙◌, arith, mod-eq_of_lt, mul-zero}
use native.Mathlib.Nat.{mod-mod}
use Rattle.std.proofs.lemmas.List.{length-map, length-set, get_or-set_same, get_or-set_other}
use Rattle.std.proofs.lemmas.Bool.{cases_eq, cases_lt}
use Rattle.residue_words.specs.Matrix.{IsVector, entry}
use Rattle.residue_words.proofs.Residues.{add_same, right_zero, multiple_zero, product_zero_left}
use Rattle.residue_words.proofs.Vectors.{at_list_of, length_list_of, list_equal, list_of_equal, vector_of}
use Rattle.row_space.specs.Rows.{DiffersBy}
use Rattle.row_space.proofs.Rows.{differs_by_none, differs_more}
use Rattle.sparse_rows.specs.ColumnSet.{AllZero, TakesFirst}
use Rattle.lead_rows.specs.Leads.{KeptRows, IsSound}
use Rattle.sparse_rows.specs.Rows.{ResidueRow, support, nonzeros}
use Rattle.sparse_rows.specs.Stored.{entry_at}
use Rattle.sparse_rows.specs.Stored as Stored
use Rattle.sparse_rows.proofs.Spread.{entry_support, support_sparse}
use Rattle.lead_rows.specs.Led.{IsBehind, Drains, LeadsAt, both, kept_rows, whole, whole_matrix}
use Rattle.lead_rows.specs.declared.led.Led.{Led}
use Rattle.lead_rows.proofs.Extent.{extent, extent_falls}
use Rattle.lead_rows.proofs.LedRows.{whole_lead, whole_other}

pub record IsDraining (kept : KeptRows) (s0 w0 s w : List ℕ) : Type 0 where
  pub sums : IsVector kept.modulus kept.matrix.width s
  pub rest : IsVector kept.modulus kept.matrix.width w
  pub behind : IsBehind kept.matrix.width s w
  pub at_leads : (k : ℕ) → k < kept.matrix.height → slice_index w (slice_index kept.leads k) ≡ slice_index w0 (slice_index kept.leads k)
  pub before : (c : ℕ) → ((j : ℕ) → j < c → slice_index s0 j ≡ 0) → (j : ℕ) → j < c → (slice_index s j ≡ 0) × (slice_index w j ≡ slice_index w0 j)
  pub differs : DiffersBy kept.modulus kept.matrix (both kept.modulus kept.matrix.width s0 w0) (both kept.modulus kept.matrix.width s w)

both_vector : (p n : ℕ) (s w : List ℕ) → 0 < p → IsVector p n (both p n s w)
both_vector p n s w pos = vector_of p n (λ j. (slice_index s j + slice_index w j) % p) (λ j l. omega arith)

-- before the first step
pub draining_none : (kept : KeptRows) (s w : List ℕ) → 2 ≤ kept.modulus → IsVector kept.modulus kept.matrix.width s → IsVector kept.modulus kept.matrix.width w → IsBehind kept.matrix.width s w → IsDraining kept s w s w
draining_none kept s w two vs vw behind = record {
  sums = vs;
  rest = vw;
  behind = behind;
  at_leads = λ k l. refl;
  before = λ c zero j l. (zero j l, refl);
  differs = differs_by_none kept.modulus kept.matrix _ two (both_vector kept.modulus kept.matrix.width s w (omega arith));
}

-- what is taken from the sums stands before what is left
taken_before : {s s1 : List ℕ} {c v : ℕ} → TakesFirst s s1 c v → (j : ℕ) → slice_index s j ≢ 0 → c ≤ j
taken_before t j n = elim (cases_lt j _) [ inl l ↦ absurd (n (t.before j l)) | inr le ↦ le ]

first_nonzero : {s s1 : List ℕ} {c v : ℕ} → TakesFirst s s1 c v → slice_index s c ≢ 0
first_nonzero t z = t.nonzero (t.value ∙ z)

after_here : {s s1 : List ℕ} {c v : ℕ} → TakesFirst s s1 c v → slice_index s1 c ≡ 0
after_here {s} {s1} {c} {v} t = ap (λ xs. slice_index xs c) t.after ∙ get_or-set_same s c 0 0 t.inside

after_other : {s s1 : List ℕ} {c v : ℕ} → TakesFirst s s1 c v → (j : ℕ) → j ≢ c → slice_index s1 j ≡ slice_index s j
after_other {s} {s1} {c} {v} t j d = ap (λ xs. slice_index xs j) t.after ∙ get_or-set_other s c j 0 0 d

-- a residue put into a vector
pub set_vector : {p n : ℕ} {s : List ℕ} → IsVector p n s → (c v : ℕ) → v < p → IsVector p n (slice_set s c v)
set_vector {p} {n} {s} vector c v small = record {
  len = length-set s c v ∙ vector.len;
  residues = λ j l. elim (cases_eq j c) [
    | inl e ↦ let is : slice_index (slice_set s c v) j ≡ v = ap (slice_index (slice_set s c v)) e ∙ get_or-set_same s c v 0 (omega (arith, vector.len)) in omega arith
    | inr d ↦ let is : slice_index (slice_set s c v) j ≡ slice_index s j = get_or-set_other s c j v 0 d in let low : slice_index s j < p = vector.residues j l in omega arith
  ];
}

pub taken_vector : {p n : ℕ} {s s1 : List ℕ} {c v : ℕ} → 0 < p → IsVector p n s → TakesFirst s s1 c v → IsVector p n s1
taken_vector {p} {n} {s} {s1} {c} {v} pos vector t = subst (IsVector p n) (sym t.after) (set_vector vector c 0 pos)

-- at a column where no row leads the sum is put aside
pub draining_kept : {kept : KeptRows} {s0 w0 s w s1 : List ℕ} {c v : ℕ} → 2 ≤ kept.modulus → IsDraining kept s0 w0 s w → TakesFirst s s1 c v →
    ((k : ℕ) → k < kept.matrix.height → slice_index kept.leads k ≢ c) → IsDraining kept s0 w0 s1 (slice_set w c v)
draining_kept {kept} {s0} {w0} {s} {w} {s1} {c} {v} two d t none = record {
  sums = taken_vector (omega arith) d.sums t;
  rest = set_vector d.rest c v small;
  behind = λ j k lj n le lk.
      let apart : j ≢ c = λ e. n (ap (slice_index s1) e ∙ after_here t) in
      let past : c ≤ j = taken_before t j (λ z. n (after_other t j apart ∙ z)) in
      other k (λ e. absurd (omega arith)) ∙ d.behind c k inside (first_nonzero t) (omega arith) lk;
  at_leads = λ k l. other (slice_index kept.leads k) (none k l) ∙ d.at_leads k l;
  before = λ low zero j l.
      let old : (slice_index s j ≡ 0) × (slice_index w j ≡ slice_index w0 j) = d.before low zero j l in
      let apart : j ≢ c = λ e. first_nonzero t (ap (slice_index s) (sym e) ∙ old.0) in
      (after_other t j apart ∙ old.0, other j apart ∙ old.1);
  differs = subst (DiffersBy kept.modulus kept.matrix (both kept.modulus kept.matrix.width s0 w0)) same d.differs;
}
  where
    n : ℕ
    n = kept.matrix.width

    p : ℕ
    p = kept.modulus

    inside : c < n
    inside = omega (arith, t.inside, d.sums.len)

    small : v < p
    small = omega (arith, t.value, d.sums.residues c inside)

    here : slice_index (slice_set w c v) c ≡ v
    here = get_or-set_same w c v 0 (omega (arith, inside, d.rest.len))

    other : (j : ℕ) → j ≢ c → slice_index (slice_set w c v) j ≡ slice_index w j
    other j d = get_or-set_other w c j v 0 d

    same : both p n s w ≡ both p n s1 (slice_set w c v)
    same = list_of_equal n (λ j. (slice_index s j + slice_index w j) % p) (λ j. (slice_index s1 j + slice_index (slice_set w c v) j) % p) (λ j l. ap (λ x. x % p) (elim (cases_eq j c) [
      | inl e ↦
          let a : slice_index w j ≡ 0 = ap (slice_index w) e ∙ d.behind c c inside (first_nonzero t) (omega arith) inside in
          let b : slice_index s1 j ≡ 0 = ap (slice_index s1) e ∙ after_here t in
          let f : slice_index (slice_set w c v) j ≡ v = ap (slice_index (slice_set w c v)) e ∙ here in
          let g : slice_index s j ≡ v = ap (slice_index s) e ∙ sym t.value in
          omega arith
      | inr d ↦ let a = after_other t j d in let b = other j d in omega (arith, a, b)
    ]))

-- v and a sum with f times x are the sum, where f is -v: the step of an entry
step_entry : (p s w f v x : ℕ) → (f + v) % p ≡ 0 → (s + w) % p ≡ (((s + f * x) % p + w) % p + v * x) % p
step_entry p s w f v x none =
    let inner : ((s + f * x) % p + w) % p ≡ (s + f * x + w) % p = add_same p ((s + f * x) % p) (s + f * x) w w (mod-mod (s + f * x) p) refl in
    let turn : s + f * x + w + v * x ≡ s + w + (f + v) * x = omega arith in
    sym (add_same p (((s + f * x) % p + w) % p) (s + f * x + w) (v * x) (v * x) (ap (λ t. t % p) inner ∙ mod-mod (s + f * x + w) p) refl
    ∙ ap (λ t. t % p) turn ∙ right_zero p (s + w) ((f + v) * x) (product_zero_left p (f + v) x none))

-- what an elimination by row k with tail x does to the sums
pub record IsEliminated (kept : KeptRows) (k c v : ℕ) (s1 s2 : List ℕ) : Type 0 where
  pub tail : List ℕ
  pub factor : ℕ
  pub inside : k < kept.matrix.height
  pub one : entry kept.matrix k c ≡ 1
  pub other : (j : ℕ) → j ≢ c → entry kept.matrix k j ≡ slice_index tail j
  pub left : (j : ℕ) → j ≤ c → slice_index tail j ≡ 0
  pub negative : (factor + v) % kept.modulus ≡ 0
  pub vector : IsVector kept.modulus kept.matrix.width s2
  pub sums : (j : ℕ) → j < kept.matrix.width → slice_index s2 j ≡ (slice_index s1 j + factor * slice_index tail j) % kept.modulus

-- the sums are 0 up to its lead
pub eliminated_zero : {kept : KeptRows} {s s1 s2 : List ℕ} {k c v : ℕ} → 2 ≤ kept.modulus → length s ≡ kept.matrix.width → TakesFirst s s1 c v → IsEliminated kept k c v s1 s2 → (j : ℕ) → j ≤ c → slice_index s2 j ≡ 0
eliminated_zero {kept} {s} {s1} {s2} {k} {c} {v} two long t e j le =
    let was : slice_index s1 j ≡ 0 = elim (cases_eq j c) [ inl same ↦ ap (slice_index s1) same ∙ after_here t | inr d ↦ after_other t j d ∙ t.before j (omega arith) ] in
    e.sums j (omega (arith, t.inside)) ∙ ap (λ x. (x + e.factor * slice_index e.tail j) % kept.modulus) was ∙ ap (λ x. (0 + e.factor * x) % kept.modulus) (e.left j le)
    ∙ ap (λ x. (0 + x) % kept.modulus) (mul-zero e.factor) ∙ mod-eq_of_lt (omega arith)

pub draining_eliminated : {kept : KeptRows} {s0 w0 s w s1 s2 : List ℕ} {k c v : ℕ} → IsSound kept → IsDraining kept s0 w0 s w → TakesFirst s s1 c v →
    IsEliminated kept k c v s1 s2 → IsDraining kept s0 w0 s2 w
draining_eliminated {kept} {s0} {w0} {s} {w} {s1} {s2} {k} {c} {v} sound d t e = record {
  sums = e.vector;
  rest = d.rest;
  behind = λ j k lj n le lk.
      let past : c < j = elim (cases_lt c j) [ inl l ↦ l | inr le ↦ absurd (n (gone j le)) ] in
      d.behind c k inside (first_nonzero t) (omega arith) lk;
  at_leads = d.at_leads;
  before = λ low zero j l.
      let old : (i : ℕ) → i < low → slice_index s i ≡ 0 = λ i li. (d.before low zero i li).0 in
      let past : low ≤ c = elim (cases_lt c low) [ inl l ↦ absurd (first_nonzero t (old c l)) | inr le ↦ le ] in
      (gone j (omega arith), (d.before low zero j l).1);
  differs = differs_more p kept.matrix (both p n s0 w0) (both p n s w) (both p n s2 w) v k two sound.matrix e.inside d.differs (λ j l.
      at_list_of n (λ j. (slice_index s j + slice_index w j) % p) j l ∙ step j l
      ∙ sym (ap (λ x. (x + v * entry kept.matrix k j) % p) (at_list_of n (λ j. (slice_index s2 j + slice_index w j) % p) j l)));
}
  where
    n : ℕ
    n = kept.matrix.width

    p : ℕ
    p = kept.modulus

    two : 2 ≤ p
    two = sound.two_or_more

    inside : c < n
    inside = omega (arith, t.inside, d.sums.len)

    gone : (j : ℕ) → j ≤ c → slice_index s2 j ≡ 0
    gone = eliminated_zero two d.sums.len t e

    step : (j : ℕ) → j < n → (slice_index s j + slice_index w j) % p ≡ ((slice_index s2 j + slice_index w j) % p + v * entry kept.matrix k j) % p
    step j l = elim (cases_eq j c) [
      | inl same ↦
          let a : slice_index w j ≡ 0 = ap (slice_index w) same ∙ d.behind c c inside (first_nonzero t) (omega arith) inside in
          let b : slice_index s2 j ≡ 0 = gone j (omega arith) in
          let f : entry kept.matrix k j ≡ 1 = ap (entry kept.matrix k) same ∙ e.one in
          let g : slice_index s j ≡ v = ap (slice_index s) same ∙ sym t.value in
          let low : (slice_index s2 j + slice_index w j) % p ≡ 0 = ap (λ x. x % p) (let z : slice_index s2 j + slice_index w j ≡ 0 = omega arith in z) ∙ mod-eq_of_lt (omega arith) in
          ap (λ x. x % p) (let z : slice_index s j + slice_index w j ≡ (slice_index s2 j + slice_index w j) % p + v * 1 = omega arith in z)
          ∙ ap (λ x. ((slice_index s2 j + slice_index w j) % p + v * x) % p) (sym f)
      | inr apart ↦
          step_entry p (slice_index s j) (slice_index w j) e.factor v (slice_index e.tail j) e.negative
          ∙ ap (λ x. (((x + e.factor * slice_index e.tail j) % p + slice_index w j) % p + v * slice_index e.tail j) % p) (sym (after_other t j apart))
          ∙ ap (λ x. ((x + slice_index w j) % p + v * slice_index e.tail j) % p) (sym (e.sums j l))
          ∙ ap (λ x. ((slice_index s2 j + slice_index w j) % p + v * x) % p) (sym (e.other j apart))
    ]

-- once all sums are 0, what was put aside is the rest
pub draining_all : {rows : List Led} {s0 : ResidueRow} {w0 s w : List ℕ} → IsDraining (kept_rows s0.modulus (length s0.row) rows) s0.row w0 s w → AllZero s → Drains rows s0 w0 w
draining_all {rows} {s0} {w0} {s} {w} d none = record {
  vector = d.rest;
  at_leads = λ k l. d.at_leads k (omega (arith, length-map rows whole));
  before = λ c zero j l. (d.before c zero j l).1;
  differs = subst (DiffersBy p (whole_matrix n rows) (both p n s0.row w0)) same d.differs;
}
  where
    n : ℕ
    n = length s0.row

    p : ℕ
    p = s0.modulus

    same : both p n s w ≡ w
    same = list_equal n (both p n s w) w (length_list_of n _) d.rest.len (λ j l.
        let z : slice_index s j + slice_index w j ≡ slice_index w j = omega (arith, none j (omega (arith, d.sums.len))) in
        at_list_of n (λ j. (slice_index s j + slice_index w j) % p) j l ∙ ap (λ x. x % p) z ∙ mod-eq_of_lt (d.rest.residues j l))

-- the columns and values of a row as they are stored, where modulus and length are named otherwise
pub sparse_of : {p n q m : ℕ} {v cols vals : List ℕ} → IsVector p n v → q ≡ p → m ≡ n → cols ≡ support v → vals ≡ nonzeros v → Stored.IsSparse q m cols vals
sparse_of {p} {n} {q} {m} {v} {cols} {vals} vector a b ca va = rw (a, b, ca, va) (support_sparse vector)

-- a multiple of these entries was added to the sums
abbrev pub Adds : ℕ → ℕ → List ℕ → List ℕ → List ℕ → List ℕ → Type 0
Adds p by cols vals old new = IsVector p (length old) new × ((j : ℕ) → j < length old → slice_index new j ≡ (slice_index old j + by * entry_at cols vals j) % p)

pub adds_entries : {p q : ℕ} (by : ℕ) (v : List ℕ) {cols vals : List ℕ} (old new : List ℕ) → q ≡ p → cols ≡ support v → vals ≡ nonzeros v → Adds q by cols vals old new →
    IsVector p (length old) new × ((j : ℕ) → j < length old → slice_index new j ≡ (slice_index old j + by * slice_index v j) % p)
adds_entries {p} {q} by v {cols} {vals} old new e ca va adds =
    let a : Adds p by (support v) (nonzeros v) old new = rw (← e, ← ca, ← va) adds in
    (a.0, λ j l. a.1 j l ∙ ap (λ x. (slice_index old j + by * x) % p) (entry_support v j))

-- what a kept row does to the sums
pub eliminated : {kept : KeptRows} {r : Led} {s s1 s2 : List ℕ} {c v : ℕ} → IsSound kept → IsVector kept.modulus kept.matrix.width s → TakesFirst s s1 c v →
    (at : LeadsAt kept r c) → (q f : ℕ) → q ≡ kept.modulus → f ≡ (q - v) % q → {cols vals : List ℕ} → cols ≡ support r.tail.row → vals ≡ nonzeros r.tail.row →
    Adds q f cols vals s1 s2 → IsEliminated kept at.k c v s1 s2
eliminated {kept} {r} {s} {s1} {s2} {c} {v} sound vector t at q f e fe {cols} {vals} ca va adds = record {
  tail = r.tail.row;
  factor = f;
  inside = at.inside;
  one = ap (λ u. slice_index u c) at.is_row ∙ ap (slice_index (whole r)) (sym at.lead) ∙ whole_lead at.led;
  other = λ j d. ap (λ u. slice_index u j) at.is_row ∙ whole_other r j (λ z. d (z ∙ at.lead));
  left = λ j l. at.led.behind j (omega (arith, at.lead));
  negative =
      let p : ℕ = kept.modulus in
      let small : v < p = omega (arith, t.value, vector.residues c (omega (arith, t.inside, vector.len))) in
      let is : f ≡ (p - v) % p = fe ∙ ap (λ p. (p - v) % p) e in
      let turn : p - v + v ≡ 1 * p = omega arith in
      add_same p f (p - v) v v (ap (λ x. x % p) is ∙ mod-mod (p - v) p) refl ∙ ap (λ x. x % p) turn ∙ multiple_zero p 1;
  vector = subst (λ n. IsVector kept.modulus n s2) long both_facts.0;
  sums = λ j l. both_facts.1 j (omega (arith, long));
}
  where
    long : length s1 ≡ kept.matrix.width
    long = ap length t.after ∙ length-set s c 0 ∙ vector.len

    both_facts : IsVector kept.modulus (length s1) s2 × ((j : ℕ) → j < length s1 → slice_index s2 j ≡ (slice_index s1 j + f * slice_index r.tail.row j) % kept.modulus)
    both_facts = adds_entries f r.tail.row s1 s2 e ca va adds

-- so less is to come
pub eliminated_falls : {kept : KeptRows} {s s1 s2 : List ℕ} {k c v : ℕ} → IsSound kept → IsVector kept.modulus kept.matrix.width s → TakesFirst s s1 c v → IsEliminated kept k c v s1 s2 → extent s2 < extent s
eliminated_falls {kept} {s} {s1} {s2} {k} {c} {v} sound vector t e =
    extent_falls s s2 c (e.vector.len ∙ sym vector.len) t.inside (first_nonzero t) (eliminated_zero sound.two_or_more vector.len t e)
