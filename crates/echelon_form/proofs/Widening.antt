-- What is true of a form stays true when its columns stand at other columns, and zeros between.
use Rattle.std.proofs.Common.{ℕ, zero, suc, ◌≡◌, ◌≢◌, ◌*◌, ◌%◌, ◌<◌, ◌≤◌, ◌⊎◌, List, [], ◌∷◌, length, map, slice_index, inl, inr, sym, refl, ap, subst, ◌∙◌, arith, mod-eq_of_lt, mul-zero}
use Rattle.std.proofs.lemmas.Bool.{cases_eq}
use Rattle.std.proofs.lemmas.List.{get_or-map, length-map}
use Rattle.residue_words.specs.Residues.{IsPrime, sum_below}
use Rattle.residue_words.specs.Matrix.{Matrix, IsMatrix, IsCombination, entry, list_of, row}
use Rattle.residue_words.proofs.Sums.{sum_equal, sum_zero}
use Rattle.residue_words.proofs.Vectors.{at_combine, combination_vector, entry_matrix_of, entry_residue, is_matrix_of, list_of_equal, row_combination, row_matrix_of}
use Rattle.row_space.specs.Echelon.{HasLeads, HasRank, IsRref, SameSpan}
use Rattle.row_space.proofs.Spans.{same_span_of_rows}
use Rattle.sparse_rows.specs.Rows.{AreEnough, AreRising, narrowed, widened}
use Rattle.sparse_rows.specs.Stored.{entry_at}
use Rattle.sparse_rows.proofs.Rising.{rising_order, rising_short}
use Rattle.sparse_rows.proofs.Renaming.{widened_narrowed}
use Rattle.sparse_rows.proofs.Spread.{entry_cover, entry_here}
use Rattle.echelon_form.specs.Form.{Form, IsEchelon, IsFormOf, widened_form}

-- a column is among others or not
among : (cs : List ℕ) (j : ℕ) → ((k : ℕ) × (k < length cs) × (slice_index cs k ≡ j)) ⊎ ((k : ℕ) → k < length cs → slice_index cs k ≢ j)
among [] j = inr (λ k l. absurd (omega arith))
among (c ∷ cs) j = elim (cases_eq c j) [
  | inl e ↦ inl (0, omega arith, e)
  | inr d ↦ elim (among cs j) [
    | inl w ↦ inl (suc w.0, omega (arith, w.1), w.2)
    | inr none ↦ inr (apart d none)
  ]
]
  where
    apart : c ≢ j → ((k : ℕ) → k < length cs → slice_index cs k ≢ j) → (k : ℕ) → k < length (c ∷ cs) → slice_index (c ∷ cs) k ≢ j
    apart d none zero l = d
    apart d none (suc k) l = none k (omega arith)

-- off the columns the entry is 0
entry_off : (cs vs : List ℕ) (j : ℕ) → ((k : ℕ) → k < length cs → slice_index cs k ≢ j) → entry_at cs vs j ≡ 0
entry_off cs vs j none = elim (entry_cover cs vs j) [ inl z ↦ z | inr w ↦ absurd (none w.0 w.1 w.2) ]

module _ (n : ℕ) (columns : List ℕ) (up : AreRising columns) (low : (k : ℕ) → k < length columns → slice_index columns k < n) where
  -- an entry at a column that is named, and elsewhere
  at_column : (p : ℕ) (E : Matrix) → IsMatrix p E → E.width ≡ length columns → (i k : ℕ) → i < E.height → k < length columns → entry (widened E n columns) i (slice_index columns k) ≡ entry E i k
  at_column p E m long i k l b =
      entry_matrix_of E.height n (λ i. entry_at columns (row E i)) i (slice_index columns k) l (low k b) ∙ entry_here columns (row E i) (sym long ∙ sym (m.each i l).len) up k b

  off_column : (E : Matrix) (i j : ℕ) → i < E.height → j < n → ((k : ℕ) → k < length columns → slice_index columns k ≢ j) → entry (widened E n columns) i j ≡ 0
  off_column E i j l b none = entry_matrix_of E.height n (λ i. entry_at columns (row E i)) i j l b ∙ entry_off columns (row E i) j none

  matrix_widened : (p : ℕ) (E : Matrix) → 0 < p → IsMatrix p E → E.width ≡ length columns → IsMatrix p (widened E n columns)
  matrix_widened p E pos m long = is_matrix_of p E.height n (λ i. entry_at columns (row E i)) (λ i j l b. elim (among columns j) [
    | inl w ↦
        let here : entry_at columns (row E i) j ≡ entry E i w.0 =
        ap (entry_at columns (row E i)) (sym w.2) ∙ entry_here columns (row E i) (sym long ∙ sym (m.each i l).len) up w.0 w.1 in
        omega (arith, here, entry_residue p E m i w.0 l (omega (arith, w.1, long)))
    | inr none ↦ omega (arith, entry_off columns (row E i) j none)
  ])

  -- a row that is widened
  row_widened : (E : Matrix) (i : ℕ) → i < E.height → row (widened E n columns) i ≡ list_of n (entry_at columns (row E i))
  row_widened E i l = row_matrix_of E.height n (λ i. entry_at columns (row E i)) i l

  combination_widened : (p : ℕ) (E : Matrix) (u : List ℕ) → 0 < p → IsMatrix p E → E.width ≡ length columns → IsCombination p E u → IsCombination p (widened E n columns) (list_of n (entry_at columns u))
  combination_widened p E u pos m long c = (
    c.0,
    c.1,
    list_of_equal n (entry_at columns u) (λ j. sum_below E.height (λ i. slice_index c.0 i * entry (widened E n columns) i j) % p) (λ j b. elim (among columns j) [
      | inl w ↦
          ap (entry_at columns u) (sym w.2) ∙ entry_here columns u (sym long ∙ sym (combination_vector p E u pos c).len) up w.0 w.1
          ∙ ap (λ v. slice_index v w.0) c.2 ∙ at_combine p c.0 E w.0 (omega (arith, w.1, long))
          ∙ ap (λ t. t % p) (sum_equal E.height (λ i. slice_index c.0 i * entry E i w.0) (λ i. slice_index c.0 i * entry (widened E n columns) i j)
          (λ i l. ap (λ t. slice_index c.0 i * t) (sym (at_column p E m long i w.0 l w.1) ∙ ap (entry (widened E n columns) i) w.2)))
      | inr none ↦
          entry_off columns u j none
          ∙ sym (ap (λ t. t % p) (sum_zero E.height (λ i. slice_index c.0 i * entry (widened E n columns) i j)
          (λ i l. ap (λ t. slice_index c.0 i * t) (off_column E i j l b none) ∙ mul-zero (slice_index c.0 i))) ∙ mod-eq_of_lt pos)
    ]),
  )

  -- row spaces stay the same
  rows_widened : (p : ℕ) (A E : Matrix) → 2 ≤ p → IsMatrix p A → IsMatrix p E → E.width ≡ length columns → SameSpan p A E →
      (i : ℕ) → i < A.height → IsCombination p (widened E n columns) (row (widened A n columns) i)
  rows_widened p A E two ma me le span i l = subst (IsCombination p (widened E n columns)) (sym (row_widened A i l))
      (combination_widened p E (row A i) (omega arith) me le ((span (row A i)).0 (row_combination p A i two ma l)))

  span_widened : (p : ℕ) (A E : Matrix) → 2 ≤ p → IsMatrix p A → IsMatrix p E → A.width ≡ length columns → E.width ≡ length columns → SameSpan p A E → SameSpan p (widened A n columns) (widened E n columns)
  span_widened p A E two ma me la le span =
      same_span_of_rows p (widened A n columns) (widened E n columns) (omega arith) refl (rows_widened p A E two ma me le span)
      (rows_widened p E A two me ma la (λ v. ((span v).1, (span v).0)))

  -- leads by their new columns
  lead_widened : (leads : List ℕ) (k : ℕ) → k < length leads → slice_index (map (slice_index columns) leads) k ≡ slice_index columns (slice_index leads k)
  lead_widened leads k l = get_or-map (slice_index columns) leads k 0 0 l

  leads_widened : (p : ℕ) (E : Matrix) (leads : List ℕ) → IsMatrix p E → E.width ≡ length columns → HasLeads E leads → HasLeads (widened E n columns) (map (slice_index columns) leads)
  leads_widened p E leads m long h = (
    length-map leads (slice_index columns) ∙ h.0,
    record {
      inside = λ k l. omega (arith, lead k l, low (slice_index leads k) (within k l));
      one = λ k l. ap (entry (widened E n columns) k) (lead k l) ∙ at_column p E m long k (slice_index leads k) l (within k l) ∙ h.1.one k l;
      past = λ k j l b before. elim (among columns j) [
        | inl w ↦
            let less : w.0 < slice_index leads k = rising_order columns up w.0 (slice_index leads k) w.1 (within k l) (omega (arith, w.2, lead k l, before)) in
            ap (entry (widened E n columns) k) (sym w.2) ∙ at_column p E m long k w.0 l w.1 ∙ h.1.past k w.0 l (omega (arith, w.1, long)) less
        | inr none ↦ off_column E k j l b none
      ];
      rising = λ k t a b. omega (arith, lead k (omega arith), lead t b, up (slice_index leads k) (slice_index leads t) (h.1.rising k t a b) (within t b));
      alone = λ k t a b d. ap (entry (widened E n columns) t) (lead k a) ∙ at_column p E m long t (slice_index leads k) b (within k a) ∙ h.1.alone k t a b d;
    },
  )
    where
      lead : (k : ℕ) → k < E.height → slice_index (map (slice_index columns) leads) k ≡ slice_index columns (slice_index leads k)
      lead k l = lead_widened leads k (omega (arith, h.0))

      within : (k : ℕ) → k < E.height → slice_index leads k < length columns
      within k l = omega (arith, h.1.inside k l, long)

  -- the echelon form is that of the wide matrix
  rref_widened : (p : ℕ) (A E : Matrix) → 2 ≤ p → IsMatrix p A → A.width ≡ length columns → IsRref p A E → IsRref p (widened A n columns) (widened E n columns)
  rref_widened p A E two m long r = record {
    matrix = matrix_widened p E (omega arith) r.matrix (r.width ∙ long);
    width = refl;
    form = (map (slice_index columns) r.form.0, leads_widened p E r.form.0 r.matrix (r.width ∙ long) r.form.1);
    span = span_widened p A E two m r.matrix long (r.width ∙ long) r.span;
  }

  -- a form is one also with its columns elsewhere
  pub echelon_widened : (f : Form) → 0 < f.modulus → IsEchelon f → f.matrix.width ≡ length columns → IsEchelon (widened_form f n columns)
  echelon_widened f pos h long = record {
    matrix = matrix_widened f.modulus f.matrix pos h.matrix long;
    rank = length-map f.leads (slice_index columns) ∙ h.rank;
    leads = leads_widened f.modulus f.matrix f.leads h.matrix long h.leads;
  }

-- the entries of a matrix at some of its columns
narrowed_matrix : (p : ℕ) (A : Matrix) (columns : List ℕ) → IsMatrix p A → AreEnough A columns → IsMatrix p (narrowed A columns)
narrowed_matrix p A columns m enough =
    is_matrix_of p A.height (length columns) (λ i k. entry A i (slice_index columns k)) (λ i k l b. entry_residue p A m i (slice_index columns k) l (enough.below k b))

-- so the form of the narrowed matrix, widened, is that of the matrix
form_widened : {p : ℕ} {A : Matrix} {columns : List ℕ} (f : Form) → 2 ≤ p → IsMatrix p A → AreEnough A columns → IsFormOf p (narrowed A columns) f → IsFormOf p A (widened_form f A.width columns)
form_widened {p} {A} {columns} f two m enough h = record {
  modulus = h.modulus;
  matrix = matrix_widened A.width columns enough.rising enough.below p f.matrix (omega arith) h.matrix h.width;
  width = refl;
  short = omega (arith, h.short, rising_short columns A.width enough.rising enough.below);
  rank = length-map f.leads (slice_index columns) ∙ h.rank;
  rref = λ prime. subst (λ B. IsRref p B (widened f.matrix A.width columns)) (widened_narrowed p A columns m enough)
      (rref_widened A.width columns enough.rising enough.below p (narrowed A columns) f.matrix two (narrowed_matrix p A columns m enough) refl (h.rref prime));
  leads = leads_widened A.width columns enough.rising enough.below p f.matrix f.leads h.matrix h.width h.leads;
}

-- and the rank stays
rank_widened : {p r : ℕ} {A : Matrix} {columns : List ℕ} → 2 ≤ p → IsMatrix p A → AreEnough A columns → HasRank p (narrowed A columns) r → HasRank p A r
rank_widened {p} {r} {A} {columns} two m enough h = (
  widened h.0 A.width columns,
  subst (λ B. IsRref p B (widened h.0 A.width columns)) (widened_narrowed p A columns m enough)
      (rref_widened A.width columns enough.rising enough.below p (narrowed A columns) h.0 two (narrowed_matrix p A columns m enough) refl h.1),
  h.2,
)

-- the same of a matrix that is the narrowed one
pub narrow_rank : {p q r : ℕ} {A N : Matrix} {columns : List ℕ} → IsMatrix p A → AreEnough A columns → N ≡ narrowed A columns → q ≡ p → (IsPrime q → HasRank q N r) → IsPrime p → HasRank p A r
narrow_rank {p} {q} {r} {A} {N} {columns} m enough e f rank prime =
    rank_widened prime.two_or_more m enough (subst (λ M. HasRank p M r) e (subst (λ q. IsPrime q → HasRank q N r) f rank prime))

pub narrow_width : {r : ℕ} {A N : Matrix} {columns : List ℕ} → AreEnough A columns → N ≡ narrowed A columns → r ≤ N.width → r ≤ A.width
narrow_width {r} {A} {N} {columns} enough e l = omega (arith, ap (λ (M : Matrix). M.width) e, rising_short columns A.width enough.rising enough.below)

pub narrow_form : {p q n : ℕ} {A N : Matrix} {columns : List ℕ} {f e : Form} → 2 ≤ p → IsMatrix p A → AreEnough A columns → N ≡ narrowed A columns → q ≡ p → n ≡ A.width → IsFormOf q N f →
    e ≡ widened_form f n columns → IsFormOf p A e
narrow_form {p} {q} {n} {A} {N} {columns} {f} {e} two m enough is same width h made =
    subst (IsFormOf p A) (sym (made ∙ ap (λ n. widened_form f n columns) width)) (form_widened f two m enough (subst (λ M. IsFormOf p M f) is (subst (λ q. IsFormOf q N f) same h)))
