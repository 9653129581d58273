-- The settled rows by ascending leads are the echelon form.
use Rattle.std.proofs.Common.{ℕ, zero, suc, ◌≡◌, ◌+◌, ◌<◌, ◌≤◌, List, [], ◌∷◌, length, map, slice_index, slice_index_or, inl, inr, sym, refl, ap, subst, ◌∙◌, arith}
use Rattle.std.proofs.Math.ListN.{get_or-append}
use Rattle.std.proofs.Math.Seq.{get_or-append_seam}
use Rattle.std.proofs.lemmas.Bool.{cases_eq, cases_lt}
use Rattle.std.proofs.lemmas.List.{get_or-map, length-map}
use Rattle.residue_words.specs.Residues.{IsPrime}
use Rattle.residue_words.specs.Matrix.{Matrix, IsMatrix, IsVector, IsCombination, entry, row}
use Rattle.residue_words.proofs.Vectors.{combination_through}
use Rattle.row_space.specs.Echelon.{HasLeads, HasPlaces, SameSpan}
use Rattle.row_space.proofs.Counting.{spanned_back}
use Rattle.row_space.proofs.Spans.{places_independent, same_span_chained}
use Rattle.sparse_rows.specs.Rows.{ResidueRow}
use Rattle.sparse_rows.specs.Stored.{with_row}
use Rattle.lead_rows.specs.Leads.{KeptRows, IsSettled, IsSound}
use Rattle.echelon_form.specs.Form.{Form, IsEchelon, IsFormOf}
use Rattle.echelon_form.specs.Settling.{IsOrderOfLeads, AreSettled, IsSettledRow}
use Rattle.sparse_rows.proofs.Loops.{matrix_more}

-- at first there is none
pub settled_none : (kept : KeptRows) (order : List (ℕ × ℕ)) (E : Matrix) → E ≡ record { height = 0; width = kept.matrix.width; rows = [] } → AreSettled kept order 0 E
settled_none kept order E e = record {
  matrix = subst (IsMatrix kept.modulus) (sym e) (record { len = refl; each = λ i l. absurd (omega arith) });
  height = ap (λ m. m.height) e;
  width = ap (λ m. m.width) e;
  each = λ t c l. absurd (omega arith);
}

-- a settled row behind those before it
pub settled_more : {kept : KeptRows} {order : List (ℕ × ℕ)} {t : ℕ} {E : Matrix} (s : ResidueRow) → AreSettled kept order t E →
    ((c : ℕ × ℕ) → IsSettledRow kept (slice_index_or order t c).1 s) → AreSettled kept order (t + 1) (with_row E s.row)
settled_more {kept} {order} {t} {E} s before here = record {
  matrix = matrix_more before.matrix (subst (λ n. IsVector kept.modulus n s.row) (sym before.width) (here (0, 0)).settled.vector);
  height = ap (λ n. n + 1) before.height;
  width = before.width;
  each = λ k c l. elim (cases_eq k t) [
    | inl e ↦ subst (λ i. IsSettled kept (slice_index_or order i c).1 (row (with_row E s.row) k)) (sym e)
        (subst (IsSettled kept (slice_index_or order t c).1) (sym (last k e)) (here c).settled)
    | inr d ↦ let less : k < t = omega arith in subst (IsSettled kept (slice_index_or order k c).1) (sym (old k less)) (before.each k c less)
  ];
}
  where
    high : length E.rows ≡ t
    high = before.matrix.len ∙ before.height

    last : (k : ℕ) → k ≡ t → row (with_row E s.row) k ≡ s.row
    last k e = ap (row (with_row E s.row)) (e ∙ sym high) ∙ get_or-append_seam E.rows s.row [] []

    old : (k : ℕ) → k < t → row (with_row E s.row) k ≡ row E k
    old k l = get_or-append E.rows (s.row ∷ []) [] k (omega (arith, high))

-- they have these leads
pub settled_leads : {kept : KeptRows} {order : List (ℕ × ℕ)} {E : Matrix} → IsSound kept → IsOrderOfLeads kept order → AreSettled kept order (length order) E →
    HasLeads E (map (λ c. c.0) order)
settled_leads {kept} {order} {E} sound o s = (
  length-map order (λ (c : ℕ × ℕ). c.0) ∙ sym s.height,
  record {
    inside = λ k l. subst (λ n. slice_index leads k < n) (sym s.width) (subst (λ c. c < kept.matrix.width) (sym (lead k (low k l))) (sound.leads.inside (number k) (o.inside k none (low k l))));
    one = λ k l. ap (slice_index (row E k)) (lead k (low k l)) ∙ (s.each k none (low k l)).one;
    past = λ k j l m past. (s.each k none (low k l)).left j (subst (λ c. j < c) (lead k (low k l)) past);
    rising = λ k t a b. rising k t a (low t b);
    alone = λ k t a b d. ap (slice_index (row E t)) (lead k (low k a)) ∙ (s.each t none (low t b)).others (number k) (o.inside k none (low k a))
        (λ same. elim (cases_lt k t) [
          | inl less ↦ omega (arith, rising k t less (low t b), lead k (low k a), lead t (low t b), ap (slice_index kept.leads) same)
          | inr more ↦ omega (arith, rising t k (omega arith) (low k a), lead k (low k a), lead t (low t b), ap (slice_index kept.leads) same)
        ]);
  },
)
  where
    none : ℕ × ℕ
    none = (0, 0)

    leads : List ℕ
    leads = map (λ c. c.0) order

    number : ℕ → ℕ
    number k = (slice_index_or order k none).1

    low : (k : ℕ) → k < E.height → k < length order
    low k l = omega (arith, s.height)

    at : (k : ℕ) → k < length order → slice_index leads k ≡ (slice_index_or order k none).0
    at k l = get_or-map (λ (c : ℕ × ℕ). c.0) order k none 0 l

    lead : (k : ℕ) → k < length order → slice_index leads k ≡ slice_index kept.leads (number k)
    lead k l = at k l ∙ o.leads k none l

    rising : (k t : ℕ) → k < t → t < length order → slice_index leads k < slice_index leads t
    rising k t a b = omega (arith, at k (omega arith), at t b, o.rising k t none a b)

-- rising columns are no more than there are columns
rising_few : (r n : ℕ) (a : ℕ → ℕ) → ((k t : ℕ) → k < t → t < r → a k < a t) → ((k : ℕ) → k < r → a k < n) → r ≤ n
rising_few zero n a up low = omega arith
rising_few (suc r) n a up low =
    omega (arith, low r (omega arith), rising_few r (a r) a (λ k t m l. up k t m (omega arith)) (λ k l. up k r l (omega arith)))

-- as many independent rows of the kept rows' space span it
pub settled_span : {kept : KeptRows} {order : List (ℕ × ℕ)} {E : Matrix} → IsSound kept → IsOrderOfLeads kept order → AreSettled kept order (length order) E →
    SameSpan kept.modulus kept.matrix E
settled_span {kept} {order} {E} sound o s v =
    let pos : 0 < kept.modulus = omega (arith, sound.two_or_more) in
    let within : (u : List ℕ) → IsCombination kept.modulus E u → IsCombination kept.modulus kept.matrix u =
    λ u. combination_through kept.modulus E kept.matrix u pos s.width (λ t l. (s.each t (0, 0) (omega (arith, s.height))).spanned) in (
      spanned_back kept.modulus E kept.matrix sound.two_or_more (places_independent kept.modulus (λ j lead. j < lead) E (slice_index (map (λ c. c.0) order)) pos (settled_leads sound o s).1)
          within (omega (arith, s.height, o.long)) v,
      within v,
    )

-- so they and the leads are the form of the rows that the kept rows span
pub form_of_settled : {p q : ℕ} {A E : Matrix} {kept : KeptRows} {order : List (ℕ × ℕ)} {leads : List ℕ} → IsSound kept → IsOrderOfLeads kept order → AreSettled kept order (length order) E →
    leads ≡ map (λ c. c.0) order → q ≡ p → kept.modulus ≡ p → kept.matrix.width ≡ A.width → (IsPrime p → SameSpan p A kept.matrix) →
    IsFormOf p A (record { modulus = q; matrix = E; leads = leads })
form_of_settled {p} {q} {A} {E} {kept} {order} {leads} sound o s named same modulus width span = record {
  modulus = same;
  matrix = matrix;
  width = s.width ∙ width;
  short = subst (λ n. E.height ≤ n) (s.width ∙ width) (rising_few E.height E.width (slice_index (map (λ c. c.0) order)) places.rising places.inside);
  rank = ap length named ∙ length-map order (λ (c : ℕ × ℕ). c.0) ∙ sym s.height;
  rref = λ prime. record {
    matrix = matrix;
    width = s.width ∙ width;
    form = (map (λ c. c.0) order, settled_leads sound o s);
    span = same_span_chained p A kept.matrix E (span prime) (subst (λ n. SameSpan n kept.matrix E) modulus (settled_span sound o s));
  };
  leads = subst (HasLeads E) (sym named) (settled_leads sound o s);
}
  where
    matrix : IsMatrix p E
    matrix = subst (λ n. IsMatrix n E) modulus s.matrix

    places : HasPlaces (λ j lead. j < lead) E.height E.width (entry E) (slice_index (map (λ c. c.0) order))
    places = (settled_leads sound o s).1

-- the form of any matrix is one
pub echelon_of_form : {p : ℕ} {A : Matrix} (f : Form) → IsFormOf p A f → IsEchelon f
echelon_of_form {p} {A} f h = record {
  matrix = subst (λ n. IsMatrix n f.matrix) (sym h.modulus) h.matrix;
  rank = h.rank;
  leads = h.leads;
}
