-- One kept row more.
use Rattle.std.proofs.Common.{ℕ, ◌≡◌, ◌≢◌, ◌+◌, ◌*◌, ◌%◌, ◌<◌, ◌≤◌, ◌↔◌, Option, None, Some, List, [], ◌∷◌, ◌++◌, length, map, slice_index, slice_index_or, slice_set, inl, inr, sym, refl, ap, ap₂, subst, ◌∙◌, arith, length-append, mod-eq_of_lt, mul-zero}
use native.Mathlib.Nat.{zero-mod}
use Rattle.std.proofs.Math.ListN.{get_or-append}
use Rattle.std.proofs.Math.Seq.{get_or-append_seam}
use Rattle.std.proofs.lemmas.List.{length-map, length-set, get_or-set_same, get_or-set_other, get_or_default, map-append}
use Rattle.std.proofs.lemmas.Bool.{cases_eq, cases_lt}
use Rattle.residue_words.specs.Residues.{IsPrime}
use Rattle.residue_words.specs.Matrix.{Matrix, IsVector, IsMatrix, IsCombination, entry, zeros}
use Rattle.residue_words.proofs.Sums.{sum_zero}
use Rattle.residue_words.proofs.Vectors.{at_combine, at_zeros, length_list_of, list_equal}
use Rattle.row_space.specs.Echelon.{SameSpan}
use Rattle.row_space.specs.Rows.{DiffersBy, of_rows}
use Rattle.row_space.proofs.Rows as Rows
use Rattle.row_space.proofs.Rows.{span_with_scaled}
use Rattle.sparse_rows.specs.Rows.{support}
use Rattle.sparse_rows.specs.Stored.{with_row}
use Rattle.lead_rows.specs.Leads.{KeptRows, IsSound, IsRest, Appends, Inserts}
use Rattle.lead_rows.specs.Led.{IsKept, IsLed, IsNewLead, IsTailOf, IsZeroAtLeads, Extends, ExtendsAt, kept_rows, leads_of, whole, whole_matrix, with_led}
use Rattle.lead_rows.specs.declared.led.Led.{Led}
use Rattle.lead_rows.proofs.LedRows.{no_led, led, lead_at}
use Rattle.lead_rows.proofs.Dividing.{IsListed, listed, listed_before}
use Rattle.lead_rows.proofs.Draining.{set_vector}

-- the rows before and the last, at any default
before_last : (rows : List Led) (r : Led) (k : ℕ) (d : Led) → k < length rows → slice_index_or (rows ++ r ∷ []) k d ≡ slice_index_or rows k d
before_last rows r k d l = get_or-append rows (r ∷ []) d k l

at_last : (rows : List Led) (r d : Led) → slice_index_or (rows ++ r ∷ []) (length rows) d ≡ r
at_last rows r d = get_or-append_seam rows r [] d

-- the fields stay sound with a row that leads where none did
pub kept_more : {p n : ℕ} {rows : List Led} {row_at : List ℕ} → IsKept p n rows row_at → (r : Led) → IsLed p n r →
    ((k : ℕ) → k < length rows → (led rows k).lead ≢ r.lead) → IsKept p n (rows ++ r ∷ []) (slice_set row_at r.lead (length rows))
kept_more {p} {n} {rows} {row_at} kept r is_led apart = record {
  two_or_more = kept.two_or_more;
  in_range = kept.in_range;
  width_small = kept.width_small;
  columns = length-set row_at r.lead (length rows) ∙ kept.columns;
  each = λ k d l. elim (cases_eq k (length rows)) [
    | inl e ↦ subst (IsLed p n) (sym (ap (λ k. slice_index_or (rows ++ r ∷ []) k d) e ∙ at_last rows r d)) is_led
    | inr old ↦ let inside : k < length rows = omega (arith, long) in subst (IsLed p n) (sym (before_last rows r k d inside)) (kept.each k d inside)
  ];
  found = λ k d l. elim (cases_eq k (length rows)) [
    | inl e ↦ ap (λ (s : Led). slice_index new_at s.lead) (ap (λ k. slice_index_or (rows ++ r ∷ []) k d) e ∙ at_last rows r d) ∙ here ∙ sym e
    | inr old ↦
        let inside : k < length rows = omega (arith, long) in
        let lead : (led rows k).lead ≡ (slice_index_or rows k d).lead = ap (λ (s : Led). s.lead) (get_or_default rows k no_led d inside) in
        ap (λ (s : Led). slice_index new_at s.lead) (before_last rows r k d inside)
        ∙ get_or-set_other row_at r.lead (slice_index_or rows k d).lead (length rows) 0 (λ z. apart k inside (lead ∙ z)) ∙ kept.found k d inside
  ];
  only = λ c d l some. elim (cases_eq c r.lead) [
    | inl e ↦
        let at : slice_index new_at c ≡ length rows = ap (slice_index new_at) e ∙ here in
        (omega (arith, at, long), ap (λ k. (slice_index_or (rows ++ r ∷ []) k d).lead) at ∙ ap (λ (s : Led). s.lead) (at_last rows r d) ∙ sym e)
    | inr other ↦
        let at : slice_index new_at c ≡ slice_index row_at c = get_or-set_other row_at r.lead c (length rows) 0 other in
        let old = kept.only c d l (λ z. some (at ∙ z)) in
        let inside : slice_index row_at c < length rows = old.0 in
        (omega (arith, at, long), ap (λ k. (slice_index_or (rows ++ r ∷ []) k d).lead) at ∙ ap (λ (s : Led). s.lead) (before_last rows r (slice_index row_at c) d inside) ∙ old.1)
  ];
}
  where
    new_at : List ℕ
    new_at = slice_set row_at r.lead (length rows)

    long : length (rows ++ r ∷ []) ≡ length rows + 1
    long = length-append rows (r ∷ [])

    here : slice_index new_at r.lead ≡ length rows
    here = get_or-set_same row_at r.lead (length rows) 0 (omega (arith, is_led.lead, kept.columns))

-- what callers see of it
pub whole_more : (n : ℕ) (rows : List Led) (r : Led) → whole_matrix n (rows ++ r ∷ []) ≡ with_row (whole_matrix n rows) (whole r)
whole_more n rows r = ap (λ (rows : List (List ℕ)). of_rows n rows) (map-append whole rows (r ∷ []))
    ∙ ap (λ h. record { height = h; width = n; rows = map whole rows ++ whole r ∷ [] }) (length-append (map whole rows) (whole r ∷ []))

pub leads_more : (rows : List Led) (r : Led) → leads_of (rows ++ r ∷ []) ≡ leads_of rows ++ r.lead ∷ []
leads_more rows r = map-append (λ (r : Led). r.lead) rows (r ∷ [])

-- a matrix is that of its rows, also with one more
pub of_own_rows : (p : ℕ) (A : Matrix) → IsMatrix p A → of_rows A.width A.rows ≡ A
of_own_rows p A m = ap (λ h. record { height = h; width = A.width; rows = A.rows }) m.len

pub with_own_row : (p : ℕ) (A : Matrix) (v : List ℕ) → IsMatrix p A → Rows.with_row A.width A.rows v ≡ with_row A v
with_own_row p A v m = ap (λ h. record { height = h; width = A.width; rows = A.rows ++ v ∷ [] }) (length-append A.rows (v ∷ []) ∙ ap (λ h. h + 1) m.len)

-- a combination is 0 where all rows are
pub combination_zero : {p : ℕ} (A : Matrix) {v : List ℕ} → IsCombination p A v → (s : ℕ) → s < A.width → ((i : ℕ) → i < A.height → entry A i s ≡ 0) → slice_index v s ≡ 0
combination_zero {p} A {v} c s l none =
    ap (λ u. slice_index u s) c.2 ∙ at_combine p c.0 A s l
    ∙ ap (λ t. t % p) (sum_zero A.height (λ i. slice_index c.0 i * entry A i s) (λ i li. ap (λ x. slice_index c.0 i * x) (none i li) ∙ mul-zero (slice_index c.0 i))) ∙ zero-mod p

-- the appended row is the rest times the factor
appended_scaled : {old new : KeptRows} {w : List ℕ} {c : ℕ} → 2 ≤ old.modulus → IsVector old.modulus old.matrix.width w → (e : ExtendsAt old new w c) → IsPrime old.modulus →
    (j : ℕ) → j < old.matrix.width → slice_index (slice_set e.tail c 1) j ≡ (e.is_tail.factor * slice_index w j) % old.modulus
appended_scaled {old} {new} {w} {c} two vector e prime j l =
    elim (cases_eq j c) [
      | inl same ↦ ap (slice_index (slice_set e.tail c 1)) same ∙ get_or-set_same e.tail c 1 0 (omega (arith, e.inside, vector.len, e.is_tail.vector.len))
          ∙ sym (ap (λ j. (e.is_tail.factor * slice_index w j) % old.modulus) same ∙ ap (λ x. x % old.modulus) (let turn : e.is_tail.factor * slice_index w c ≡ slice_index w c * e.is_tail.factor = omega arith in turn) ∙ e.is_tail.inverse prime)
      | inr d ↦ get_or-set_other e.tail c j 1 0 d ∙ elim (cases_lt c j) [
        | inl past ↦ e.is_tail.after j past (omega (arith, vector.len))
        | inr before ↦
            e.is_tail.behind j before
            ∙ sym (ap (λ x. (e.is_tail.factor * x) % old.modulus) (e.before j (omega arith)) ∙ ap (λ x. x % old.modulus) (mul-zero e.is_tail.factor) ∙ zero-mod old.modulus)
      ]
    ]

-- So appending what is left of a row appends the row, as callers are told.
appends_of_rest : {old new : KeptRows} {v w : List ℕ} {c : ℕ} → IsSound old → IsVector old.modulus old.matrix.width v → IsRest old v w → ExtendsAt old new w c → Appends old new v c
appends_of_rest {old} {new} {v} {w} {c} sound vv rest e = record {
  added = x;
  modulus = e.modulus;
  matrix = e.matrix;
  leads = e.leads;
  span = λ prime.
      let same : SameSpan p (with_row A v) (with_row A x) =
      subst (λ B. SameSpan p B (with_row A x)) (with_own_row p A v sound.matrix)
      (subst (λ B. SameSpan p (Rows.with_row A.width A.rows v) B) (with_own_row p A x sound.matrix)
      (span_with_scaled p A.width (slice_index w c) e.is_tail.factor A.rows A.rows v w x sound.two_or_more (e.is_tail.inverse prime) own own vv added_vector (λ u. ((λ i. i), (λ i. i)))
      (subst (λ B. DiffersBy p B v w) (sym (of_own_rows p A sound.matrix)) rest.differs) (appended_scaled sound.two_or_more rest.vector e prime))) in
      λ u. subst (λ B. IsCombination p B u ↔ IsCombination p (with_row A v) u) (sym e.matrix) ((same u).1, (same u).0);
  independent = λ combination.
      e.first (ap (λ u. slice_index u c) (rest.zero.1 combination) ∙ at_zeros A.width c e.inside);
  met = λ none zero.
      let part : slice_index rest.differs.part c ≡ 0 = combination_zero A rest.differs.combination c e.inside zero in
      let small : slice_index w c < p = rest.vector.residues c e.inside in
      let sum : (slice_index w c + slice_index rest.differs.part c) % p ≡ slice_index w c =
      ap (λ t. (slice_index w c + t) % p) part ∙ mod-eq_of_lt (omega (arith, small)) ∙ (let plain : slice_index w c + 0 ≡ slice_index w c = omega arith in plain) in
      e.first (sym sum ∙ sym (rest.differs.sum c e.inside) ∙ none);
}
  where
    p : ℕ
    p = old.modulus

    A : Matrix
    A = old.matrix

    x : List ℕ
    x = slice_set e.tail c 1

    own : IsMatrix p (of_rows A.width A.rows)
    own = subst (IsMatrix p) (sym (of_own_rows p A sound.matrix)) sound.matrix

    added_vector : IsVector p A.width x
    added_vector = set_vector (subst (λ n. IsVector p n e.tail) rest.vector.len e.is_tail.vector) c 1 (omega (arith, sound.two_or_more))

-- and one that leaves nothing is a combination
pub inserts_of_rest : {old : KeptRows} (new : KeptRows) {v w : List ℕ} → IsSound old → IsVector old.modulus old.matrix.width v → IsRest old v w → (lead : Option ℕ) → Extends old new w lead →
    Inserts old new v lead
inserts_of_rest new sound vv rest (Some c) e = appends_of_rest sound vv rest e
inserts_of_rest {old} new {v} {w} sound vv rest None e =
    let n : ℕ = old.matrix.width in (
      e.0,
      rest.zero.0 (list_equal n w (zeros n) rest.vector.len (length_list_of n (λ j. 0)) (λ j l. e.1 j (omega (arith, rest.vector.len)) ∙ sym (at_zeros n j l))),
    )

-- modulus and width stay
pub inserts_same : (old new : KeptRows) (v : List ℕ) (lead : Option ℕ) → Inserts old new v lead → (new.modulus ≡ old.modulus) × (new.matrix.width ≡ old.matrix.width)
inserts_same old new v (Some c) h = (h.modulus, ap (λ (A : Matrix). A.width) h.matrix)
inserts_same old new v None h = (ap (λ (k : KeptRows). k.modulus) h.0, ap (λ (k : KeptRows). k.matrix.width) h.0)

-- the row to keep: what is left of a row, divided
pub record IsToKeep (kept : KeptRows) (w : List ℕ) (r : Led) : Type 0 where
  pub vector : IsVector kept.modulus kept.matrix.width w
  pub some : 0 < length (support w)
  pub zero_at_leads : IsZeroAtLeads kept w
  pub lead : r.lead ≡ slice_index (support w) 0
  pub modulus : r.tail.modulus ≡ kept.modulus
  pub is_tail : IsTailOf kept.modulus w r.lead r.tail.row

pub to_keep : {kept : KeptRows} {w : List ℕ} {r : Led} {p : ℕ} {columns : List ℕ} → IsVector kept.modulus kept.matrix.width w → IsZeroAtLeads kept w → p ≡ kept.modulus →
    columns ≡ support w → length columns ≢ 0 → r.lead ≡ slice_index (support w) 0 → r.tail.modulus ≡ p → IsTailOf p w r.lead r.tail.row → IsToKeep kept w r
to_keep {kept} {w} {r} {p} {columns} vector zero_at_leads same listed some lead modulus tail = record {
  vector = vector;
  some = subst (λ u. 0 < length u) listed (omega arith);
  zero_at_leads = zero_at_leads;
  lead = lead;
  modulus = modulus ∙ same;
  is_tail = subst (λ p. IsTailOf p w r.lead r.tail.row) same tail;
}

-- it can be kept, and extends the kept rows
module _ {kept : KeptRows} {w : List ℕ} {r : Led} (t : IsToKeep kept w r) where
  s : IsListed kept.modulus w
  s = listed t.vector

  inside : r.lead < kept.matrix.width
  inside = omega (arith, t.lead, s.below 0 t.some, t.vector.len)

  first : slice_index w r.lead ≢ 0
  first z = s.nonzero 0 t.some (ap (slice_index w) (sym t.lead) ∙ z)

  pub to_keep_led : IsLed kept.modulus kept.matrix.width r
  to_keep_led = record { modulus = t.modulus; vector = subst (λ n. IsVector kept.modulus n r.tail.row) t.vector.len t.is_tail.vector; lead = inside; behind = t.is_tail.behind }

  pub to_keep_new : IsNewLead kept r.lead
  to_keep_new k l e = first (ap (slice_index w) (sym e) ∙ t.zero_at_leads k l)

  pub kept_extends : {new : KeptRows} → new ≡ with_led kept r → ExtendsAt kept new w r.lead
  kept_extends {new} e = subst (λ K. ExtendsAt kept K w r.lead) (sym e) (record {
    tail = r.tail.row;
    inside = inside;
    first = first;
    before = λ j less. listed_before s j (omega (arith, t.lead));
    is_tail = t.is_tail;
    modulus = refl;
    matrix = refl;
    leads = refl;
  })

-- a row was kept
kept_here : {p n : ℕ} {rows : List Led} {row_at : List ℕ} → IsKept p n rows row_at → (r : Led) → IsLed p n r → IsNewLead (kept_rows p n rows) r.lead →
    IsKept p n (rows ++ r ∷ []) (slice_set row_at r.lead (length rows)) × (kept_rows p n (rows ++ r ∷ []) ≡ with_led (kept_rows p n rows) r)
kept_here {p} {n} {rows} {row_at} kept r is alone = (
  kept_more kept r is (λ k l e. alone k (omega (arith, length-map rows whole)) (lead_at rows k l ∙ e)),
  ap₂ (λ (A : Matrix) (ls : List ℕ). record { modulus = p; matrix = A; leads = ls }) (whole_more n rows r) (leads_more rows r),
)

-- the same of the fields as the code has them
pub kept_led : {p n : ℕ} {rows : List Led} {row_at : List ℕ} → IsKept p n rows row_at → {kept : KeptRows} → kept_rows p n rows ≡ kept → {r : Led} → IsLed kept.modulus kept.matrix.width r → IsNewLead kept r.lead →
    {more : List Led} {k c : ℕ} → more ≡ rows ++ r ∷ [] → k ≡ length rows → c ≡ r.lead →
    IsKept p n more (slice_set row_at c k) × (kept_rows p n more ≡ with_led kept r)
kept_led {p} {n} {rows} {row_at} fields {kept} e {r} is alone {more} {k} {c} me ke ce =
    rw (me, ke, ce) (subst (λ (K : KeptRows). IsLed K.modulus K.matrix.width r → IsNewLead K r.lead → IsKept p n (rows ++ r ∷ []) (slice_set row_at r.lead (length rows)) × (kept_rows p n (rows ++ r ∷ []) ≡ with_led K r))
    e (kept_here fields r) is alone)
