-- Rows that are stored by their leads and tails.
use Rattle.std.proofs.Common.{ℕ, ◌≡◌, ◌≢◌, ◌<◌, ◌≤◌, List, [], length, map, slice_index, slice_index_or, inl, inr, sym, refl, ap, subst, ◌∙◌, arith}
use Rattle.std.proofs.lemmas.List.{length-set, get_or-set_same, get_or-set_other, get_or_default, get_or-map, length-map}
use Rattle.std.proofs.lemmas.Bool.{cases_eq}
use Rattle.residue_words.specs.Matrix.{IsVector, row}
use Rattle.row_space.proofs.Counting.{pigeonhole}
use Rattle.lead_rows.specs.Leads.{KeptRows, IsSound}
use Rattle.lead_rows.specs.Led.{IsKept, IsLed, LeadsAt, kept_rows, whole, whole_matrix, leads_of}
use Rattle.lead_rows.specs.declared.led.Led.{Led}

abbrev pub no_led : Led
no_led = record { lead = 0; tail = record { modulus = 0; row = [] } }

abbrev pub led : List Led → ℕ → Led
led rows k = slice_index_or rows k no_led

-- the lead and the row at k
pub lead_at : (rows : List Led) (k : ℕ) → k < length rows → slice_index (leads_of rows) k ≡ (led rows k).lead
lead_at rows k l = get_or-map (λ (r : Led). r.lead) rows k no_led 0 l

pub whole_at : (n : ℕ) (rows : List Led) (k : ℕ) → k < length rows → row (whole_matrix n rows) k ≡ whole (led rows k)
whole_at n rows k l = get_or-map whole rows k no_led [] l

-- its entries
pub whole_lead : {p n : ℕ} {r : Led} → IsLed p n r → slice_index (whole r) r.lead ≡ 1
whole_lead {p} {n} {r} led = get_or-set_same r.tail.row r.lead 1 0 (omega (arith, led.lead, led.vector.len))

pub whole_other : (r : Led) (j : ℕ) → j ≢ r.lead → slice_index (whole r) j ≡ slice_index r.tail.row j
whole_other r j d = get_or-set_other r.tail.row r.lead j 1 0 d

pub whole_vector : {p n : ℕ} {r : Led} → 2 ≤ p → IsLed p n r → IsVector p n (whole r)
whole_vector {p} {n} {r} two led = record {
  len = length-set r.tail.row r.lead 1 ∙ led.vector.len;
  residues = λ j l. elim (cases_eq j r.lead) [
    | inl e ↦ let one : slice_index (whole r) j ≡ 1 = ap (slice_index (whole r)) e ∙ whole_lead led in omega arith
    | inr d ↦ let same : slice_index (whole r) j ≡ slice_index r.tail.row j = whole_other r j d in let small : slice_index r.tail.row j < p = led.vector.residues j l in omega arith
  ];
}

-- the leads are distinct and below the width, so there are not more rows than columns
pub kept_short : {p n : ℕ} {rows : List Led} {row_at : List ℕ} → IsKept p n rows row_at → length rows ≤ n
kept_short {p} {n} {rows} {row_at} kept =
    pigeonhole (length rows) n (λ k. (led rows k).lead) (λ k l. (kept.each k no_led l).lead)
    (λ k t lk lt e. sym (kept.found k no_led lk) ∙ ap (slice_index row_at) e ∙ kept.found t no_led lt)

-- they are what callers are told
pub kept_sound : {p n : ℕ} {rows : List Led} {row_at : List ℕ} → IsKept p n rows row_at → IsSound (kept_rows p n rows)
kept_sound {p} {n} {rows} {row_at} kept = record {
  two_or_more = kept.two_or_more;
  in_range = kept.in_range;
  width_small = kept.width_small;
  matrix = record { len = refl; each = λ k l. subst (IsVector p n) (sym (whole_at n rows k (inside k l))) (whole_vector kept.two_or_more (kept.each k no_led (inside k l))) };
  leads = record {
    len = length-map rows (λ (r : Led). r.lead) ∙ sym (length-map rows whole);
    inside = λ k l. subst (λ c. c < n) (sym (lead_at rows k (inside k l))) (kept.each k no_led (inside k l)).lead;
    one = λ k l. ap (λ v. slice_index v (slice_index (leads_of rows) k)) (whole_at n rows k (inside k l)) ∙ ap (slice_index (whole (led rows k))) (lead_at rows k (inside k l))
        ∙ whole_lead (kept.each k no_led (inside k l));
    left = λ k j l before.
        let less : j < (led rows k).lead = subst (λ c. j < c) (lead_at rows k (inside k l)) before in
        ap (λ v. slice_index v j) (whole_at n rows k (inside k l)) ∙ whole_other (led rows k) j (λ e. absurd (omega arith))
        ∙ (kept.each k no_led (inside k l)).behind j (omega arith);
    distinct = λ k t a b e.
        let lt : t < length rows = inside t b in
        let lk : k < length rows = omega arith in
        let same : k ≡ t = sym (kept.found k no_led lk) ∙ ap (slice_index row_at) (sym (lead_at rows k lk) ∙ e ∙ lead_at rows t lt) ∙ kept.found t no_led lt in
        omega arith;
  };
}
  where
    inside : (k : ℕ) → k < length (map whole rows) → k < length rows
    inside k l = omega (arith, length-map rows whole)

-- what the list of columns answers
pub found_none : {p n : ℕ} {rows : List Led} {row_at : List ℕ} → IsKept p n rows row_at → (c : ℕ) → slice_index row_at c ≡ 4294967295 →
    (k : ℕ) → k < length (map whole rows) → slice_index (leads_of rows) k ≢ c
found_none {p} {n} {rows} {row_at} kept c none k l e =
    let inside : k < length rows = omega (arith, length-map rows whole) in
    let here : slice_index row_at c ≡ k = ap (slice_index row_at) (sym e ∙ lead_at rows k inside) ∙ kept.found k no_led inside in
    let short : length rows ≤ n = kept_short kept in
    let small : n ≤ 2147483648 = kept.width_small in
    omega arith

pub found_some : {p n : ℕ} {rows : List Led} {row_at : List ℕ} → IsKept p n rows row_at → (c : ℕ) → c < n → (k : ℕ) → k ≡ slice_index row_at c → k ≢ 4294967295 →
    (k < length rows) × ((r : Led) → r ≡ slice_index_or rows k r → LeadsAt (kept_rows p n rows) r c)
found_some {p} {n} {rows} {row_at} kept c l k e some =
    let only = kept.only c no_led l (λ z. some (e ∙ z)) in
    let inside : k < length rows = subst (λ k. k < length rows) (sym e) only.0 in (
      inside,
      λ r is.
          let same : led rows k ≡ r = get_or_default rows k no_led r inside ∙ sym is in
          record {
            k = k;
            inside = omega (arith, length-map rows whole);
            lead = subst (λ (r : Led). r.lead ≡ c) same (subst (λ k. (led rows k).lead ≡ c) (sym e) only.1);
            led = subst (IsLed p n) same (kept.each k no_led inside);
            is_row = whole_at n rows k inside ∙ ap whole same;
          },
    )

-- what a read of the rows gives
pub record IsAt (kept : KeptRows) (k : ℕ) (r : Led) : Type 0 where
  pub inside : k < kept.matrix.height
  pub led : IsLed kept.modulus kept.matrix.width r
  pub lead : slice_index kept.leads k ≡ r.lead
  pub is_row : row kept.matrix k ≡ whole r

pub read_led : {p n : ℕ} {rows : List Led} {row_at : List ℕ} → IsKept p n rows row_at → (k : ℕ) → k < length (map whole rows) → (r : Led) → r ≡ slice_index_or rows k r → IsAt (kept_rows p n rows) k r
read_led {p} {n} {rows} {row_at} kept k l r is =
    let inside : k < length rows = omega (arith, length-map rows whole) in
    let same : led rows k ≡ r = get_or_default rows k no_led r inside ∙ sym is in
    record {
      inside = l;
      led = subst (IsLed p n) same (kept.each k no_led inside);
      lead = lead_at rows k inside ∙ ap (λ (r : Led). r.lead) same;
      is_row = whole_at n rows k inside ∙ ap whole same;
    }
