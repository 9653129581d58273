-- Rows behind zeros.
use Rattle.std.proofs.Common.{ℕ, suc, ◌≡◌, ◌≢◌, ◌+◌, ◌-◌, ◌<◌, ◌≤◌, List, [], ◌∷◌, ◌++◌, length, map, slice_index, slice_set, take, inl, inr, sym, ap, ap₂, subst, ◌∙◌, arith, length-append}
use Rattle.std.proofs.Math.ListN.{get_or-append}
use Rattle.std.proofs.lemmas.List.{get_or-map, get_or-take, map-append, get_or-set_other, get_or-set_same, length-map, length-take-le, take_all, take_more}
use Rattle.std.proofs.lemmas.Bool.{cases_eq, cases_lt}
use Rattle.residue_words.specs.Matrix.{IsVector, Matrix, zeros}
use Rattle.residue_words.proofs.Vectors.{at_zeros, length_list_of, list_equal, zeros_vector}
use Rattle.sparse_rows.specs.Rows.{nonzeros, support}
use Rattle.lead_rows.specs.Leads.{KeptRows, behind_zeros, row_behind_zeros}
use Rattle.lead_rows.specs.Led.{IsKept, IsLed, IsNewLead, kept_rows, leads_of, whole, with_led}
use Rattle.lead_rows.specs.declared.led.Led.{Led}
use Rattle.lead_rows.proofs.Appending.{leads_more, whole_more}
use Rattle.lead_rows.proofs.Dividing.{IsListed}
use Rattle.lead_rows.proofs.Draining.{set_vector}
use Rattle.lead_rows.proofs.LedRows.{led, lead_at, no_led}

long_zeros : (count : ℕ) → length (zeros count) ≡ count
long_zeros count = length_list_of count (λ j. 0)

-- the entries of a row behind zeros
pub length_behind : (count : ℕ) (w : List ℕ) → length (row_behind_zeros count w) ≡ count + length w
length_behind count w = length-append (zeros count) w ∙ ap (λ n. n + length w) (long_zeros count)

pub behind_low : (count : ℕ) (w : List ℕ) (j : ℕ) → j < count → slice_index (row_behind_zeros count w) j ≡ 0
behind_low count w j l = get_or-append (zeros count) w 0 j (omega (arith, long_zeros count)) ∙ at_zeros count j l

at_behind : (zs w : List ℕ) (j : ℕ) → slice_index (zs ++ w) (length zs + j) ≡ slice_index w j
at_behind [] w j = ap (slice_index w) (let e : 0 + j ≡ j = omega arith in e)
at_behind (z ∷ zs) w j = ap (slice_index (z ∷ (zs ++ w))) (let e : length (z ∷ zs) + j ≡ suc (length zs + j) = omega arith in e) ∙ at_behind zs w j

pub behind_at : (count : ℕ) (w : List ℕ) (j : ℕ) → slice_index (row_behind_zeros count w) (count + j) ≡ slice_index w j
behind_at count w j = ap (λ n. slice_index (row_behind_zeros count w) (n + j)) (sym (long_zeros count)) ∙ at_behind (zeros count) w j

-- the first k entries of a row stand behind zeros, the others are 0
pub record IsMoving (p count : ℕ) (w : List ℕ) (k : ℕ) (tail : List ℕ) : Type 0 where
  pub vector : IsVector p (count + length w) tail
  pub low : (j : ℕ) → j < count → slice_index tail j ≡ 0
  pub done : (t : ℕ) → t < k → slice_index tail (count + slice_index (support w) t) ≡ slice_index w (slice_index (support w) t)
  pub left : (j : ℕ) → j < length w → ((t : ℕ) → t < k → slice_index (support w) t ≢ j) → slice_index tail (count + j) ≡ 0

pub moving_none : (p count : ℕ) (w : List ℕ) → 2 ≤ p → IsMoving p count w 0 (zeros (count + length w))
moving_none p count w two = record {
  vector = zeros_vector p (count + length w) (omega arith);
  low = λ j l. at_zeros (count + length w) j (omega arith);
  done = λ t l. absurd (omega arith);
  left = λ j l none. at_zeros (count + length w) (count + j) (omega arith);
}

-- nothing stands yet at the next column, nor behind it
pub moving_behind : {p count : ℕ} {w : List ℕ} {k : ℕ} {tail : List ℕ} → IsListed p w → IsMoving p count w k tail → k < length (support w) →
    (j : ℕ) → count + slice_index (support w) k ≤ j → j < count + length w → slice_index tail j ≡ 0
moving_behind {p} {count} {w} {k} {tail} s m l j le lj =
    let at : count + (j - count) ≡ j = omega arith in
    ap (slice_index tail) (sym at) ∙ m.left (j - count) (omega arith) (λ t lt e. let up : slice_index (support w) t < slice_index (support w) k = s.rising t k lt l in absurd (omega arith))

pub moving_put : {p count : ℕ} {w : List ℕ} {k : ℕ} {tail : List ℕ} → IsListed p w → IsMoving p count w k tail → k < length (support w) → slice_index (nonzeros w) k < p →
    IsMoving p count w (k + 1) (slice_set tail (count + slice_index (support w) k) (slice_index (nonzeros w) k))
moving_put {p} {count} {w} {k} {tail} s m l small = record {
  vector = set_vector m.vector (count + c) v small;
  low = λ j lj. get_or-set_other tail (count + c) j v 0 (λ e. absurd (omega arith)) ∙ m.low j lj;
  done = λ t lt. elim (cases_eq t k) [
    | inl same ↦ ap (λ t. slice_index (slice_set tail (count + c) v) (count + slice_index (support w) t)) same
        ∙ get_or-set_same tail (count + c) v 0 (omega (arith, s.below k l, m.vector.len)) ∙ sym (s.value k l) ∙ ap (λ t. slice_index w (slice_index (support w) t)) (sym same)
    | inr apart ↦
        get_or-set_other tail (count + c) (count + slice_index (support w) t) v 0 (λ z. let up : slice_index (support w) t < slice_index (support w) k = s.rising t k (omega arith) l in absurd (omega arith))
        ∙ m.done t (omega arith)
  ];
  left = λ j lj none. get_or-set_other tail (count + c) (count + j) v 0 (λ z. none k (omega arith) (omega arith)) ∙ m.left j lj (λ t lt. none t (omega arith));
}
  where
    c : ℕ
    c = slice_index (support w) k

    v : ℕ
    v = slice_index (nonzeros w) k

pub moving_all : {p count : ℕ} {w : List ℕ} {tail : List ℕ} → IsListed p w → IsMoving p count w (length (support w)) tail → tail ≡ row_behind_zeros count w
moving_all {p} {count} {w} {tail} s m = list_equal (count + length w) tail (row_behind_zeros count w) m.vector.len (length_behind count w) (λ j l. elim (cases_lt j count) [
  | inl low ↦ m.low j low ∙ sym (behind_low count w j low)
  | inr le ↦
      let i : ℕ = j - count in
      let at : count + i ≡ j = omega arith in
      ap (slice_index tail) (sym at) ∙ elim (s.cover i) [
        | inl z ↦ m.left i (omega arith) (λ t lt e. s.nonzero t lt (ap (slice_index w) e ∙ z)) ∙ sym z
        | inr (t, lt, e) ↦ ap (λ i. slice_index tail (count + i)) (sym e) ∙ m.done t lt ∙ ap (slice_index w) e
      ] ∙ sym (behind_at count w i) ∙ ap (slice_index (row_behind_zeros count w)) at
])

-- a stored row behind zeros
pub record IsLedBehind (count : ℕ) (r moved : Led) : Type 0 where
  pub lead : moved.lead ≡ count + r.lead
  pub modulus : moved.tail.modulus ≡ r.tail.modulus
  pub tail : moved.tail.row ≡ row_behind_zeros count r.tail.row

pub led_behind : {p n count : ℕ} {r moved : Led} → 0 < p → IsLed p n r → IsLedBehind count r moved → IsLed p (count + n) moved
led_behind {p} {n} {count} {r} {moved} pos h b = record {
  modulus = b.modulus ∙ h.modulus;
  vector = subst (IsVector p (count + n)) (sym b.tail) (record {
    len = length_behind count r.tail.row ∙ ap (λ m. count + m) h.vector.len;
    residues = λ j l. elim (cases_lt j count) [
      | inl low ↦ omega (arith, behind_low count r.tail.row j low)
      | inr le ↦
          let at : count + (j - count) ≡ j = omega arith in
          let same : slice_index (row_behind_zeros count r.tail.row) j ≡ slice_index r.tail.row (j - count) = ap (slice_index (row_behind_zeros count r.tail.row)) (sym at) ∙ behind_at count r.tail.row (j - count) in
          let small : slice_index r.tail.row (j - count) < p = h.vector.residues (j - count) (omega arith) in
          omega (arith, same, small)
    ];
  });
  lead = omega (arith, b.lead, h.lead);
  behind = λ j le. ap (λ t. slice_index t j) b.tail ∙ elim (cases_lt j count) [
    | inl low ↦ behind_low count r.tail.row j low
    | inr up ↦
        let at : count + (j - count) ≡ j = omega arith in
        ap (slice_index (row_behind_zeros count r.tail.row)) (sym at) ∙ behind_at count r.tail.row (j - count) ∙ h.behind (j - count) (omega (arith, b.lead))
  ];
}

-- setting an entry behind other ones
set_behind : (zs w : List ℕ) (j v : ℕ) → slice_set (zs ++ w) (length zs + j) v ≡ zs ++ slice_set w j v
set_behind [] w j v = ap (λ j. slice_set w j v) (let e : 0 + j ≡ j = omega arith in e)
set_behind (z ∷ zs) w j v =
    ap (λ j. slice_set (z ∷ (zs ++ w)) j v) (let e : length (z ∷ zs) + j ≡ suc (length zs + j) = omega arith in e) ∙ ap (λ xs. z ∷ xs) (set_behind zs w j v)

pub whole_behind : {count : ℕ} {r moved : Led} → IsLedBehind count r moved → whole moved ≡ row_behind_zeros count (whole r)
whole_behind {count} {r} {moved} b =
    ap₂ (λ t l. slice_set t l 1) b.tail (b.lead ∙ ap (λ n. n + r.lead) (sym (long_zeros count))) ∙ set_behind (zeros count) r.tail.row r.lead 1

-- the first k rows behind zeros
abbrev pub first_behind : ℕ → ℕ → ℕ → List Led → ℕ → KeptRows
first_behind p n count rows k = behind_zeros count (kept_rows p n (take k rows))

-- the next one is appended
pub behind_more : (p n count : ℕ) (rows : List Led) (k : ℕ) (moved : Led) (new : KeptRows) → k < length rows → IsLedBehind count (led rows k) moved →
    new ≡ with_led (first_behind p n count rows k) moved → new ≡ first_behind p n count rows (k + 1)
behind_more p n count rows k moved new l b e =
    e ∙ ap₂ (λ (r : List ℕ) (c : ℕ). record {
      modulus = p;
      matrix = record {
        height = length (map whole (take k rows)) + 1;
        width = count + n;
        rows = map (row_behind_zeros count) (map whole (take k rows)) ++ r ∷ [];
      };
      leads = map (λ l. count + l) (leads_of (take k rows)) ++ c ∷ [];
    }) (whole_behind b) b.lead ∙ sym more
  where
    first : List Led
    first = take k rows

    next : take (k + 1) rows ≡ take k rows ++ led rows k ∷ []
    next = take_more rows k no_led l

    more : first_behind p n count rows (k + 1) ≡ record {
      modulus = p;
      matrix = record {
        height = length (map whole (take k rows)) + 1;
        width = count + n;
        rows = map (row_behind_zeros count) (map whole (take k rows)) ++ row_behind_zeros count (whole (led rows k)) ∷ [];
      };
      leads = map (λ l. count + l) (leads_of (take k rows)) ++ (count + (led rows k).lead) ∷ [];
    }
    more = ap (λ rows. behind_zeros count (kept_rows p n rows)) next
        ∙ ap₂ (λ (A : Matrix) (ls : List ℕ). behind_zeros count (record { modulus = p; matrix = A; leads = ls })) (whole_more n first (led rows k)) (leads_more first (led rows k))
        ∙ ap₂ (λ (rs : List (List ℕ)) (ls : List ℕ). record { modulus = p; matrix = record { height = length (map whole (take k rows)) + 1; width = count + n; rows = rs }; leads = ls })
        (map-append (row_behind_zeros count) (map whole first) (whole (led rows k) ∷ [])) (map-append (λ l. count + l) (leads_of first) ((led rows k).lead ∷ []))

-- no row before leads where the next does
pub behind_new : {p n : ℕ} (count : ℕ) {rows : List Led} {row_at : List ℕ} {k : ℕ} → IsKept p n rows row_at → k < length rows → IsNewLead (first_behind p n count rows k) (count + (led rows k).lead)
behind_new {p} {n} count {rows} {row_at} {k} kept l t lt e =
    let inside : t < k = omega (arith, length-map (map whole (take k rows)) (row_behind_zeros count), length-map (take k rows) whole, length-take-le k rows (omega arith)) in
    let at : slice_index (map (λ l. count + l) (leads_of (take k rows))) t ≡ count + slice_index (leads_of (take k rows)) t =
    get_or-map (λ l. count + l) (leads_of (take k rows)) t 0 0 (omega (arith, length-map (take k rows) (λ (r : Led). r.lead), length-take-le k rows (omega arith))) in
    let same : slice_index (leads_of (take k rows)) t ≡ (led rows t).lead =
    lead_at (take k rows) t (omega (arith, length-take-le k rows (omega arith))) ∙ ap (λ (r : Led). r.lead) (get_or-take k rows t no_led inside) in
    let leads : (led rows t).lead ≡ (led rows k).lead = omega (arith, e, at, same) in
    let numbers : t ≡ k = sym (kept.found t no_led (omega arith)) ∙ ap (slice_index row_at) leads ∙ kept.found k no_led l in
    absurd (omega arith)

-- all of them
pub behind_all : (p n count : ℕ) (rows : List Led) {k : ℕ} {kept : KeptRows} → length rows ≤ k → kept ≡ first_behind p n count rows k → kept ≡ behind_zeros count (kept_rows p n rows)
behind_all p n count rows {k} {kept} le e = e ∙ ap (λ rows. behind_zeros count (kept_rows p n rows)) (take_all k rows le)
