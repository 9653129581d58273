-- From the sums that are drained to what is left of a row, and to a settled row.
use Rattle.std.proofs.Common.{ℕ, ◌≡◌, ◌≢◌, ◌+◌, ◌*◌, ◌%◌, ◌<◌, ◌≤◌, List, length, map, slice_index, slice_set, inl, inr, sym, refl, ap, subst, ◌∙◌, arith, mod-eq_of_lt}
use Rattle.std.proofs.lemmas.List.{length-map, length-set, get_or-set_same, get_or-set_other}
use Rattle.std.proofs.lemmas.Bool.{cases_eq, cases_lt}
use Rattle.residue_words.specs.Matrix.{IsVector, row, zeros}
use Rattle.residue_words.proofs.Vectors.{at_list_of, length_list_of, list_equal, at_zeros, row_combination, zeros_vector}
use Rattle.row_space.specs.Rows.{DiffersBy}
use Rattle.sparse_rows.specs.Rows.{AddsMultiple, ResidueRow, nonzeros, support}
use Rattle.sparse_rows.specs.Stored.{IsSparse, entry_at, spread}
use Rattle.sparse_rows.proofs.Spread.{at_spread, length_spread, spread_support, spread_vector}
use Rattle.lead_rows.specs.Accumulator.{IsClear}
use Rattle.lead_rows.specs.Leads.{IsSound, IsRest, IsSettled}
use Rattle.lead_rows.specs.Led.{CanTake, IsBehind, IsKept, IsLed, Drains, both, kept_rows, leads_of, spread_row, whole, whole_matrix}
use Rattle.lead_rows.specs.declared.led.Led.{Led}
use Rattle.lead_rows.proofs.LedRows.{IsAt, kept_sound, whole_lead, whole_other}
use Rattle.lead_rows.proofs.Draining.{set_vector}
use Rattle.lead_rows.proofs.Combining.{differs_combination, rest_decides}

-- w is what the kept rows leave of v together with w0, in rows of n residues modulo p
record DrainsOf (p n : ℕ) (rows : List Led) (v w0 w : List ℕ) : Type 0 where
  vector : IsVector p n w
  at_leads : (k : ℕ) → k < length rows → slice_index w (slice_index (leads_of rows) k) ≡ slice_index w0 (slice_index (leads_of rows) k)
  before : (c : ℕ) → ((j : ℕ) → j < c → slice_index v j ≡ 0) → (j : ℕ) → j < c → slice_index w j ≡ slice_index w0 j
  differs : DiffersBy p (whole_matrix n rows) (both p n v w0) w

-- a row by its modulus and entries
pub made_of : (p : ℕ) (v : List ℕ) {a : ResidueRow} → a.modulus ≡ p → a.row ≡ v → a ≡ record { modulus = p; row = v }
made_of p v {a} e f = ap (λ m. record { modulus = m; row = a.row }) e ∙ ap (λ r. record { modulus = p; row = r }) f

-- a row that is added to sums of 0 is the sums
pub loaded : {cols vals : List ℕ} {old new : ResidueRow} → 2 ≤ old.modulus → IsSparse old.modulus (length old.row) cols vals → IsClear old.modulus (length old.row) old →
    AddsMultiple 1 cols vals old new → new ≡ spread_row old cols vals
loaded {cols} {vals} {old} {new} two sparse clear adds =
    let n : ℕ = length old.row in
    let vector : IsVector old.modulus n (spread n cols vals) = spread_vector (omega arith) sparse in
    made_of old.modulus (spread n cols vals) adds.modulus (list_equal n new.row (spread n cols vals) adds.vector.len vector.len (λ j l.
    let none : slice_index old.row j ≡ 0 = ap (λ (r : ResidueRow). slice_index r.row j) clear ∙ at_zeros n j l in
    let plain : slice_index old.row j + 1 * entry_at cols vals j ≡ slice_index (spread n cols vals) j = omega (arith, at_spread n cols vals j l) in
    adds.sums j l ∙ ap (λ x. x % old.modulus) plain ∙ mod-eq_of_lt (vector.residues j l)))

-- what is true of sizes is true of those of the zero row
pub at_clear : (P : ℕ → ℕ → Type 0) (p n : ℕ) {a : ResidueRow} → IsClear p n a → P p n → P a.modulus (length a.row)
at_clear P p n {a} clear h = subst (λ (r : ResidueRow). P r.modulus (length r.row)) (sym clear) (subst (P p) (sym (length_list_of n (λ j. 0))) h)

-- nothing stands in the zero row
pub zeros_behind : (n : ℕ) (v : List ℕ) → IsBehind n v (zeros n)
zeros_behind n v = λ j k l d le lk. at_zeros n k lk

-- a row with nothing beside it
both_zeros : (p n : ℕ) (v : List ℕ) → IsVector p n v → both p n v (zeros n) ≡ v
both_zeros p n v vector = list_equal n (both p n v (zeros n)) v (length_list_of n _) vector.len (λ j l.
    let none : slice_index (zeros n) j ≡ 0 = at_zeros n j l in
    let plain : slice_index v j + slice_index (zeros n) j ≡ slice_index v j = omega arith in
    at_list_of n (λ j. (slice_index v j + slice_index (zeros n) j) % p) j l ∙ ap (λ x. x % p) plain ∙ mod-eq_of_lt (vector.residues j l))

-- what is drained of a row whose sizes are told otherwise
drained_of : {p n : ℕ} {rows : List Led} {a : ResidueRow} (cols vals : List ℕ) {w0 w : List ℕ} → IsClear p n a → Drains rows (spread_row a cols vals) w0 w → DrainsOf p n rows (spread n cols vals) w0 w
drained_of {p} {n} {rows} {a} cols vals {w0} {w} clear d =
    let same : spread_row a cols vals ≡ record { modulus = p; row = spread n cols vals } = ap (λ (r : ResidueRow). spread_row r cols vals) clear ∙ ap (λ m. record { modulus = p; row = spread m cols vals }) (length_list_of n (λ j. 0)) in
    let e : Drains rows (record { modulus = p; row = spread n cols vals }) w0 w = subst (λ (r : ResidueRow). Drains rows r w0 w) same d in
    let long : length (spread n cols vals) ≡ n = length_spread n cols vals in
    record {
      vector = subst (λ m. IsVector p m w) long e.vector;
      at_leads = e.at_leads;
      before = e.before;
      differs = subst (λ m. DiffersBy p (whole_matrix m rows) (both p m (spread n cols vals) w0) w) long e.differs;
    }

pub rest_of_drained : {p n : ℕ} {rows : List Led} {row_at : List ℕ} → IsKept p n rows row_at → {a : ResidueRow} {cols vals w0 w : List ℕ} → IsClear p n a → IsSparse p n cols vals → w0 ≡ zeros n →
    Drains rows (spread_row a cols vals) w0 w → IsRest (kept_rows p n rows) (spread n cols vals) w
rest_of_drained {p} {n} {rows} {row_at} kept {a} {cols} {vals} {w0} {w} clear sparse none drains =
    record { vector = d.vector; zero_at_leads = at_leads; differs = differs; zero = rest_decides sound vector d.vector at_leads differs }
  where
    v : List ℕ
    v = spread n cols vals

    d : DrainsOf p n rows v (zeros n) w
    d = subst (λ u. DrainsOf p n rows v u w) none (drained_of cols vals clear drains)

    sound : IsSound (kept_rows p n rows)
    sound = kept_sound kept

    vector : IsVector p n v
    vector = spread_vector (omega (arith, kept.two_or_more)) sparse

    at_leads : (k : ℕ) → k < length (map whole rows) → slice_index w (slice_index (leads_of rows) k) ≡ 0
    at_leads k l = d.at_leads k (omega (arith, length-map rows whole)) ∙ at_zeros n _ (sound.leads.inside k l)

    differs : DiffersBy p (whole_matrix n rows) v w
    differs = subst (λ u. DiffersBy p (whole_matrix n rows) u w) (both_zeros p n v vector) d.differs

-- the row that is 1 at its lead alone, with its tail, is the row
unit_at : (n c j : ℕ) → j < n → j ≢ c → slice_index (slice_set (zeros n) c 1) j ≡ 0
unit_at n c j l d = get_or-set_other (zeros n) c j 1 0 d ∙ at_zeros n j l

unit_lead : (n c : ℕ) → c < n → slice_index (slice_set (zeros n) c 1) c ≡ 1
unit_lead n c l = get_or-set_same (zeros n) c 1 0 (omega (arith, length_list_of n (λ j. 0)))

pub unit_vector : {p n : ℕ} (c : ℕ) → 2 ≤ p → c < n → IsVector p n (slice_set (zeros n) c 1)
unit_vector {p} {n} c two l = set_vector (zeros_vector p n (omega arith)) c 1 (omega arith)

pub unit_behind : {p n : ℕ} {r : Led} → IsLed p n r → IsBehind n r.tail.row (slice_set (zeros n) r.lead 1)
unit_behind {p} {n} {r} led = λ j k l d le lk. unit_at n r.lead k lk (λ e. d (led.behind j (omega arith)))

both_unit : {p n : ℕ} {r : Led} → 2 ≤ p → IsLed p n r → both p n r.tail.row (slice_set (zeros n) r.lead 1) ≡ whole r
both_unit {p} {n} {r} two led =
    list_equal n (both p n r.tail.row (slice_set (zeros n) r.lead 1)) (whole r) (length_list_of n _) (length-set r.tail.row r.lead 1 ∙ led.vector.len) (λ j l.
    at_list_of n (λ j. (slice_index r.tail.row j + slice_index (slice_set (zeros n) r.lead 1) j) % p) j l
    ∙ elim (cases_eq j r.lead) [
      | inl e ↦
          let a : slice_index r.tail.row j ≡ 0 = led.behind j (omega arith) in
          let b : slice_index (slice_set (zeros n) r.lead 1) j ≡ 1 = ap (slice_index (slice_set (zeros n) r.lead 1)) e ∙ unit_lead n r.lead led.lead in
          let plain : slice_index r.tail.row j + slice_index (slice_set (zeros n) r.lead 1) j ≡ 1 = omega arith in
          ap (λ x. x % p) plain ∙ mod-eq_of_lt (omega arith) ∙ sym (ap (slice_index (whole r)) e ∙ whole_lead led)
      | inr d ↦
          let b : slice_index (slice_set (zeros n) r.lead 1) j ≡ 0 = unit_at n r.lead j l d in
          let plain : slice_index r.tail.row j + slice_index (slice_set (zeros n) r.lead 1) j ≡ slice_index r.tail.row j = omega arith in
          ap (λ x. x % p) plain ∙ mod-eq_of_lt (led.vector.residues j l) ∙ sym (whole_other r j d)
    ])

pub settled_of_drained : {p n : ℕ} {rows : List Led} {row_at : List ℕ} → IsKept p n rows row_at → {a : ResidueRow} {cols vals w0 w : List ℕ} {k : ℕ} {r : Led} → IsClear p n a →
    IsAt (kept_rows p n rows) k r → cols ≡ support r.tail.row → vals ≡ nonzeros r.tail.row → w0 ≡ slice_set (zeros n) r.lead 1 → Drains rows (spread_row a cols vals) w0 w →
    IsSettled (kept_rows p n rows) k w
settled_of_drained {p} {n} {rows} {row_at} kept {a} {cols} {vals} {w0} {w} {k} {r} clear at ce ve unit drains = record {
  vector = d.vector;
  one = at_lead k at.inside ∙ ap (slice_index (slice_set (zeros n) r.lead 1)) at.lead ∙ unit_lead n r.lead at.led.lead;
  left = λ j less.
      let low : j < r.lead = subst (λ c. j < c) at.lead less in
      d.before r.lead (λ j lj. at.led.behind j (omega arith)) j low ∙ unit_at n r.lead j (omega (arith, at.led.lead)) (λ e. absurd (omega arith));
  others = λ t lt apart. at_lead t lt ∙ unit_at n r.lead (slice_index (leads_of rows) t) (sound.leads.inside t lt) (λ e.
      elim (cases_lt t k) [
        | inl a ↦ sound.leads.distinct t k a at.inside (e ∙ sym at.lead)
        | inr b ↦ sound.leads.distinct k t (omega arith) lt (at.lead ∙ sym e)
      ]);
  spanned = differs_combination p (whole_matrix n rows) (row (whole_matrix n rows) k) w sound.two_or_more (row_combination p (whole_matrix n rows) k sound.two_or_more sound.matrix at.inside) d.vector
      (subst (λ u. DiffersBy p (whole_matrix n rows) u w) (both_unit sound.two_or_more at.led ∙ sym at.is_row) d.differs);
}
  where
    sound : IsSound (kept_rows p n rows)
    sound = kept_sound kept

    tail : spread n cols vals ≡ r.tail.row
    tail = ap (λ c. spread n c vals) ce ∙ ap (spread n (support r.tail.row)) ve ∙ spread_support n r.tail.row at.led.vector.len

    d : DrainsOf p n rows r.tail.row (slice_set (zeros n) r.lead 1) w
    d = subst (λ v. DrainsOf p n rows v (slice_set (zeros n) r.lead 1) w) tail (subst (λ u. DrainsOf p n rows (spread n cols vals) u w) unit (drained_of cols vals clear drains))

    at_lead : (t : ℕ) → t < length (map whole rows) → slice_index w (slice_index (leads_of rows) t) ≡ slice_index (slice_set (zeros n) r.lead 1) (slice_index (leads_of rows) t)
    at_lead t lt = d.at_leads t (omega (arith, length-map rows whole))

-- what is asked before a settled row is reduced
pub unit_ready : (p n : ℕ) {a rest : ResidueRow} {cols vals : List ℕ} {r : Led} → 2 ≤ p → IsClear p n a → IsLed p n r → cols ≡ support r.tail.row → vals ≡ nonzeros r.tail.row →
    rest ≡ record { modulus = p; row = slice_set (zeros n) r.lead 1 } → CanTake (spread (length a.row) cols vals) rest a.modulus
unit_ready p n {a} {rest} {cols} {vals} {r} two clear led ce ve is =
    at_clear (λ q m. CanTake (spread m cols vals) rest q) p n clear (subst (λ v. CanTake v rest p) (sym tail) (subst (λ (s : ResidueRow). CanTake r.tail.row s p) (sym is) (record {
      modulus = refl;
      vector = subst (λ m. IsVector p m (slice_set (zeros n) r.lead 1)) (sym led.vector.len) (unit_vector r.lead two led.lead);
      behind = subst (λ m. IsBehind m r.tail.row (slice_set (zeros n) r.lead 1)) (sym led.vector.len) (unit_behind led);
    })))
  where
    tail : spread n cols vals ≡ r.tail.row
    tail = ap (λ c. spread n c vals) ce ∙ ap (spread n (support r.tail.row)) ve ∙ spread_support n r.tail.row led.vector.len

-- and before any other row is
pub zeros_ready : (p n : ℕ) (cols vals : List ℕ) {a rest : ResidueRow} → 2 ≤ p → IsClear p n a → rest ≡ record { modulus = p; row = zeros n } → CanTake (spread (length a.row) cols vals) rest a.modulus
zeros_ready p n cols vals {a} {rest} two clear is =
    at_clear (λ q m. CanTake (spread m cols vals) rest q) p n clear (subst (λ (s : ResidueRow). CanTake (spread n cols vals) s p) (sym is) (record {
      modulus = refl;
      vector = subst (λ m. IsVector p m (zeros n)) (sym long) (zeros_vector p n (omega arith));
      behind = subst (λ m. IsBehind m (spread n cols vals) (zeros n)) (sym long) (zeros_behind n (spread n cols vals));
    }))
  where
    long : length (spread n cols vals) ≡ n
    long = length_spread n cols vals
