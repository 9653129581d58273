-- Rows whose entries stand in any order, one after another, and a multiple of one that is added.
use Rattle.std.proofs.Common.{ℕ, ◌≡◌, ◌+◌, ◌-◌, ◌*◌, ◌%◌, ◌<◌, List, [], ◌∷◌, ◌++◌, length, map, slice_index, slice_range, inl, inr, sym, ap, ap₂, subst, ◌∙◌, arith}
use Rattle.std.specs.List.{range_with_len}
use Rattle.std.proofs.lemmas.Bool.{cases_lt}
use Rattle.std.proofs.lemmas.List.{get_or_append_left, get_or_push, length-append, length_push}
use Rattle.std.proofs.lemmas.List.FromFn.{length-map-range_with_len, map-range_with_len_more}
use Rattle.residue_words.specs.Matrix.{IsMatrix, Matrix, row}
use Rattle.sparse_rows.specs.Rows.{AddsMultiple, ResidueRow}
use Rattle.sparse_rows.specs.Stored.{part, spread, stored_matrix, stored_row, with_row}
use Rattle.sparse_rows.proofs.Spread.{at_spread, map_range_equal}
use Rattle.sparse_rows.proofs.Parts.{part_before, part_end}
use Rattle.sparse_rows.proofs.Stored.{row_stored}
use Rattle.lead_rows.proofs.Scattered.{scattered_vector}
use Rattle.triangular_solve.specs.FlatRows.{AddsRowTimes}
use Rattle.lead_rows.specs.Scattered.{IsScattered, ListsBehind}
use Rattle.triangular_solve.specs.ScatteredRows.{AreScattered}

-- the row that these columns and values stand for was added
pub adds_times : {by f n : ℕ} {cols vals r : List ℕ} {old new : ResidueRow} → AddsMultiple by cols vals old new → by ≡ f → r ≡ spread n cols vals → n ≡ length old.row → AddsRowTimes f r old new
adds_times {by} {f} {n} {cols} {vals} {r} {old} {new} a e is wide = record {
  modulus = a.modulus;
  vector = a.vector;
  sums = λ j l. a.sums j l ∙ ap₂ (λ b x. (slice_index old.row j + b * x) % old.modulus) e (sym (ap (λ w. slice_index w j) is ∙ at_spread n cols vals j (omega arith)));
}

abbrev sized : ℕ → ℕ → List (List ℕ) → Matrix
sized h w r = record { height = h; width = w; rows = r }

module _ (p n : ℕ) (starts cs vs : List ℕ) (stored : AreScattered p n starts cs vs) (cs' vs' : List ℕ) (more : IsScattered p n cs' vs') where
  ends : List ℕ
  ends = starts ++ length (cs ++ cs') ∷ []

  ends_values : starts ++ length (vs ++ vs') ∷ [] ≡ ends
  unfolding ends
  ends_values = ap (λ e. starts ++ e ∷ []) (omega (arith, length-append vs vs', length-append cs cs', stored.long, more.long))

  long_ends : length ends ≡ length starts + 1
  unfolding ends
  long_ends = length_push starts (length (cs ++ cs'))

  old : (i : ℕ) → i < length starts → slice_index ends i ≡ slice_index starts i
  unfolding ends
  old i l = get_or_append_left starts (length (cs ++ cs') ∷ []) 0 i l

  new : (i : ℕ) → length starts ≡ i → slice_index ends i ≡ length (cs ++ cs')
  unfolding ends
  new i e = get_or_push starts (length (cs ++ cs')) 0 i e

  earlier_columns : (i : ℕ) → i + 1 < length starts → part ends (cs ++ cs') i ≡ part starts cs i
  unfolding ends
  earlier_columns i l = part_before starts cs cs' (length (cs ++ cs')) i l (stored.rising i l) (stored.within (i + 1) l)

  earlier_values : (i : ℕ) → i + 1 < length starts → part ends (vs ++ vs') i ≡ part starts vs i
  unfolding ends
  earlier_values i l = part_before starts vs vs' (length (cs ++ cs')) i l (stored.rising i l) (omega (arith, stored.within (i + 1) l, stored.long))

  end_columns : part ends (cs ++ cs') (length starts - 1) ≡ cs'
  unfolding ends
  end_columns = part_end starts cs cs' (length starts - 1) (omega (arith, stored.some)) stored.last

  end_values : part ends (vs ++ vs') (length starts - 1) ≡ vs'
  end_values =
      ap (λ e. part e (vs ++ vs') (length starts - 1)) (sym ends_values)
      ∙ part_end starts vs vs' (length starts - 1) (omega (arith, stored.some)) (stored.last ∙ stored.long)

  -- one row more is stored
  scattered_push : AreScattered p n (starts ++ length (cs ++ cs') ∷ []) (cs ++ cs') (vs ++ vs')
  unfolding ends
  scattered_push = record {
    two_or_more = stored.two_or_more;
    some = omega (arith, long_ends);
    last = new (length ends - 1) (omega (arith, long_ends));
    rising = λ i l. elim (cases_lt (i + 1) (length starts)) [
      | inl b ↦ omega (arith, old i (omega arith), old (i + 1) b, stored.rising i b)
      | inr b ↦ omega (arith, old i (omega (arith, long_ends)), new (i + 1) (omega (arith, long_ends)), stored.within i (omega (arith, long_ends)), length-append cs cs')
    ];
    within = λ i l. elim (cases_lt i (length starts)) [
      | inl b ↦ omega (arith, old i b, stored.within i b, length-append cs cs')
      | inr b ↦ omega (arith, new i (omega (arith, long_ends)))
    ];
    long = omega (arith, length-append vs vs', length-append cs cs', stored.long, more.long);
    each = λ i l. elim (cases_lt (i + 1) (length starts)) [
      | inl b ↦ rw (earlier_columns i b, earlier_values i b) (stored.each i b)
      | inr b ↦
          let last : i ≡ length starts - 1 = omega (arith, long_ends) in
          subst (λ k. IsScattered p n (part ends (cs ++ cs') k) (part ends (vs ++ vs') k)) (sym last) (rw (end_columns, end_values) more)
    ];
  }

  rows_push : (stored_matrix n (starts ++ length (cs ++ cs') ∷ []) (cs ++ cs') (vs ++ vs')).rows ≡ (stored_matrix n starts cs vs).rows ++ spread n cs' vs' ∷ []
  unfolding ends stored_row
  rows_push =
      let h : ℕ = length starts - 1 in
      ap (λ k. map (stored_row n ends (cs ++ cs') (vs ++ vs')) (range_with_len 0 k)) (omega (arith, long_ends, stored.some))
      ∙ map-range_with_len_more (stored_row n ends (cs ++ cs') (vs ++ vs')) 0 h h (omega arith)
      ∙ ap₂ (λ r s. r ++ s ∷ [])
      (map_range_equal (stored_row n ends (cs ++ cs') (vs ++ vs')) (stored_row n starts cs vs) 0 h (λ j a b. ap₂ (spread n) (earlier_columns j (omega arith)) (earlier_values j (omega arith))))
      (ap₂ (spread n) end_columns end_values)

  -- and the matrix has this row more
  scattered_matrix : stored_matrix n (starts ++ length (cs ++ cs') ∷ []) (cs ++ cs') (vs ++ vs') ≡ with_row (stored_matrix n starts cs vs) (spread n cs' vs')
  unfolding ends
  scattered_matrix = ap₂ (λ h r. sized h n r) (omega (arith, long_ends, stored.some)) rows_push

-- one row more, whose columns and values stand behind those of before
pub scattered_appended : {p n : ℕ} {starts cs vs ends cs' vs' : List ℕ} {r : ResidueRow} → AreScattered p n starts cs vs → ListsBehind r cs vs cs' vs' → r.modulus ≡ p → length r.row ≡ n → ends ≡ starts ++ length cs' ∷ [] →
    AreScattered p n ends cs' vs' × (stored_matrix n ends cs' vs' ≡ with_row (stored_matrix n starts cs vs) r.row)
scattered_appended {p} {n} {starts} {cs} {vs} {ends} {cs'} {vs'} {r} s l modulus wide e =
    let more : IsScattered p n l.columns l.values = subst (λ n. IsScattered p n l.columns l.values) wide (subst (λ p. IsScattered p (length r.row) l.columns l.values) modulus l.scattered) in
    let is : spread n l.columns l.values ≡ r.row = ap (λ n. spread n l.columns l.values) (sym wide) ∙ l.row in
    rw (e, l.all_columns, l.all_values) (
      scattered_push p n starts cs vs s l.columns l.values more,
      scattered_matrix p n starts cs vs s l.columns l.values more ∙ ap (with_row (stored_matrix n starts cs vs)) is,
    )

-- row i
pub scattered_row : (n : ℕ) (starts cs vs : List ℕ) (i : ℕ) → i + 1 < length starts → row (stored_matrix n starts cs vs) i ≡ spread n (part starts cs i) (part starts vs i)
unfolding stored_row
scattered_row n starts cs vs i l = row_stored n starts cs vs i (omega arith)

-- the parts of row i
abbrev pub IsRowAt : (p : ℕ) → Matrix → ℕ → List ℕ → List ℕ → Type 0
IsRowAt p A i us ws = IsScattered p A.width us ws × (row A i ≡ spread A.width us ws)

pub scattered_at : {p n : ℕ} {starts cs vs us ws : List ℕ} {a b : ℕ} (i : ℕ) → AreScattered p n starts cs vs → i + 1 < length starts → a ≡ slice_index starts i → b ≡ slice_index starts (i + 1) → us ≡ cs → ws ≡ vs →
    IsRowAt p (stored_matrix n starts cs vs) i (slice_range us a b) (slice_range ws a b)
unfolding part
scattered_at {p} {n} {starts} {cs} {vs} {us} {ws} {a} {b} i s l from to e f =
    rw (from, to, e, f) (s.each i l, scattered_row n starts cs vs i l)

-- it is a matrix of residues
pub scattered_sound : {p n : ℕ} {starts cs vs : List ℕ} → AreScattered p n starts cs vs → IsMatrix p (stored_matrix n starts cs vs)
scattered_sound {p} {n} {starts} {cs} {vs} s = record {
  len = length-map-range_with_len (stored_row n starts cs vs) 0 (length starts - 1);
  each = λ i l. rw (scattered_row n starts cs vs i (omega arith)) (scattered_vector (omega (arith, s.two_or_more)) (s.each i (omega arith)));
}
