-- The entries of a row put in another order of its columns: as they come, and sorted.
use Rattle.std.proofs.Common.{ℕ, ◌≡◌, ◌≢◌, ◌+◌, ◌<◌, ◌≤◌, true, false, List, [], ◌∷◌, ◌++◌, eqb, get_or, length, map, slice_index, inl, inr, ⊎_elim, sym, ap, subst, ◌∙◌, arith, eq-eqb}
use Rattle.std.proofs.Math.ListN.{get_or-eq_default}
use Rattle.std.specs.List.{Contains, IsDistinct}
use Rattle.std.specs.List.Sorted.{IsNonDecreasingBy, IsPermutation}
use Rattle.std.proofs.lemmas.Bool.{cases_eq, cases_lt}
use Rattle.std.proofs.lemmas.Bool.Decides.{nat_tests}
use Rattle.std.proofs.lemmas.List.{get_or-map, get_or_append_left, get_or_default, get_or_push, length-map, length_push, map_push}
use Rattle.std.proofs.lemmas.List.Elements.{Contains-append_left, Contains-get_or, Contains-push, Contains-push_cases}
use Rattle.std.proofs.lemmas.List.Sorted.{Contains-permutation, IsPermutation-map, IsPermutation-sym}
use Rattle.std.proofs.lemmas.Map.Keys.{IsDistinct-IsPermutation, IsDistinct-from_apart, apart_from_distinct}
use Rattle.residue_words.specs.Matrix.{Matrix, IsMatrix, IsVector, list_of, row}
use Rattle.residue_words.proofs.Lists.{contains_at, not_in_nil, place_in}
use Rattle.residue_words.proofs.Vectors.{at_list_of, length_list_of, list_equal}
use Rattle.sparse_rows.specs.Rows.{AreRising, nonzeros, support}
use Rattle.sparse_rows.specs.Stored.{IsSparse, entry_at, spread}
use Rattle.sparse_rows.proofs.Spread.{at_spread, entry_cover, entry_here, length_spread}
use Rattle.sparse_rows.proofs.Supports.{at_support, in_support, row_sparse}
use Rattle.lead_rows.specs.Scattered.{HaveDistinctColumns}
use Rattle.triangular_solve.specs.AscendingColumns.{IsPlaceOf}
use Rattle.triangular_solve.specs.PlacedEntries.{ArePlacedEntries}
use Rattle.triangular_solve.specs.declared.placed_entries.PlacedEntry.{PlacedEntry}
use Rattle.triangular_solve.proofs.JoinedRows.{support_value}

abbrev pub places_of : List PlacedEntry → List ℕ
places_of entries = map (λ (x : PlacedEntry). x.place) entries

abbrev pub values_of : List PlacedEntry → List ℕ
values_of entries = map (λ (x : PlacedEntry). x.value) entries

-- the first k entries of a row by its columns and values, as far as they stand in columns of the order
pub record ArePlacedSoFar (columns cols vals : List ℕ) (k : ℕ) (entries : List PlacedEntry) : Type 0 where
  pub each : (x : PlacedEntry) → Contains entries x → (t : ℕ) × (t < k) × IsPlaceOf columns (slice_index cols t) x.place × (x.value ≡ slice_index vals t)
  pub every : (t j : ℕ) → t < k → IsPlaceOf columns (slice_index cols t) j → (x : PlacedEntry) × Contains entries x × (x.place ≡ j)
  pub distinct : HaveDistinctColumns (places_of entries)

pub placed_none : (columns cols vals : List ℕ) → ArePlacedSoFar columns cols vals 0 []
placed_none columns cols vals = record {
  each = λ x m. absurd (not_in_nil x m);
  every = λ t j l at. absurd (omega arith);
  distinct = λ k t less l. absurd (let x : t < length {A = ℕ} [] = l in omega arith);
}

distinct_push : (xs : List ℕ) (y : ℕ) → HaveDistinctColumns xs → ((t : ℕ) → t < length xs → slice_index xs t ≢ y) → HaveDistinctColumns (xs ++ y ∷ [])
distinct_push xs y d o k t less l =
    let len = length_push xs y in
    let lk : k < length xs = omega arith in
    let old = get_or_append_left xs (y ∷ []) 0 k lk in
    elim (cases_lt t (length xs)) [
      | inl lt ↦ λ e. d k t less lt (sym old ∙ e ∙ get_or_append_left xs (y ∷ []) 0 t lt)
      | inr ge ↦ λ e. o k lk (sym old ∙ e ∙ get_or_push xs y 0 t (omega arith))
    ]

-- the place of an item, and the item itself
place_at : (entries : List PlacedEntry) (t : ℕ) (d : PlacedEntry) → t < length entries → slice_index (places_of entries) t ≡ (get_or entries t d).place
place_at entries t d l = get_or-map (λ (x : PlacedEntry). x.place) entries t d 0 l

value_at : (entries : List PlacedEntry) (t : ℕ) (d : PlacedEntry) → t < length entries → slice_index (values_of entries) t ≡ (get_or entries t d).value
value_at entries t d l = get_or-map (λ (x : PlacedEntry). x.value) entries t d 0 l

abbrev no_entry : PlacedEntry
no_entry = record { place = 0; value = 0 }

-- entry k comes
module _ {columns cols vals : List ℕ} {k : ℕ} {entries : List PlacedEntry} (rising : AreRising cols) (l : k < length cols) (so_far : ArePlacedSoFar columns cols vals k entries) where
  pub entry_passes : ¬ Contains columns (slice_index cols k) → ArePlacedSoFar columns cols vals (k + 1) entries
  entry_passes none = record {
    each = λ x m. let e = so_far.each x m in (e.0, omega (arith, e.1), e.2, e.3);
    every = λ t j lt at. elim (cases_lt t k) [
      | inl less ↦ so_far.every t j less at
      | inr ge ↦ let is : t ≡ k = omega arith in absurd (none (contains_at columns j (slice_index cols k) at.0 (at.1 ∙ ap (slice_index cols) is)))
    ];
    distinct = so_far.distinct;
  }

  pub entry_comes : HaveDistinctColumns columns → (x : PlacedEntry) → IsPlaceOf columns (slice_index cols k) x.place → x.value ≡ slice_index vals k → ArePlacedSoFar columns cols vals (k + 1) (entries ++ x ∷ [])
  entry_comes apart x at v = record {
    each = λ y m. ⊎_elim
        (λ o. let e = so_far.each y o in (e.0, omega (arith, e.1), e.2, e.3))
        (λ (s : x ≡ y). (k, omega arith, subst (λ (z : PlacedEntry). IsPlaceOf columns (slice_index cols k) z.place) s at, ap (λ (z : PlacedEntry). z.value) (sym s) ∙ v))
        (Contains-push_cases entries x y m);
    every = λ t j lt there. elim (cases_lt t k) [
      | inl less ↦ (let e = so_far.every t j less there in (e.0, Contains-append_left entries (x ∷ []) e.0 e.1, e.2))
      | inr ge ↦ (let is : t ≡ k = omega arith in (x, Contains-push entries x, same j there.0 (at.1 ∙ sym (there.1 ∙ ap (slice_index cols) is))))
    ];
    distinct = subst HaveDistinctColumns (sym (map_push (λ (z : PlacedEntry). z.place) entries x)) (distinct_push (places_of entries) x.place so_far.distinct (λ t lt e.
        let lt' : t < length entries = omega (arith, length-map entries (λ (z : PlacedEntry). z.place)) in
        let old = so_far.each (get_or entries t no_entry) (Contains-get_or entries t no_entry lt') in
        absurd (omega (arith, rising old.0 k old.1 l, old.2.1, at.1, ap (slice_index columns) (sym (place_at entries t no_entry lt') ∙ e)))));
  }
    where
      same : (j : ℕ) → j < length columns → slice_index columns x.place ≡ slice_index columns j → x.place ≡ j
      same j lj e = elim (cases_eq x.place j) [
        | inl s ↦ s
        | inr n ↦ elim (cases_lt x.place j) [ inl a ↦ absurd (apart x.place j a lj e) | inr b ↦ absurd (apart j x.place (omega arith) at.0 (sym e)) ]
      ]

-- all entries of a row came
pub entries_placed : {p : ℕ} {A : Matrix} {i : ℕ} {columns cols vals : List ℕ} {k : ℕ} {entries : List PlacedEntry} → IsMatrix p A → i < A.height → cols ≡ support (row A i) → vals ≡ nonzeros (row A i) → length cols ≤ k → k ≤ length cols →
    ArePlacedSoFar columns cols vals k entries → ArePlacedEntries columns (row A i) entries
entries_placed {p} {A} {i} {columns} {cols} {vals} {k} {entries} m l e f ge le so_far = record {
  each = λ x c.
      let o = so_far.each x c in
      let lt : o.0 < length (support (row A i)) = omega (arith, o.1, ap length e) in
      let s = row_sparse m i l in
      let col : slice_index columns x.place ≡ slice_index (support (row A i)) o.0 = o.2.1 ∙ ap (λ xs. slice_index xs o.0) e in
      let value : x.value ≡ slice_index (row A i) (slice_index columns x.place) =
      o.3 ∙ ap (λ xs. slice_index xs o.0) f ∙ support_value (row A i) s.rising s.long o.0 lt ∙ ap (slice_index (row A i)) (sym col) in
      (o.2.0, value, (λ z. at_support m i l o.0 lt (ap (slice_index (row A i)) (sym col) ∙ sym value ∙ z)));
  every = λ j lj ne.
      let t = place_in (support (row A i)) (slice_index columns j) (in_support m i l (slice_index columns j) ne) in
      so_far.every t.0 j (omega (arith, t.1, ap length e)) (lj, sym (ap (λ xs. slice_index xs t.0) e ∙ t.2));
  distinct = so_far.distinct;
}

eqb_flips : (x y : ℕ) → eqb x y ≡ eqb y x
eqb_flips x y = grind (arith, nat_tests)

eqb_apart : (x y : ℕ) → x ≢ y → eqb x y ≡ false
eqb_apart x y n = grind (arith, nat_tests)

distinct_moved : (xs ys : List ℕ) → IsPermutation xs ys → HaveDistinctColumns xs → HaveDistinctColumns ys
distinct_moved xs ys moved d k t less l e =
    let keys : IsDistinct eqb xs = IsDistinct-from_apart eqb xs (λ i j x a b.
    eqb_apart _ _ (λ z. d i j a b (get_or_default xs i 0 x (omega arith) ∙ z ∙ get_or_default xs j x 0 b))) in
    let apart = apart_from_distinct eqb ys k t 0 (IsDistinct-IsPermutation eqb eqb_flips xs ys moved keys) less l in
    let same : eqb (slice_index ys k) (slice_index ys t) ≡ true = eq-eqb _ _ e in
    cc

-- moved, they are the same
pub entries_moved : {columns w : List ℕ} {entries moved : List PlacedEntry} → ArePlacedEntries columns w entries → IsPermutation entries moved → ArePlacedEntries columns w moved
entries_moved {columns} {w} {entries} {moved} are p = record {
  each = λ x m. are.each x (Contains-permutation moved entries x (IsPermutation-sym entries moved p) m);
  every = λ j l ne. let e = are.every j l ne in (e.0, Contains-permutation entries moved e.0 p e.1, e.2);
  distinct = distinct_moved (places_of entries) (places_of moved) (IsPermutation-map (λ (x : PlacedEntry). x.place) entries moved p) are.distinct;
}

-- sorted, they are a row of the columns
module _ {p n : ℕ} {columns w : List ℕ} {sorted : List PlacedEntry} (vector : IsVector p n w) (are : ArePlacedEntries columns w sorted) (order : IsNonDecreasingBy (λ (x : PlacedEntry). x.place) sorted) where
  abbrev cs : List ℕ
  cs = places_of sorted

  abbrev vs : List ℕ
  vs = values_of sorted

  many : length cs ≡ length sorted
  many = length-map sorted (λ (x : PlacedEntry). x.place)

  many_values : length vs ≡ length sorted
  many_values = length-map sorted (λ (x : PlacedEntry). x.value)

  item : (t : ℕ) → t < length sorted → (slice_index cs t < length columns) × (slice_index vs t ≡ slice_index w (slice_index columns (slice_index cs t))) × (slice_index vs t ≢ 0)
  item t l =
      let x = get_or sorted t no_entry in
      let e = are.each x (Contains-get_or sorted t no_entry l) in
      let place = place_at sorted t no_entry l in
      let value = value_at sorted t no_entry l in
      (omega (arith, e.0, place), value ∙ e.1 ∙ ap (λ j. slice_index w (slice_index columns j)) (sym place), (λ z. e.2 (sym value ∙ z)))

  below_modulus : (j : ℕ) → slice_index w j ≢ 0 → slice_index w j < p
  below_modulus j ne = elim (cases_lt j n) [
    | inl l ↦ vector.residues j l
    | inr ge ↦ absurd (ne (get_or-eq_default w 0 (omega (arith, vector.len))))
  ]

  pub entries_sparse : IsSparse p (length columns) cs vs
  entries_sparse = record {
    long = many ∙ sym many_values;
    rising = λ k t less l.
        let lt : t < length sorted = omega (arith, many) in
        let lk : k < length sorted = omega arith in
        let le = order k t no_entry (omega arith) lt in
        elim (cases_eq (slice_index cs k) (slice_index cs t)) [
          | inl e ↦ absurd (are.distinct k t less l e)
          | inr ne ↦ omega (arith, le, place_at sorted k no_entry lk, place_at sorted t no_entry lt)
        ];
    below = λ k l. (item k (omega (arith, many))).0;
    positive = λ k l. let i = item k (omega (arith, many_values)) in omega (arith, i.2);
    residues = λ k l. let i = item k (omega (arith, many_values)) in omega (arith, i.1, below_modulus (slice_index columns (slice_index cs k)) (λ z. i.2 (i.1 ∙ z)));
  }

  pub entries_row : spread (length columns) cs vs ≡ list_of (length columns) (λ k. slice_index w (slice_index columns k))
  entries_row = list_equal (length columns) _ _ (length_spread (length columns) cs vs) (length_list_of (length columns) (λ k. slice_index w (slice_index columns k)))
      (λ j l. at_spread (length columns) cs vs j l ∙ here j l ∙ sym (at_list_of (length columns) (λ k. slice_index w (slice_index columns k)) j l))
    where
      here : (j : ℕ) → j < length columns → entry_at cs vs j ≡ slice_index w (slice_index columns j)
      here j l = elim (entry_cover cs vs j) [
        | inl none ↦ elim (cases_eq (slice_index w (slice_index columns j)) 0) [
          | inl z ↦ none ∙ sym z
          | inr ne ↦
              let e = are.every j l ne in
              let t = e.1.0 in
              let lt : t < length sorted = e.1.1 in
              let place : slice_index cs t ≡ j = place_at sorted t e.0 lt ∙ ap (λ (x : PlacedEntry). x.place) e.1.2 ∙ e.2 in
              let value : slice_index vs t ≡ 0 = sym (entry_here cs vs entries_sparse.long entries_sparse.rising t (omega (arith, many))) ∙ ap (entry_at cs vs) place ∙ none in
              absurd ((item t lt).2 value)
        ]
        | inr (t, lt, e) ↦
            let lt' : t < length sorted = omega (arith, many) in
            ap (entry_at cs vs) (sym e) ∙ entry_here cs vs entries_sparse.long entries_sparse.rising t lt ∙ (item t lt').1 ∙ ap (λ k. slice_index w (slice_index columns k)) e
      ]
