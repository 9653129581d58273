-- Columns that get numbers as they come, and rows by these numbers.
use Rattle.std.proofs.Common.{ℕ, suc, ◌≡◌, ◌≢◌, ◌+◌, ◌-◌, ◌%◌, ◌<◌, ◌≤◌, ◌⊎◌, inl, inr, List, [], ◌∷◌, ◌++◌, length, map, cond, eqb, slice_index, sym, refl, ap, subst, ◌∙◌, arith, mod-eq_of_lt, ◌↔◌, Option, Some, None, ap₂, length-append, Bool, true, false, not, ◌||◌, true≢false, nat_eq, nat_lt, if◌then◌else◌}
use Rattle.std.specs.List.{list_any, position, position_or_len}
use Rattle.indexmap.specs.IndexSet.{insert_key}
use native.Mathlib.Nat.{zero-mod}
use Rattle.std.specs.List.{All}
use Rattle.std.proofs.Math.ListN.{get_or-append}
use Rattle.std.proofs.Math.Seq.{get_or-append_seam}
use Rattle.std.proofs.lemmas.Bool.{cases_eq, cases_lt, cond-false, cond-true, eq-eqb, le-ltb, lt-ltb, ne_eqb}
use Rattle.std.proofs.lemmas.List.{get_or-map, get_or_past, length-map}
use Rattle.residue_words.specs.Matrix.{Matrix, IsCombination, IsVector, entry, list_of, row}
use Rattle.residue_words.proofs.Vectors.{at_list_of, length_list_of, list_of_equal, row_matrix_of}
use Rattle.row_space.proofs.Counting.{pigeonhole}
use Rattle.sparse_rows.specs.Rows.{FitsMatrix, ResidueMatrix, built, nonzeros, row_triples, sum_at, support, triple}
use Rattle.sparse_rows.specs.Stored.{IsSparse, entry_at, spread}
use Rattle.sparse_rows.proofs.Spread.{at_spread, entry_cover, entry_here, entry_support, spread_vector}
use Rattle.lead_rows.specs.Leads.{Appends, Inserts, IsSound, KeptRows, behind_zeros, row_behind_zeros}
use Rattle.lead_rows.proofs.Behind.{behind_at}
use Rattle.grow_form.specs.Numbering.{AreKeptByNumbers, AreUsed, ComesBehind, HasRoomFor, HaveCome, IsByNumbers, IsNumbering, IsRowAtColumns, IsRowByNumbers, NumberedColumns, arrival, at_columns, column_numbered, no_columns, number_of, numbered, seen_matrix, seen_rows, with_numbers}
use Rattle.grow_form.proofs.Moved.{combination_back, combination_beyond, combination_there, map_equal}
use Rattle.grow_form.proofs.OneRow.{renamed_away, renamed_fit, renamed_here}

-- The place of a column among those that have come.
abbrev later : ℕ → ℕ
later a = cond (eqb a 0) 0 (a + 1)

later_some : (a : ℕ) → a ≢ 0 → later a ≡ a + 1
later_some a d = cond-false (eqb a 0) 0 (a + 1) (ne_eqb a 0 d)

later_none : (a : ℕ) → a ≡ 0 → later a ≡ 0
later_none a e = cond-true (eqb a 0) 0 (a + 1) (eq-eqb a 0 e)

arrival_first : (x : ℕ) (xs : List ℕ) (j : ℕ) → j ≡ x → arrival (x ∷ xs) j ≡ 1
arrival_first x xs j e = cond-true (eqb j x) 1 (later (arrival xs j)) (eq-eqb j x e)

arrival_past : (x : ℕ) (xs : List ℕ) (j : ℕ) → j ≢ x → arrival (x ∷ xs) j ≡ later (arrival xs j)
arrival_past x xs j d = cond-false (eqb j x) 1 (later (arrival xs j)) (ne_eqb j x d)

-- another column behind it changes nothing
arrival_other : (cols : List ℕ) (c j : ℕ) → j ≢ c → arrival (cols ++ c ∷ []) j ≡ arrival cols j
arrival_other [] c j d = arrival_past c [] j d
arrival_other (x ∷ xs) c j d = elim (cases_eq j x) [
  | inl e ↦ arrival_first x (xs ++ c ∷ []) j e ∙ sym (arrival_first x xs j e)
  | inr apart ↦ arrival_past x (xs ++ c ∷ []) j apart ∙ ap later (arrival_other xs c j d) ∙ sym (arrival_past x xs j apart)
]

arrival_last : (cols : List ℕ) (c : ℕ) → arrival cols c ≡ 0 → arrival (cols ++ c ∷ []) c ≡ length cols + 1
arrival_last [] c none = arrival_first c [] c refl
arrival_last (x ∷ xs) c none = elim (cases_eq c x) [
  | inl e ↦ absurd (omega (arith, none, arrival_first x xs c e))
  | inr apart ↦
      let before : arrival xs c ≡ 0 = elim (cases_eq (arrival xs c) 0) [
        | inl z ↦ z
        | inr some ↦ absurd (omega (arith, none, arrival_past x xs c apart, later_some (arrival xs c) some))
      ] in
      let next : arrival (xs ++ c ∷ []) c ≡ length xs + 1 = arrival_last xs c before in
      arrival_past x (xs ++ c ∷ []) c apart ∙ later_some (arrival (xs ++ c ∷ []) c) (λ z. omega (arith, z, next)) ∙ ap (λ a. a + 1) next
      ∙ (let shifted : length xs + 1 + 1 ≡ suc (length xs) + 1 = omega arith in shifted)
]

-- what a look-up finds: whether it is among them, and where
pub any_come : (cols : List ℕ) (j : ℕ) → (list_any (nat_eq j) cols ≡ true) ↔ (arrival cols j ≢ 0)
any_come [] j = ((λ e. absurd (true≢false (sym e))), (λ some. absurd (some refl)))
any_come (x ∷ xs) j = elim (cases_eq j x) [
  | inl e ↦ ((λ t z. omega (arith, z, arrival_first x xs j e)), (λ some. ap (λ b. b || list_any (nat_eq j) xs) (eq-eqb j x e)))
  | inr d ↦
      let rest : list_any (nat_eq j) (x ∷ xs) ≡ list_any (nat_eq j) xs = ap (λ b. b || list_any (nat_eq j) xs) (ne_eqb j x d) in
      let back = any_come xs j in (
        λ t z. let some : arrival xs j ≢ 0 = back.0 (sym rest ∙ t) in omega (arith, z, arrival_past x xs j d, later_some (arrival xs j) some),
        λ some. rest ∙ back.1 (λ z. some (arrival_past x xs j d ∙ later_none (arrival xs j) z)),
      )
]

abbrev found : ℕ → ℕ → ℕ
found q n = cond (nat_lt q n) (q + 1) 0

arrival_place : (cols : List ℕ) (j : ℕ) → arrival cols j ≡ found (position_or_len (nat_eq j) cols) (length cols)
arrival_place [] j = refl
arrival_place (x ∷ xs) j = elim (cases_eq j x) [
  | inl e ↦ arrival_first x xs j e ∙ sym (cond-true (nat_lt 0 (length (x ∷ xs))) (0 + 1) 0 (lt-ltb 0 (length (x ∷ xs)) (omega arith))) ∙ sym (ap (λ b. found (cond (not b) (1 + position_or_len (nat_eq j) xs) 0) (length (x ∷ xs))) (eq-eqb j x e))
  | inr d ↦
      let q : ℕ = position_or_len (nat_eq j) xs in
      let at : found (position_or_len (nat_eq j) (x ∷ xs)) (length (x ∷ xs)) ≡ found (1 + q) (suc (length xs)) =
      ap (λ b. found (cond (not b) (1 + position_or_len (nat_eq j) xs) 0) (length (x ∷ xs))) (ne_eqb j x d) in
      arrival_past x xs j d ∙ ap later (arrival_place xs j) ∙ sym (at ∙ one_later q (length xs))
]
  where
    one_later : (q n : ℕ) → found (1 + q) (suc n) ≡ later (found q n)
    one_later q n = elim (cases_lt q n) [
      | inl l ↦
          let here : found q n ≡ q + 1 = cond-true (nat_lt q n) (q + 1) 0 (lt-ltb q n l) in
          let next : found (1 + q) (suc n) ≡ 1 + q + 1 = cond-true (nat_lt (1 + q) (suc n)) (1 + q + 1) 0 (lt-ltb (1 + q) (suc n) (omega arith)) in
          omega (arith, next, later_some (found q n) (λ z. omega (arith, z, here)), here)
      | inr le ↦
          let here : found q n ≡ 0 = cond-false (nat_lt q n) (q + 1) 0 (le-ltb q n le) in
          let next : found (1 + q) (suc n) ≡ 0 = cond-false (nat_lt (1 + q) (suc n)) (1 + q + 1) 0 (le-ltb (1 + q) (suc n) (omega arith)) in
          next ∙ sym (later_none (found q n) here)
    ]

abbrev arrival_of : Option ℕ → ℕ
arrival_of (Some k) = k + 1
arrival_of None = 0

pub arrival_found : (cols : List ℕ) (c : ℕ) (o : Option ℕ) → o ≡ position (nat_eq c) cols → arrival cols c ≡ arrival_of o
arrival_found cols c o e = arrival_place cols c ∙ pushed (nat_lt (position_or_len (nat_eq c) cols) (length cols)) ∙ sym (ap arrival_of e)
  where
    pushed : (b : Bool) → cond b (position_or_len (nat_eq c) cols + 1) 0 ≡ arrival_of (cond b (Some (position_or_len (nat_eq c) cols)) None)
    pushed true = refl
    pushed false = refl

-- where it stands in the list of arrivals
pub at_arrival : (n : ℕ) (cols : List ℕ) (j : ℕ) → j < n → slice_index (list_of n (arrival cols)) j ≡ arrival cols j
at_arrival n cols j l = at_list_of n (arrival cols) j l

pub long_arrivals : (n : ℕ) (cols : List ℕ) → length (list_of n (arrival cols)) ≡ n
long_arrivals n cols = length_list_of n (arrival cols)

-- the numbers are those below the room, but for the unused ones
abbrev pub IsUnused : NumberedColumns → ℕ → Type 0
IsUnused N s = s + N.count < N.room

pub number_back : {N : NumberedColumns} → IsNumbering N → (s : ℕ) → s < N.room → N.room ≤ s + N.count →
    (column_numbered N s < length N.arrivals) × (slice_index N.arrivals (column_numbered N s) ≡ N.room - s) × (number_of N (column_numbered N s) ≡ s)
number_back {N} h s l used =
    let k : ℕ = N.room - 1 - s in
    let less : k < N.count = omega (arith, l, used) in
    let at : slice_index N.arrivals (slice_index N.columns k) ≡ k + 1 = h.back k less in
    (h.inside k less, omega (arith, at, l), omega (arith, at, l))

pub named : {N : NumberedColumns} → IsNumbering N → (s : ℕ) → s < N.room → ((j : ℕ) × (j < length N.arrivals) × (number_of N j ≡ s)) ⊎ IsUnused N s
named {N} h s l = elim (cases_lt (s + N.count) N.room) [
  | inl off ↦ inr off
  | inr used ↦ let b = number_back h s l used in inl (column_numbered N s, b.0, b.2)
]

-- the number of a column that has come, and the column with this number
pub number_there : {N : NumberedColumns} → IsNumbering N → (j : ℕ) → j < length N.arrivals → slice_index N.arrivals j ≢ 0 →
    (number_of N j < N.room) × (N.room ≤ number_of N j + N.count) × (column_numbered N (number_of N j) ≡ j)
number_there {N} h j l come =
    let at = h.come j l come in
    let place : N.room - 1 - number_of N j ≡ slice_index N.arrivals j - 1 = omega (arith, at.0, h.few, come) in
    (omega (arith, at.0, h.few, come), omega (arith, at.0, h.few), ap (slice_index N.columns) place ∙ at.1)

-- none has come at first
pub none_come : (n room : ℕ) → n ≤ 2147483648 → room ≤ n → IsNumbering (no_columns n room)
none_come n room small within = record {
  width_small = omega (arith, long_arrivals n []);
  within = omega (arith, long_arrivals n []);
  few = omega arith;
  long = refl;
  inside = λ k l. absurd (omega arith);
  back = λ k l. absurd (omega arith);
  come = λ j l some. absurd (some (at_arrival n [] j (omega (arith, long_arrivals n []))));
}

-- there is room for a column that hasn't come
pub room_left : {N : NumberedColumns} {c : ℕ} → IsNumbering N → c < length N.arrivals → slice_index N.arrivals c ≡ 0 → HasRoomFor N 1 → N.count < N.room
room_left {N} {c} h inside none (inl few) = omega (arith, few)
room_left {N} {c} h inside none (inr all) =
    let few : N.count + 1 ≤ length N.arrivals = pigeonhole (N.count + 1) (length N.arrivals) place within apart in omega (arith, few, all)
  where
    old_apart : (s : ℕ) → s < N.count → slice_index N.columns s ≢ c
    old_apart s l e = omega (arith, ap (slice_index N.arrivals) e, h.back s l, none)

    place : ℕ → ℕ
    place s = cond (eqb s N.count) c (slice_index N.columns s)

    place_last : place N.count ≡ c
    place_last = cond-true (eqb N.count N.count) c (slice_index N.columns N.count) (eq-eqb N.count N.count refl)

    place_old : (s : ℕ) → s ≢ N.count → place s ≡ slice_index N.columns s
    place_old s d = cond-false (eqb s N.count) c (slice_index N.columns s) (ne_eqb s N.count d)

    within : (s : ℕ) → s < N.count + 1 → place s < length N.arrivals
    within s l = elim (cases_eq s N.count) [
      | inl e ↦ omega (arith, ap place e, place_last, inside)
      | inr d ↦ omega (arith, place_old s d, h.inside s (omega (arith, d)))
    ]

    apart : (s t : ℕ) → s < N.count + 1 → t < N.count + 1 → place s ≡ place t → s ≡ t
    apart s t ls lt e = elim (cases_eq s N.count) [
      | inl es ↦ elim (cases_eq t N.count) [
        | inl et ↦ es ∙ sym et
        | inr dt ↦ absurd (old_apart t (omega (arith, dt)) (sym (place_old t dt) ∙ sym e ∙ ap place es ∙ place_last))
      ]
      | inr ds ↦ elim (cases_eq t N.count) [
        | inl et ↦ absurd (old_apart s (omega (arith, ds)) (sym (place_old s ds) ∙ e ∙ ap place et ∙ place_last))
        | inr dt ↦
            let same : slice_index N.columns s ≡ slice_index N.columns t = sym (place_old s ds) ∙ e ∙ place_old t dt in
            omega (arith, h.back s (omega (arith, ds)), h.back t (omega (arith, dt)), ap (slice_index N.arrivals) same)
      ]
    ]

-- A column comes that hadn't.
module _ {n room : ℕ} {columns : List ℕ} {c : ℕ} (h : IsNumbering (numbered n room columns)) (inside : c < n) (none : arrival columns c ≡ 0) (left : length columns < room) where
  abbrev old : NumberedColumns
  old = numbered n room columns

  abbrev new : NumberedColumns
  new = numbered n room (columns ++ c ∷ [])

  same_long : length new.arrivals ≡ length old.arrivals
  same_long = long_arrivals n (columns ++ c ∷ []) ∙ sym (long_arrivals n columns)

  one_more : new.count ≡ old.count + 1
  one_more = length-append columns (c ∷ [])

  here : slice_index new.arrivals c ≡ old.count + 1
  here = at_arrival n (columns ++ c ∷ []) c inside ∙ arrival_last columns c none

  none_here : slice_index old.arrivals c ≡ 0
  none_here = at_arrival n columns c inside ∙ none

  there : (j : ℕ) → j ≢ c → slice_index new.arrivals j ≡ slice_index old.arrivals j
  there j d = elim (cases_lt j n) [
    | inl l ↦ at_arrival n (columns ++ c ∷ []) j l ∙ arrival_other columns c j d ∙ sym (at_arrival n columns j l)
    | inr le ↦ get_or_past new.arrivals j 0 (omega (arith, long_arrivals n (columns ++ c ∷ []))) ∙ sym (get_or_past old.arrivals j 0 (omega (arith, long_arrivals n columns)))
  ]

  old_apart : (s : ℕ) → s < old.count → slice_index columns s ≢ c
  old_apart s l e = omega (arith, ap (slice_index old.arrivals) e, h.back s l, none_here)

  before : (s : ℕ) → s < old.count → slice_index new.columns s ≡ slice_index columns s
  before s l = get_or-append columns (c ∷ []) 0 s l

  last : slice_index new.columns old.count ≡ c
  last = get_or-append_seam columns c [] 0

  pub column_noted : IsNumbering (numbered n room (columns ++ c ∷ []))
  column_noted = record {
    width_small = omega (arith, same_long, h.width_small);
    within = omega (arith, same_long, h.within);
    few = omega (arith, one_more, left);
    long = refl;
    inside = λ s l. elim (cases_eq s old.count) [
      | inl e ↦ omega (arith, ap (slice_index new.columns) e, last, inside, long_arrivals n (columns ++ c ∷ []))
      | inr d ↦ let less : s < old.count = omega (arith, d, one_more) in omega (arith, same_long, before s less, h.inside s less)
    ];
    back = λ s l. elim (cases_eq s old.count) [
      | inl e ↦ ap (slice_index new.arrivals) (ap (slice_index new.columns) e ∙ last) ∙ here ∙ ap (λ s. s + 1) (sym e)
      | inr d ↦ let less : s < old.count = omega (arith, d, one_more) in
          ap (slice_index new.arrivals) (before s less) ∙ there (slice_index columns s) (old_apart s less) ∙ h.back s less
    ];
    come = λ j l some. elim (cases_eq j c) [
      | inl e ↦
          let at : slice_index new.arrivals j ≡ old.count + 1 = ap (slice_index new.arrivals) e ∙ here in
          let place : slice_index new.arrivals j - 1 ≡ old.count = omega (arith, at) in
          (omega (arith, at, one_more), ap (slice_index new.columns) place ∙ last ∙ sym e)
      | inr d ↦
          let at : slice_index new.arrivals j ≡ slice_index old.arrivals j = there j d in
          let was : slice_index old.arrivals j ≢ 0 = λ e. some (at ∙ e) in
          let back = h.come j (omega (arith, same_long)) was in
          let less : slice_index old.arrivals j - 1 < old.count = omega (arith, back.0, was) in
          (omega (arith, at, back.0, one_more), ap (λ a. slice_index new.columns (a - 1)) at ∙ before (slice_index old.arrivals j - 1) less ∙ back.1)
    ];
  }

  pub noted_behind : ComesBehind (numbered n room columns) (numbered n room (columns ++ c ∷ []))
  noted_behind = record {
    width = same_long;
    room = refl;
    more = omega (arith, one_more);
    kept = λ j some e. elim (cases_eq j c) [ inl same ↦ some (ap (slice_index old.arrivals) same ∙ none_here) | inr d ↦ some (sym (there j d) ∙ e) ];
    same = λ w by.
        ap (λ n. list_of n (λ j. slice_index w (room - slice_index new.arrivals j))) same_long
        ∙ list_of_equal (length old.arrivals) (λ j. slice_index w (room - slice_index new.arrivals j)) (λ j. slice_index w (room - slice_index old.arrivals j)) (λ j l.
        elim (cases_eq j c) [
          | inl e ↦
              let was : slice_index old.arrivals j ≡ 0 = ap (slice_index old.arrivals) e ∙ none_here in
              let now : slice_index new.arrivals j ≡ old.count + 1 = ap (slice_index new.arrivals) e ∙ here in
              by.zero (room - slice_index new.arrivals j) (omega (arith, now, left)) ∙ sym (get_or_past w (room - slice_index old.arrivals j) 0 (omega (arith, was, by.len)))
          | inr d ↦ ap (λ a. slice_index w (room - a)) (there j d)
        ]);
  }

  pub now_come : slice_index (numbered n room (columns ++ c ∷ [])).arrivals c ≢ 0
  now_come e = omega (arith, here, e)

-- nothing came, or columns after columns
pub behind_itself : (N : NumberedColumns) → ComesBehind N N
behind_itself N = record { width = refl; room = refl; more = omega arith; kept = λ j some. some; same = λ w by. refl }

-- what inserting a column into those that have come does
pub record IsNoted (n room : ℕ) (old new : List ℕ) (c : ℕ) : Type 0 where
  pub numbering : IsNumbering (numbered n room new)
  pub behind : ComesBehind (numbered n room old) (numbered n room new)
  pub come : slice_index (list_of n (arrival new)) c ≢ 0
  pub few : length new ≤ length old + 1

pub is_noted : {n room : ℕ} {old new : List ℕ} {c : ℕ} → IsNumbering (numbered n room old) → c < n → HasRoomFor (numbered n room old) 1 → new ≡ insert_key nat_eq old c → IsNoted n room old new c
is_noted {n} {room} {old} {new} {c} h inside left e = by (list_any (nat_eq c) old) refl
  where
    by : (b : Bool) → list_any (nat_eq c) old ≡ b → IsNoted n room old new c
    by true some =
        let same : new ≡ old = e ∙ ap (λ b. if b then old else old ++ c ∷ []) some in
        subst (λ ks. IsNoted n room old ks c) (sym same) (record {
          numbering = h;
          behind = behind_itself (numbered n room old);
          come = λ z. (any_come old c).0 some (sym (at_arrival n old c inside) ∙ z);
          few = omega arith;
        })
    by false out =
        let more : new ≡ old ++ c ∷ [] = e ∙ ap (λ b. if b then old else old ++ c ∷ []) out in
        let none : arrival old c ≡ 0 = elim (cases_eq (arrival old c) 0) [ inl z ↦ z | inr some ↦ absurd (true≢false (sym ((any_come old c).1 some) ∙ out)) ] in
        let room_is : length old < room = room_left h (omega (arith, inside, long_arrivals n old)) (at_arrival n old c inside ∙ none) left in
        subst (λ ks. IsNoted n room old ks c) (sym more) (record {
          numbering = column_noted h inside none room_is;
          behind = noted_behind h inside none room_is;
          come = now_come h inside none room_is;
          few = omega (arith, length-append old (c ∷ []));
        })

-- after k of m columns there is room for one more
pub room_for_next : {old new : NumberedColumns} {k m : ℕ} → ComesBehind old new → new.count ≤ old.count + k → k < m → HasRoomFor old m → HasRoomFor new 1
room_for_next b few l (inl room) = inl (omega (arith, few, l, room, b.room))
room_for_next b few l (inr all) = inr (b.room ∙ all ∙ sym b.width)

-- Numbers are added.
pub numbers_added : {N : NumberedColumns} → IsNumbering N → (more : ℕ) → more + N.room ≤ length N.arrivals → IsNumbering (with_numbers N more)
numbers_added {N} h more l = record {
  width_small = h.width_small;
  within = l;
  few = omega (arith, h.few);
  long = h.long;
  inside = h.inside;
  back = h.back;
  come = h.come;
}

-- a row behind as many zeros stays where it was
pub behind_added : {N : NumberedColumns} → IsNumbering N → (more : ℕ) (w : List ℕ) → at_columns (with_numbers N more) (row_behind_zeros more w) ≡ at_columns N w
behind_added {N} h more w = list_of_equal (length N.arrivals) (λ j. slice_index (row_behind_zeros more w) (more + N.room - slice_index N.arrivals j)) (λ j. slice_index w (N.room - slice_index N.arrivals j)) (λ j l.
    let few : slice_index N.arrivals j ≤ N.room = elim (cases_eq (slice_index N.arrivals j) 0) [
      | inl z ↦ omega (arith, z)
      | inr some ↦ omega (arith, (h.come j l some).0, h.few)
    ] in
    let at : more + N.room - slice_index N.arrivals j ≡ more + (N.room - slice_index N.arrivals j) = omega (arith, few) in
    ap (slice_index (row_behind_zeros more w)) at ∙ behind_at more w (N.room - slice_index N.arrivals j))

all_behind : {N : NumberedColumns} → IsNumbering N → (more : ℕ) (rows : List (List ℕ)) → map (at_columns (with_numbers N more)) (map (row_behind_zeros more) rows) ≡ map (at_columns N) rows
all_behind h more [] = refl
all_behind h more (w ∷ rows) = ap₂ ◌∷◌ (behind_added h more w) (all_behind h more rows)

-- so kept rows are seen as before
pub seen_added : (kept : KeptRows) {N : NumberedColumns} → IsNumbering N → (more : ℕ) → seen_rows (behind_zeros more kept) (with_numbers N more) ≡ seen_rows kept N
seen_added kept {N} h more =
    ap (λ rows. record { modulus = kept.modulus; matrix = record { height = kept.matrix.height; width = length N.arrivals; rows = rows } }) (all_behind h more kept.matrix.rows)

pub kept_added : {kept : KeptRows} {N : NumberedColumns} → IsSound kept → AreKeptByNumbers kept N → (more : ℕ) → AreKeptByNumbers (behind_zeros more kept) (with_numbers N more)
kept_added {kept} {N} sound by more = record {
  width = ap (λ n. more + n) by.width;
  come = λ k l. omega (arith, by.come k l, get_or-map (λ l. more + l) kept.leads k 0 0 (omega (arith, l, sound.leads.len)));
}

-- a row by numbers stays one
pub by_numbers_behind : {old new : NumberedColumns} {w : List ℕ} → ComesBehind old new → IsByNumbers old w → IsByNumbers new w
by_numbers_behind b by = record { len = by.len ∙ sym b.room; zero = λ s l. by.zero s (omega (arith, b.room, b.more)) }

pub behind_chained : {first second third : NumberedColumns} → ComesBehind first second → ComesBehind second third → ComesBehind first third
behind_chained a b = record {
  width = b.width ∙ a.width;
  room = b.room ∙ a.room;
  more = omega (arith, a.more, b.more);
  kept = λ j some. b.kept j (a.kept j some);
  same = λ w by. b.same w (by_numbers_behind a by) ∙ a.same w by;
}

-- the entries of a row by numbers stand at used ones
pub used_support : {N : NumberedColumns} {p n : ℕ} {w : List ℕ} → IsByNumbers N w → IsSparse p n (support w) (nonzeros w) → AreUsed N (support w)
used_support {N} {p} {n} {w} by s k l = elim (cases_lt (slice_index (support w) k + N.count) N.room) [
  | inl off ↦
      let here : slice_index w (slice_index (support w) k) ≡ slice_index (nonzeros w) k = sym (entry_support w (slice_index (support w) k)) ∙ entry_here (support w) (nonzeros w) s.long s.rising k l in
      absurd (omega (arith, here, by.zero (slice_index (support w) k) off, s.positive k (omega (arith, l, s.long))))
  | inr le ↦ le
]

-- Rows that are kept by numbers.
module _ {kept : KeptRows} {N : NumberedColumns} (sound : IsSound kept) (by : AreKeptByNumbers kept N) where
  pub kept_zero : (i s : ℕ) → i < kept.matrix.height → IsUnused N s → entry kept.matrix i s ≡ 0
  kept_zero i s l off = sound.leads.left i s l (omega (arith, by.come i l))

  pub kept_row : (i : ℕ) → i < kept.matrix.height → IsByNumbers N (row kept.matrix i)
  kept_row i l = record { len = (sound.matrix.each i l).len ∙ by.width; zero = λ s off. kept_zero i s l off }

  -- they are seen as before where columns came
  pub seen_behind : {new : NumberedColumns} → ComesBehind N new → seen_rows kept new ≡ seen_rows kept N
  seen_behind {new} b =
      ap (λ n. record { modulus = kept.modulus; matrix = record { height = kept.matrix.height; width = n; rows = map (at_columns new) kept.matrix.rows } }) b.width
      ∙ ap (λ rows. record { modulus = kept.modulus; matrix = record { height = kept.matrix.height; width = length N.arrivals; rows = rows } })
      (map_equal (at_columns new) (at_columns N) kept.matrix.rows (λ k l. b.same (row kept.matrix k) (kept_row k (omega (arith, sound.matrix.len)))))

  pub kept_behind : {new : NumberedColumns} → ComesBehind N new → AreKeptByNumbers kept new
  kept_behind b = record { width = by.width ∙ sym b.room; come = λ k l. omega (arith, by.come k l, b.room, b.more) }

  -- what combinations are is seen at the columns
  pub combination_seen : {v : List ℕ} → IsNumbering N → IsVector kept.modulus kept.matrix.width v → IsByNumbers N v →
      IsCombination kept.modulus kept.matrix v ↔ IsCombination kept.modulus (seen_matrix N kept.matrix) (at_columns N v)
  combination_seen {v} h vector is =
      let pos : 0 < kept.modulus = omega (arith, sound.two_or_more) in (
        combination_there (length N.arrivals) (number_of N) pos sound.matrix,
        combination_back (length N.arrivals) (number_of N) N.room (IsUnused N) (named h) pos sound.matrix by.width (λ i s l off. kept_zero i s l off)
            (subst (λ n. IsVector kept.modulus n v) by.width vector) (λ s l off. is.zero s off),
      )

  -- a combination has no entry at a column that hasn't come
  pub combination_come : {cols vals : List ℕ} → IsSparse kept.modulus (length N.arrivals) cols vals →
      IsCombination kept.modulus (seen_matrix N kept.matrix) (spread (length N.arrivals) cols vals) → HaveCome N cols
  combination_come {cols} {vals} sparse c k l none =
      let j : ℕ = slice_index cols k in
      let zero : slice_index (spread (length N.arrivals) cols vals) j ≡ 0 =
      combination_beyond (length N.arrivals) (number_of N) (omega (arith, sound.two_or_more)) sound.matrix c j (sparse.below k l) (omega (arith, none, by.width)) in
      let there : slice_index (spread (length N.arrivals) cols vals) j ≡ slice_index vals k =
      at_spread (length N.arrivals) cols vals j (sparse.below k l) ∙ entry_here cols vals sparse.long sparse.rising k l in
      omega (arith, zero, there, sparse.positive k (omega (arith, l, sparse.long)))

  -- what joins leads at a column that has come
  inserted_come : {new : KeptRows} {v : List ℕ} → IsByNumbers N v → (lead : ℕ) → Appends kept new v lead → N.room ≤ lead + N.count
  inserted_come {new} {v} is lead h = elim (cases_lt (lead + N.count) N.room) [
    | inl off ↦ absurd (h.met (is.zero lead off) (λ k l. kept_zero k lead l off))
    | inr le ↦ le
  ]

  -- so the rows stay kept by numbers
  pub kept_inserted : {new : KeptRows} {v : List ℕ} → IsByNumbers N v → (lead : Option ℕ) → Inserts kept new v lead → AreKeptByNumbers new N
  kept_inserted {new} {v} is (Some c) h = record {
    width = ap (λ (A : Matrix). A.width) h.matrix ∙ by.width;
    come = λ k l. elim (cases_eq k kept.matrix.height) [
      | inl e ↦
          let here : slice_index new.leads k ≡ c =
          ap (λ ls. slice_index ls k) h.leads ∙ ap (slice_index (kept.leads ++ c ∷ [])) (e ∙ sym sound.leads.len) ∙ get_or-append_seam kept.leads c [] 0 in
          omega (arith, here, inserted_come is c h)
      | inr d ↦
          let less : k < kept.matrix.height = omega (arith, ap (λ (A : Matrix). A.height) h.matrix, l, d) in
          let here : slice_index new.leads k ≡ slice_index kept.leads k = ap (λ ls. slice_index ls k) h.leads ∙ get_or-append kept.leads (c ∷ []) 0 k (omega (arith, less, sound.leads.len)) in
          omega (arith, here, by.come k less)
    ];
  }
  kept_inserted {new} {v} is None h = subst (λ (K : KeptRows). AreKeptByNumbers K N) (sym h.0) by

spread_is : (n : ℕ) (cs vs : List ℕ) → spread n cs vs ≡ list_of n (entry_at cs vs)
unfolding spread
spread_is n cs vs = refl

-- A row is built of values at the numbers of its columns.
module _ {N : NumberedColumns} (h : IsNumbering N) where
  -- columns that have come are told apart by their numbers
  numbers_apart : (i j : ℕ) → i < length N.arrivals → j < length N.arrivals → slice_index N.arrivals i ≢ 0 → number_of N i ≡ number_of N j → i ≡ j
  numbers_apart i j li lj come e =
      let at = h.come i li come in
      elim (cases_eq (slice_index N.arrivals j) 0) [
        | inl none ↦ absurd (omega (arith, e, none, at.0, h.few, come))
        | inr some ↦
            let other = h.come j lj some in
            let same : slice_index N.arrivals i ≡ slice_index N.arrivals j = omega (arith, e, at.0, other.0, h.few) in
            sym at.1 ∙ ap (λ a. slice_index N.columns (a - 1)) same ∙ other.1
      ]

  pub built_by_numbers : {p : ℕ} {cols vals : List ℕ} {r : ResidueMatrix} → 0 < p → IsSparse p (length N.arrivals) cols vals → HaveCome N cols → r.modulus ≡ p →
      r.matrix ≡ built p 1 N.room (map triple (row_triples 0 (map (number_of N) cols) vals)) → IsRowByNumbers N p cols vals r
  built_by_numbers {p} {cols} {vals} {r} pos sparse come modulus matrix = record {
    modulus = modulus;
    height = ap (λ (A : Matrix). A.height) matrix;
    width = ap (λ (A : Matrix). A.width) matrix;
    by_numbers = record {
      len = ap length is_row ∙ length_list_of N.room sums;
      zero = λ s off. ap (λ u. slice_index u s) is_row ∙ at_list_of N.room sums s (omega (arith, off))
          ∙ ap (λ x. x % p) (renamed_away (number_of N) cols vals s (λ k l e. omega (arith, e, off, (number_there h (slice_index cols k) (sparse.below k l) (come k l)).1))) ∙ zero-mod p;
    };
    same = ap (at_columns N) is_row ∙ moved ∙ sym (spread_is n cols vals);
  }
    where
      n : ℕ
      n = length N.arrivals

      sums : ℕ → ℕ
      sums s = sum_at 0 s (map triple (row_triples 0 (map (number_of N) cols) vals)) % p

      is_row : row r.matrix 0 ≡ list_of N.room sums
      is_row = ap (λ A. row A 0) matrix ∙ row_matrix_of 1 N.room (λ i s. sum_at i s (map triple (row_triples 0 (map (number_of N) cols) vals)) % p) 0 (omega arith)

      small : (j : ℕ) → j < n → entry_at cols vals j < p
      small j l = subst (λ x. x < p) (at_spread n cols vals j l) ((spread_vector pos sparse).residues j l)

      moved : at_columns N (list_of N.room sums) ≡ list_of n (entry_at cols vals)
      moved = list_of_equal n (λ j. slice_index (list_of N.room sums) (number_of N j)) (entry_at cols vals) (λ j l. elim (cases_eq (slice_index N.arrivals j) 0) [
        | inl none ↦
            get_or_past (list_of N.room sums) (number_of N j) 0 (omega (arith, none, length_list_of N.room sums))
            ∙ sym (elim (entry_cover cols vals j) [ inl z ↦ z | inr w ↦ absurd (come w.0 w.1 (ap (slice_index N.arrivals) w.2 ∙ none)) ])
        | inr some ↦
            at_list_of N.room sums (number_of N j) (number_there h j l some).0
            ∙ ap (λ x. x % p) (renamed_here (number_of N) cols vals j sparse.rising (λ k lk e. numbers_apart (slice_index cols k) j (sparse.below k lk) l (come k lk) e))
            ∙ mod-eq_of_lt (small j l)
      ])

  -- and back
  pub built_at_columns : {p : ℕ} {numbers vals : List ℕ} {r : ResidueMatrix} → 0 < p → IsSparse p N.room numbers vals → AreUsed N numbers → r.modulus ≡ p →
      r.matrix ≡ built p 1 (length N.arrivals) (map triple (row_triples 0 (map (column_numbered N) numbers) vals)) → IsRowAtColumns N p numbers vals r
  built_at_columns {p} {numbers} {vals} {r} pos sparse used modulus matrix = record {
    modulus = modulus;
    height = ap (λ (A : Matrix). A.height) matrix;
    width = ap (λ (A : Matrix). A.width) matrix;
    same = is_row ∙ list_of_equal n sums (λ j. slice_index w (number_of N j)) at;
  }
    where
      n : ℕ
      n = length N.arrivals

      w : List ℕ
      w = spread N.room numbers vals

      vector : IsVector p N.room w
      vector = spread_vector pos sparse

      sums : ℕ → ℕ
      sums j = sum_at 0 j (map triple (row_triples 0 (map (column_numbered N) numbers) vals)) % p

      is_row : row r.matrix 0 ≡ list_of n sums
      is_row = ap (λ A. row A 0) matrix ∙ row_matrix_of 1 n (λ i s. sum_at i s (map triple (row_triples 0 (map (column_numbered N) numbers) vals)) % p) 0 (omega arith)

      at : (j : ℕ) → j < n → sums j ≡ slice_index w (number_of N j)
      at j l = elim (cases_eq (slice_index N.arrivals j) 0) [
        | inl none ↦
            ap (λ x. x % p) (renamed_away (column_numbered N) numbers vals j (λ k lk e.
            let b = number_back h (slice_index numbers k) (sparse.below k lk) (used k lk) in omega (arith, b.1, ap (slice_index N.arrivals) e, none, sparse.below k lk)))
            ∙ zero-mod p ∙ sym (get_or_past w (number_of N j) 0 (omega (arith, none, vector.len)))
        | inr some ↦
            let t = number_there h j l some in
            ap (λ c. sum_at 0 c (map triple (row_triples 0 (map (column_numbered N) numbers) vals)) % p) (sym t.2)
            ∙ ap (λ x. x % p) (renamed_here (column_numbered N) numbers vals (number_of N j) sparse.rising (λ k lk e.
            let b = number_back h (slice_index numbers k) (sparse.below k lk) (used k lk) in
            let c = number_back h (number_of N j) t.0 t.1 in
            sym b.2 ∙ ap (number_of N) e ∙ c.2) ∙ sym (at_spread N.room numbers vals (number_of N j) t.0))
            ∙ mod-eq_of_lt (vector.residues (number_of N j) t.0)
      ]

  -- the values lie inside the row
  pub fit_by_numbers : {p : ℕ} {cols vals : List ℕ} → IsSparse p (length N.arrivals) cols vals → HaveCome N cols →
      All (FitsMatrix 1 N.room p) (row_triples 0 (map (number_of N) cols) vals)
  fit_by_numbers {p} {cols} {vals} sparse come =
      renamed_fit p N.room (map (number_of N) cols) vals (length-map cols (number_of N) ∙ sparse.long)
      (λ k l. let less : k < length cols = omega (arith, length-map cols (number_of N)) in
      omega (arith, get_or-map (number_of N) cols k 0 0 less, (number_there h (slice_index cols k) (sparse.below k less) (come k less)).0)) sparse.residues

  pub fit_at_columns : {p : ℕ} {numbers vals : List ℕ} → IsSparse p N.room numbers vals → AreUsed N numbers →
      All (FitsMatrix 1 (length N.arrivals) p) (row_triples 0 (map (column_numbered N) numbers) vals)
  fit_at_columns {p} {numbers} {vals} sparse used =
      renamed_fit p (length N.arrivals) (map (column_numbered N) numbers) vals (length-map numbers (column_numbered N) ∙ sparse.long)
      (λ k l. let less : k < length numbers = omega (arith, length-map numbers (column_numbered N)) in
      omega (arith, get_or-map (column_numbered N) numbers k 0 0 less, (number_back h (slice_index numbers k) (sparse.below k less) (used k less)).0)) sparse.residues
