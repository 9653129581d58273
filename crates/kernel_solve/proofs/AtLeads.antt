-- What is written at the leads of a form: entry by entry, from the entries of a column.
use Rattle.std.proofs.Common.{ℕ, zero, suc, ◌&&◌, ◌⊎◌, ◌≡◌, ◌≢◌, ◌+◌, ◌-◌, ◌*◌, ◌%◌, ◌<◌, ◌≤◌, inl, inr, List, [], ◌∷◌, ◌++◌, length, map, take, slice_index, slice_set, eqb, refl, sym, subst, ap, ap₂, ◌∙◌, arith, mod-eq_of_lt, mod-lt}
use Rattle.std.proofs.lemmas.Bool.{cases_eq, cases_lt, cond-true, cond-false, eq-eqb, ne_eqb}
use Rattle.std.proofs.lemmas.List.{get_or-map, get_or-set_other, get_or-set_same, get_or-take, length-map, length-set, length-take-le, take_all, take_more}
use native.Mathlib.Nat.{zero-mod}
use Rattle.residue_words.specs.Matrix.{Matrix, IsMatrix, IsVector, entry}
use Rattle.residue_words.proofs.Residues.{multiple_zero}
use Rattle.residue_words.proofs.Vectors.{at_list_of, entry_matrix_of, is_matrix_of, length_list_of}
use Rattle.sparse_rows.specs.Rows.{AreBelow, AreRising, Triple, built, nonzeros, sum_at, support}
use Rattle.sparse_rows.specs.Stored.{IsSparse, entry_at, spread}
use Rattle.sparse_rows.proofs.Loops.{IsCopiedSoFar}
use Rattle.sparse_rows.proofs.Spread.{at_spread, entry_beyond, entry_cover, entry_here, entry_push_other, entry_push_same, entry_support, spread_support, spread_vector}
use Rattle.row_space.specs.Kernel.{EndsAt}
use Rattle.kernel_solve.specs.Column.{column}
use Rattle.kernel_solve.specs.ReadOff.{IsAtLeads, IsBasisRow}
use Rattle.kernel_solve.specs.Refuted.{AreZeroBehind}

-- an entry of the values' images is the entry's image
pub entry_map : (f : ℕ → ℕ) → f 0 ≡ 0 → (cs vs : List ℕ) (j : ℕ) → entry_at cs (map f vs) j ≡ f (entry_at cs vs j)
entry_map f z [] vs j = sym z
entry_map f z (c ∷ cs) [] j = sym z
entry_map f z (c ∷ cs) (v ∷ vs) j = elim (cases_eq c j) [
  | inl e ↦ cond-true (eqb c j) (f v) (entry_at cs (map f vs) j) (eq-eqb c j e) ∙ sym (ap f (cond-true (eqb c j) v (entry_at cs vs j) (eq-eqb c j e)))
  | inr d ↦ cond-false (eqb c j) (f v) (entry_at cs (map f vs) j) (ne_eqb c j d) ∙ entry_map f z cs vs j ∙ sym (ap f (cond-false (eqb c j) v (entry_at cs vs j) (ne_eqb c j d)))
]

-- the negative of 0
pub negative_zero : (p : ℕ) → 0 < p → (p - 0) % p ≡ 0
negative_zero p pos = ap (λ t. t % p) (let e : p - 0 ≡ 1 * p = omega arith in e) ∙ multiple_zero p 1

-- where columns are moved apart by g, an entry moves with its column
pub entry_moved : (g : ℕ → ℕ) (cs vs : List ℕ) (k : ℕ) → ((t : ℕ) → t < length cs → g (slice_index cs t) ≡ g k → slice_index cs t ≡ k) → entry_at (map g cs) vs (g k) ≡ entry_at cs vs k
entry_moved g [] vs k apart = refl
entry_moved g (c ∷ cs) [] k apart = refl
entry_moved g (c ∷ cs) (v ∷ vs) k apart = elim (cases_eq c k) [
  | inl e ↦ cond-true (eqb (g c) (g k)) v (entry_at (map g cs) vs (g k)) (eq-eqb (g c) (g k) (ap g e)) ∙ sym (cond-true (eqb c k) v (entry_at cs vs k) (eq-eqb c k e))
  | inr d ↦ cond-false (eqb (g c) (g k)) v (entry_at (map g cs) vs (g k)) (ne_eqb (g c) (g k) (λ q. d (apart 0 (omega arith) q)))
      ∙ entry_moved g cs vs k (λ t l q. apart (suc t) (omega arith) q) ∙ sym (cond-false (eqb c k) v (entry_at cs vs k) (ne_eqb c k d))
]

-- values at rows r of a form with these leads, moved to the leads
module _ (leads rs : List ℕ) (rising : (s t : ℕ) → s < t → t < length leads → slice_index leads s < slice_index leads t)
    (inside : (t : ℕ) → t < length rs → slice_index rs t < length leads) where
  abbrev pub moved : List ℕ
  moved = map (slice_index leads) rs

  pub moved_at : (t : ℕ) → t < length rs → slice_index moved t ≡ slice_index leads (slice_index rs t)
  moved_at t l = get_or-map (slice_index leads) rs t 0 0 l

  pub moved_rising : ((s t : ℕ) → s < t → t < length rs → slice_index rs s < slice_index rs t) → (s t : ℕ) → s < t → t < length moved → slice_index moved s < slice_index moved t
  moved_rising up s t a b =
      let long : length moved ≡ length rs = length-map rs (slice_index leads) in
      omega (arith, moved_at s (omega arith), moved_at t (omega arith), rising (slice_index rs s) (slice_index rs t) (up s t a (omega arith)) (inside t (omega arith)))

  -- no two leads are one
  lead_apart : (k : ℕ) → k < length leads → (t : ℕ) → t < length rs → slice_index leads (slice_index rs t) ≡ slice_index leads k → slice_index rs t ≡ k
  lead_apart k l t o e = elim (cases_eq (slice_index rs t) k) [
    | inl same ↦ same
    | inr d ↦ absurd (elim (cases_lt (slice_index rs t) k) [
      | inl less ↦ omega (arith, rising (slice_index rs t) k less l)
      | inr more ↦ omega (arith, rising k (slice_index rs t) (omega arith) (inside t o))
    ])
  ]

  at_lead : (vs : List ℕ) (k : ℕ) → k < length leads → entry_at moved vs (slice_index leads k) ≡ entry_at rs vs k
  at_lead vs k l = entry_moved (slice_index leads) rs vs k (lead_apart k l)

  no_lead : (vs : List ℕ) (j : ℕ) → ((k : ℕ) → k < length leads → slice_index leads k ≢ j) → entry_at moved vs j ≡ 0
  no_lead vs j none = elim (entry_cover moved vs j) [
    | inl z ↦ z
    | inr w ↦
        let l : w.0 < length rs = omega (arith, w.1, length-map rs (slice_index leads)) in
        absurd (none (slice_index rs w.0) (inside w.0 l) (sym (moved_at w.0 l) ∙ w.2))
  ]

  -- where these leads are before f, the row is 0 from there on
  pub moved_behind : (f k : ℕ) (vs old mid : List ℕ) → ((t : ℕ) → t < length rs → slice_index leads (slice_index rs t) < f) → k ≤ length rs → IsCopiedSoFar 0 k moved vs old mid →
      (j : ℕ) → f ≤ j → j < length mid → slice_index mid j ≡ 0
  moved_behind f k vs old mid before few copied j a b =
      let shifted : j ≡ 0 + j = omega arith in
      let long : length moved ≡ length rs = length-map rs (slice_index leads) in
      ap (slice_index mid) shifted ∙ copied.inside j (omega (arith, copied.long))
      ∙ entry_beyond (take k moved) (take k vs) f j (λ t l.
      let low : t < k = omega (arith, length-take-le k moved (omega arith)) in
      omega (arith, get_or-take k moved t 0 low, moved_at t (omega arith), before t (omega arith))) a

-- a row of the kernel basis: the negatives moved to the leads, and a 1 at the free column
pub basis_row : (p f : ℕ) (leads rs vs old mid new : List ℕ) → 0 < p → IsSparse p (length leads) rs vs → ((s t : ℕ) → s < t → t < length leads → slice_index leads s < slice_index leads t) →
    ((k : ℕ) → k < length leads → slice_index leads k < length old) → ((k : ℕ) → k < length leads → slice_index leads k ≢ f) → f < length mid →
    IsCopiedSoFar 0 (length rs) (map (slice_index leads) rs) (map (λ v. (p - v) % p) vs) old mid → new ≡ slice_set mid f 1 → IsBasisRow p leads (spread (length leads) rs vs) f new
basis_row p f leads rs vs old mid new pos sparse rising lead_inside free inside copied made =
    let negative : ℕ → ℕ = λ v. (p - v) % p in
    let cs : List ℕ = map (slice_index leads) rs in
    let ws : List ℕ = map negative vs in
    let all_columns : take (length rs) cs ≡ cs = take_all (length rs) cs (omega (arith, length-map rs (slice_index leads))) in
    let all_values : take (length rs) ws ≡ ws = take_all (length rs) ws (omega (arith, length-map vs negative, sparse.long)) in
    let read : (j : ℕ) → j < length old → slice_index mid j ≡ entry_at cs ws j = λ j l.
    let shifted : j ≡ 0 + j = omega arith in
    ap (slice_index mid) shifted ∙ copied.inside j (omega arith) ∙ ap₂ (λ a b. entry_at a b j) all_columns all_values in
    let long : length new ≡ length old = ap length made ∙ length-set mid f 1 ∙ copied.long in
    let other : (j : ℕ) → j ≢ f → slice_index new j ≡ slice_index mid j = λ j d. ap (λ u. slice_index u j) made ∙ get_or-set_other mid f j 1 0 d in
    record {
      one = ap (λ u. slice_index u f) made ∙ get_or-set_same mid f 1 0 inside;
      at_lead = λ k l.
          other (slice_index leads k) (free k l) ∙ read (slice_index leads k) (lead_inside k l) ∙ at_lead leads rs rising sparse.below ws k l
          ∙ entry_map negative (negative_zero p pos) rs vs k ∙ ap negative (sym (at_spread (length leads) rs vs k l));
      elsewhere = λ j l d none. other j d ∙ read j (omega arith) ∙ no_lead leads rs rising sparse.below ws j none;
    }

-- a column is a lead or none
pub lead_or_none : (leads : List ℕ) (j : ℕ) → ((k : ℕ) × (k < length leads) × (slice_index leads k ≡ j)) ⊎ ((k : ℕ) → k < length leads → slice_index leads k ≢ j)
lead_or_none [] j = inr (λ k l. absurd (omega arith))
lead_or_none (x ∷ xs) j = elim (cases_eq x j) [
  | inl e ↦ inl (0, omega arith, e)
  | inr d ↦ elim (lead_or_none xs j) [ inl w ↦ inl (suc w.0, omega (arith, w.1), w.2) | inr none ↦ inr (behind none d) ]
]
  where
    behind : ((k : ℕ) → k < length xs → slice_index xs k ≢ j) → x ≢ j → (k : ℕ) → k < length (x ∷ xs) → slice_index (x ∷ xs) k ≢ j
    behind none d zero l = d
    behind none d (suc k) l = none k (omega arith)

-- so the row of a basis is one of residues
pub basis_vector : {p : ℕ} {leads column : List ℕ} {f : ℕ} (v : List ℕ) → 2 ≤ p → IsBasisRow p leads column f v → IsVector p (length v) v
basis_vector {p} {leads} {column} {f} v two b = record {
  len = refl;
  residues = λ j l. elim (cases_eq j f) [
    | inl e ↦ omega (arith, ap (slice_index v) e, b.one)
    | inr d ↦ elim (lead_or_none leads j) [
      | inl w ↦ omega (arith, ap (slice_index v) w.2, b.at_lead w.0 w.1, (let pos : 0 < p = omega arith in mod-lt (p - slice_index column w.0) pos))
      | inr none ↦ omega (arith, b.elsewhere j l d none)
    ]
  ];
}

-- a value pushed at one row more
pub sum_pushed : (i j : ℕ) (ts : List Triple) (t : Triple) → sum_at i j (ts ++ t ∷ []) ≡ sum_at i j ts + sum_at i j (t ∷ [])
sum_pushed i j [] t = none_add (sum_at i j (t ∷ []))
  where
    none_add : (x : ℕ) → x ≡ 0 + x
    none_add x = omega arith
sum_pushed i j (u ∷ ts) t = omega (arith, sum_pushed i j ts t)

sum_here : (i j v : ℕ) → i ≡ j → sum_at j 0 (record { i = i; j = 0; v = v } ∷ []) ≡ v
sum_here i j v e = ap (λ x. x + 0) (cond-true (eqb i j && eqb 0 0) v 0 (rw (eq-eqb i j e) refl)) ∙ omega arith

sum_elsewhere : (i j v : ℕ) → i ≢ j → sum_at j 0 (record { i = i; j = 0; v = v } ∷ []) ≡ 0
sum_elsewhere i j v d = ap (λ x. x + 0) (cond-false (eqb i j && eqb 0 0) v 0 (rw (ne_eqb i j d) refl))

-- the values pushed so far into one column
pub sums_more : (k : ℕ) (cs vs : List ℕ) (ts : List Triple) → length cs ≡ length vs → ((s t : ℕ) → s < t → t < length cs → slice_index cs s < slice_index cs t) → k < length cs →
    ((j : ℕ) → sum_at j 0 ts ≡ entry_at (take k cs) (take k vs) j) →
    (j : ℕ) → sum_at j 0 (ts ++ record { i = slice_index cs k; j = 0; v = slice_index vs k } ∷ []) ≡ entry_at (take (k + 1) cs) (take (k + 1) vs) j
sums_more k cs vs ts long rising l so_far j =
    let c : ℕ = slice_index cs k in
    let v : ℕ = slice_index vs k in
    let columns : take (k + 1) cs ≡ take k cs ++ c ∷ [] = take_more cs k 0 l in
    let values : take (k + 1) vs ≡ take k vs ++ v ∷ [] = take_more vs k 0 (omega arith) in
    let same : length (take k cs) ≡ length (take k vs) = length-take-le k cs (omega arith) ∙ sym (length-take-le k vs (omega arith)) in
    let earlier : (t : ℕ) → t < length (take k cs) → slice_index (take k cs) t < c = λ t b.
    let low : t < k = omega (arith, length-take-le k cs (omega arith)) in
    omega (arith, get_or-take k cs t 0 low, rising t k low l) in
    sum_pushed j 0 ts (record { i = c; j = 0; v = v }) ∙ elim (cases_eq c j) [
      | inl e ↦
          let none : entry_at (take k cs) (take k vs) j ≡ 0 = entry_beyond (take k cs) (take k vs) c j earlier (omega arith) in
          ap₂ (λ x y. x + y) (so_far j ∙ none) (sum_here c j v e) ∙ none_add v
          ∙ sym (ap (entry_at (take (k + 1) cs) (take (k + 1) vs)) (sym e) ∙ ap₂ (λ a b. entry_at a b c) columns values ∙ entry_push_same (take k cs) (take k vs) c v same earlier)
      | inr d ↦
          ap₂ (λ x y. x + y) (so_far j) (sum_elsewhere c j v d) ∙ add_none (entry_at (take k cs) (take k vs) j)
          ∙ sym (ap₂ (λ a b. entry_at a b j) columns values ∙ entry_push_other (take k cs) (take k vs) c v j same d)
    ]
  where
    add_none : (x : ℕ) → x + 0 ≡ x
    add_none x = omega arith

    none_add : (x : ℕ) → 0 + x ≡ x
    none_add x = omega arith

-- what is built of these triples, by equal sizes
pub built_same : (p q h w n : ℕ) (ts : List Triple) (M : Matrix) → q ≡ p → h ≡ n → w ≡ 1 → M ≡ built q h w ts → M ≡ built p n 1 ts
built_same p q h w n ts M a b c d = d ∙ ap (λ x. built x h w ts) a ∙ ap (λ x. built p x w ts) b ∙ ap (λ x. built p n x ts) c

-- it is a column of residues
pub built_matrix : (p n : ℕ) (ts : List Triple) → 0 < p → IsMatrix p (built p n 1 ts)
built_matrix p n ts pos = is_matrix_of p n 1 (λ i j. sum_at i j ts % p) (λ i j a b. mod-lt _ pos)

-- a row by its columns and values is a row of residues
pub row_vector : {p n : ℕ} {cs vs : List ℕ} (v : List ℕ) → 0 < p → length v ≡ n → cs ≡ support v → vs ≡ nonzeros v → IsSparse p n cs vs → IsVector p n v
row_vector {p} {n} {cs} {vs} v pos long columns values sparse = subst (IsVector p n) (ap₂ (spread n) columns values ∙ spread_support n v long) (spread_vector pos sparse)

-- the entry at a stored column of a row
pub entry_found : (v cs vs : List ℕ) (j k : ℕ) → cs ≡ support v → vs ≡ nonzeros v → length cs ≡ length vs → ((s t : ℕ) → s < t → t < length cs → slice_index cs s < slice_index cs t) →
    k < length cs → slice_index cs k ≡ j → slice_index vs k ≡ slice_index v j
entry_found v cs vs j k columns values long rising l e =
    sym (entry_here cs vs long rising k l) ∙ ap (entry_at cs vs) e ∙ ap₂ (λ a b. entry_at a b j) columns values ∙ entry_support v j

-- the entry at a column that is not stored
pub entry_absent : (v : List ℕ) (j : ℕ) → ((k : ℕ) → k < length (support v) → slice_index (support v) k ≢ j) → 0 ≡ slice_index v j
entry_absent v j none = elim (entry_cover (support v) (nonzeros v) j) [
  | inl z ↦ sym z ∙ entry_support v j
  | inr w ↦ absurd (none w.0 w.1 w.2)
]

-- the column of n entries that is built of what was pushed at the leads
module _ (p n : ℕ) (leads side : List ℕ) (ts : List Triple) (pos : 0 < p) (vector : IsVector p (length side) side) (few : length leads ≤ length side) (below : AreBelow (length leads) (support side))
    (rising : (s t : ℕ) → s < t → t < length leads → slice_index leads s < slice_index leads t) (inside : (k : ℕ) → k < length leads → slice_index leads k < n)
    (pushed : (j : ℕ) → sum_at j 0 ts ≡ entry_at (map (slice_index leads) (support side)) (nonzeros side) j) where
  at_built : (j : ℕ) → j < n → slice_index (column (built p n 1 ts)) j ≡ sum_at j 0 ts % p
  at_built j l = at_list_of n (λ i. entry (built p n 1 ts) i 0) j l ∙ entry_matrix_of n 1 (λ i j. sum_at i j ts % p) j 0 l (omega arith)

  pub built_at_leads : IsAtLeads leads side (column (built p n 1 ts))
  built_at_leads =
      record {
        at_lead = λ k l.
            at_built (slice_index leads k) (inside k l)
            ∙ ap (λ x. x % p) (pushed (slice_index leads k) ∙ at_lead leads (support side) rising below (nonzeros side) k l ∙ entry_support side k)
            ∙ mod-eq_of_lt (vector.residues k (omega (arith, few)));
        elsewhere = λ j l none.
            at_built j (omega (arith, length_list_of n (λ i. entry (built p n 1 ts) i 0)))
            ∙ ap (λ x. x % p) (pushed j ∙ no_lead leads (support side) rising below (nonzeros side) j none) ∙ zero-mod p;
      }

-- a row by its stored columns and values
module _ (v cs vs : List ℕ) (columns : cs ≡ support v) (values : vs ≡ nonzeros v) (long : length cs ≡ length vs) (rising : AreRising cs) (positive : (k : ℕ) → k < length vs → 0 < slice_index vs k) where
  stored : (k : ℕ) → k < length cs → slice_index vs k ≡ slice_index v (slice_index cs k)
  stored k l = entry_found v cs vs (slice_index cs k) k columns values long rising l refl

  -- where it is 0 from n on, its columns are below n
  pub stored_below : (n : ℕ) → AreBelow (length v) cs → AreZeroBehind v n → AreBelow n cs
  stored_below n inside none k l = elim (cases_lt (slice_index cs k) n) [
    | inl low ↦ low
    | inr high ↦ absurd (omega (arith, positive k (omega (arith, long)), stored k l, none (slice_index cs k) high (inside k l)))
  ]

  -- behind its last column it is 0
  pub stored_last : (t : ℕ) → ((k : ℕ) → k < length cs → slice_index cs k < t) → slice_index v t ≡ 0
  stored_last t before = sym (entry_absent v t (λ k l e. let low : slice_index cs k < t = before k (omega (arith, ap length columns)) in omega (arith, low, ap (λ xs. slice_index xs k) columns, e)))

  -- it ends at its last column
  pub last_stored : AreBelow (length v) cs → 0 < length cs → EndsAt (length v) v (slice_index cs (length cs - 1))
  last_stored inside some =
      let k : ℕ = length cs - 1 in
      let l : k < length cs = omega (arith, some) in
      record {
        inside = inside k l;
        nonzero = λ z. omega (arith, positive k (omega (arith, long, l)), stored k l, z);
        last = λ t a b. stored_last t (λ s ls. elim (cases_eq s k) [
          | inl e ↦ omega (arith, a, ap (slice_index cs) e)
          | inr d ↦ omega (arith, a, rising s k (omega (arith, ls, d)) l)
        ]);
      }
