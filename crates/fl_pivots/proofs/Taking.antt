-- The pairs of the columns that are passed, and the next pair.
use Rattle.std.proofs.Common.{ℕ, zero, suc, ◌≡◌, ◌+◌, ◌<◌, ◌≤◌, List, [], ◌∷◌, ◌++◌, map, length, slice_index, get_or, inl, inr, ⊎_elim, sym, refl, ap, subst, ◌∙◌, arith}
use Rattle.std.specs.List.{Contains}
use Rattle.std.proofs.lemmas.Bool.{cases_lt}
use Rattle.std.proofs.lemmas.List.{get_or_append_left, get_or_default, get_or_push, length-map, length_push, map_push}
use Rattle.std.proofs.lemmas.List.Elements.{Contains-append_left, Contains-get_or, Contains-push, Contains-push_cases}
use Rattle.residue_words.specs.Matrix.{Matrix}
use Rattle.residue_words.specs.declared.plain.Pair.{Pair}
use Rattle.residue_words.proofs.Lists.{not_in_nil}
use Rattle.row_space.specs.Factors.{col_at}
use Rattle.pivot_table.specs.History.{HasCol, Alive, row_weight}
use Rattle.fl_pivots.specs.declared.beginning.Beginning.{Beginning}
use Rattle.fl_pivots.specs.Beginnings.{AreBeginnings, AreSorted, IsNoLater}
use Rattle.pivot_table.specs.Leftmost.{BeginsAt, IsSparsest, IsLeftmost}
use Rattle.fl_pivots.proofs.Listing.{begins_one}

-- the pairs of the columns below c
pub record IsTaking (A : Matrix) (qs : List Pair) (c : ℕ) : Type 0 where
  pub ascending : (k t : ℕ) → k < t → t < length qs → col_at qs k < col_at qs t
  pub below : (q : Pair) → Contains qs q → q.col < c
  pub each : (q : Pair) → Contains qs q → IsSparsest A q.row q.col
  pub every : (r d : ℕ) → BeginsAt A r d → d < c → HasCol qs d

pub taking_none : (A : Matrix) → IsTaking A [] 0
taking_none A = record {
  ascending = λ k t l lt. absurd (let x : t < length {A = Pair} [] = lt in omega arith);
  below = λ q m. absurd (not_in_nil q m);
  each = λ q m. absurd (not_in_nil q m);
  every = λ r d b l. absurd (omega arith);
}

-- columns at which no row begins are passed
pub taking_passes : {A : Matrix} {qs : List Pair} {c : ℕ} → IsTaking A qs c → (d : ℕ) → c ≤ d → ((r e : ℕ) → BeginsAt A r e → e < d → e < c) → IsTaking A qs d
taking_passes {A} {qs} {c} t d le none = record {
  ascending = t.ascending;
  below = λ q m. omega (arith, t.below q m);
  each = t.each;
  every = λ r e b l. t.every r e b (none r e b l);
}

col_below : (qs : List Pair) (c k : ℕ) → ((q : Pair) → Contains qs q → q.col < c) → k < length qs → col_at qs k < c
col_below [] c k below l = absurd (omega arith)
col_below (q ∷ qs) c zero below l = below q (0, omega arith, refl)
col_below (q ∷ qs) c (suc k) below l = col_below qs c k (λ x m. below x (suc m.0, omega (arith, m.1), m.2)) (omega arith)

-- the pair of column c is taken
pub taking_comes : {A : Matrix} {qs : List Pair} {c : ℕ} → IsTaking A qs c → (q : Pair) → q.col ≡ c → IsSparsest A q.row q.col → IsTaking A (qs ++ q ∷ []) (c + 1)
taking_comes {A} {qs} {c} t q e s = record {
  ascending = λ k i l li.
      let len = length_push qs q in
      let lk : k < length qs = omega arith in
      elim (cases_lt i (length qs)) [
        | inl less ↦ omega (arith, t.ascending k i l less, old k lk, old i less)
        | inr ge ↦
            let new : col_at (qs ++ q ∷ []) i ≡ q.col =
            ap (λ xs. slice_index xs i) (map_push (λ (x : Pair). x.col) qs q) ∙ get_or_push (map (λ (x : Pair). x.col) qs) q.col 0 i (omega (arith, length-map qs (λ (x : Pair). x.col))) in
            omega (arith, col_below qs c k t.below lk, old k lk)
      ];
  below = λ x m. ⊎_elim (λ o. omega (arith, t.below x o)) (λ n. omega (arith, ap (λ (y : Pair). y.col) n)) (Contains-push_cases qs q x m);
  each = λ x m. ⊎_elim (t.each x) (λ n. subst (λ (y : Pair). IsSparsest A y.row y.col) n s) (Contains-push_cases qs q x m);
  every = λ r d b l. elim (cases_lt d c) [
    | inl less ↦ (let h = t.every r d b less in (h.0, Contains-append_left qs (q ∷ []) h.0 h.1, h.2))
    | inr ge ↦ (q, Contains-push qs q, omega arith)
  ];
}
  where
    old : (k : ℕ) → k < length qs → col_at (qs ++ q ∷ []) k ≡ col_at qs k
    old k l = ap (λ xs. slice_index xs k) (map_push (λ (x : Pair). x.col) qs q)
        ∙ get_or_append_left (map (λ (x : Pair). x.col) qs) (q.col ∷ []) 0 k (omega (arith, length-map qs (λ (x : Pair). x.col)))

-- a row that begins at column c reaches none of the columns before, so its entry there is alive
pub taking_alive : {A : Matrix} {qs : List Pair} {c r : ℕ} → IsTaking A qs c → BeginsAt A r c → Alive A qs r c
taking_alive {A} {qs} {c} {r} t b = record {
  entry = b.0;
  fresh_row = λ h.
      let s = subst (λ x. BeginsAt A x h.0.col) h.2 (t.each h.0 h.1).begins in
      let same = begins_one A r h.0.col c s b in
      absurd (omega (arith, t.below h.0 h.1));
  fresh_col = λ h. absurd (omega (arith, t.below h.0 h.1, h.2));
  unreached = λ x. absurd (x.3.2 (b.1 x.0 (omega (arith, t.below x.2.0 x.2.1, x.2.2))));
}

pub taking_ends : {A : Matrix} {qs : List Pair} {c : ℕ} → IsTaking A qs c → ((r d : ℕ) → BeginsAt A r d → d < c) → IsLeftmost A qs
taking_ends {A} {qs} {c} t all = record { ascending = t.ascending; sparsest = t.each; every = λ r d b. t.every r d b (all r d b) }

-- the sorted list, of which the first k columns are below c
module _ {A : Matrix} {list : List Beginning} (are : AreBeginnings A A.height list) (sorted : AreSorted list)
    {c k : ℕ} (passed : (t : ℕ) (d : Beginning) → t < k → (get_or list t d).column < c) where
  -- where a row stands in the list that begins at a column
  place : (r e : ℕ) → BeginsAt A r e → (t : ℕ) × (b : Beginning) × (t < length list) × (get_or list t b ≡ b) × (b.row ≡ r) × (b.column ≡ e) × (b.weight ≡ row_weight A r)
  place r e at =
      let t = are.every r e at.0.0 at in
      let is = are.each t.0 t.1 in
      let begins : BeginsAt A r t.0.column = subst (λ s. BeginsAt A s t.0.column) t.2 is.begins in
      (t.1.0, t.0, t.1.1, t.1.2, t.2, begins_one A r t.0.column e begins at, is.weight ∙ ap (row_weight A) t.2)

  pub passed_all : length list ≤ k → (r e : ℕ) → BeginsAt A r e → e < c
  passed_all le r e at = let t = place r e at in omega (arith, passed t.0 t.1 (omega (arith, t.2)), ap (λ (b : Beginning). b.column) t.3, t.5)

  module _ (none : Beginning) (l : k < length list) (fresh : c ≤ (get_or list k none).column) where
    here : Beginning
    here = get_or list k none

    -- of two rows at the column or before, the next one stands first
    pub passed_before : (r e : ℕ) → BeginsAt A r e → e < (get_or list k none).column → e < c
    passed_before r e at less =
        let t = place r e at in
        elim (cases_lt t.0 k) [
          | inl lt ↦ omega (arith, passed t.0 t.1 lt, ap (λ (b : Beginning). b.column) t.3, t.5)
          | inr ge ↦ absurd (omega (arith, (sorted k t.0 none ge t.2).column, ap (λ (b : Beginning). b.column) (get_or_default list t.0 none t.1 t.2 ∙ t.3), t.5))
        ]

    pub here_begins : BeginsAt A (get_or list k none).row (get_or list k none).column
    here_begins = (are.each (get_or list k none) (Contains-get_or list k none l)).begins

    pub here_sparsest : IsSparsest A (get_or list k none).row (get_or list k none).column
    here_sparsest = record { begins = here_begins; fewest = λ s at. (beats s at).0; lowest = λ s at. (beats s at).1 }
      where
        beats : (s : ℕ) → BeginsAt A s (get_or list k none).column →
            (row_weight A (get_or list k none).row ≤ row_weight A s) × (row_weight A s ≤ row_weight A (get_or list k none).row → (get_or list k none).row ≤ s)
        beats s at =
            let t = place s (get_or list k none).column at in
            let w = (are.each (get_or list k none) (Contains-get_or list k none l)).weight in
            let is : get_or list t.0 none ≡ t.1 = get_or_default list t.0 none t.1 t.2 ∙ t.3 in
            elim (cases_lt t.0 k) [
              | inl lt ↦ absurd (omega (arith, passed t.0 t.1 lt, ap (λ (b : Beginning). b.column) t.3, t.5))
              | inr ge ↦
                  let later = subst (IsNoLater (get_or list k none)) is (sorted k t.0 none ge t.2) in
                  let fewest : (get_or list k none).weight ≤ t.1.weight = later.weight (sym t.5) in (
                    omega (arith, t.6),
                    (λ le. let same : (get_or list k none).weight ≡ t.1.weight = omega (arith, t.6) in omega (arith, later.row (sym t.5) same, t.4)),
                  )
            ]
