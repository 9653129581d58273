-- A row and the ascending columns of its nonzero entries: each gives the other.
use Rattle.std.proofs.Common.{ℕ, zero, suc, ◌≡◌, ◌≢◌, ◌+◌, ◌*◌, ◌<◌, ◌≤◌, ◌⊎◌, inl, inr, List, [], ◌∷◌, ◌++◌, length, map, slice_index, slice_set, cond, eqb, sym, refl, ap, ap₂, subst, ◌∙◌, arith, zero-mul}
use Rattle.std.specs.List.{range_with_len}
use Rattle.std.proofs.lemmas.Bool.{cases_eq, cases_lt, cond-true, cond-false, eq-eqb, ne_eqb}
use Rattle.std.proofs.lemmas.List.{get_or_append_left, get_or_push, get_or-set_other, get_or-set_same, length-set, length_push}
use Rattle.residue_words.specs.Matrix.{IsVector, zeros}
use Rattle.residue_words.specs.Residues.{sum_below}
use Rattle.residue_words.proofs.Sums.{sum_support, sum_equal}
use Rattle.residue_words.proofs.Vectors.{at_list_of, length_list_of, list_equal}
use Rattle.sparse_rows.specs.Rows.{nonzeros, support, support_from}
use Rattle.sparse_rows.specs.Stored.{IsSparse, entry_at, spread}
pub use Rattle.matrix_cells.proofs.Ordered.{map_range_equal}

-- the columns ascend strictly, from k on and below n
abbrev pub Ascends : ℕ → ℕ → List ℕ → Type 0
Ascends k n [] = Unit {0}
Ascends k n (c ∷ cs) = (k ≤ c) × (c < n) × Ascends (c + 1) n cs

-- the values are positive and below p
abbrev pub AreValues : ℕ → List ℕ → Type 0
AreValues p [] = Unit {0}
AreValues p (v ∷ vs) = (0 < v) × (v < p) × AreValues p vs

-- at a stored column stands its value
pub entry_head : (c : ℕ) (cs : List ℕ) (v : ℕ) (vs : List ℕ) → entry_at (c ∷ cs) (v ∷ vs) c ≡ v
entry_head c cs v vs = cond-true (eqb c c) v (entry_at cs vs c) (eq-eqb c c refl)

-- at another column the first does not count
pub entry_tail : (c : ℕ) (cs : List ℕ) (v : ℕ) (vs : List ℕ) (j : ℕ) → c ≢ j → entry_at (c ∷ cs) (v ∷ vs) j ≡ entry_at cs vs j
entry_tail c cs v vs j d = cond-false (eqb c j) v (entry_at cs vs j) (ne_eqb c j d)

-- before the first stored column the row is 0
pub entry_before : (k n : ℕ) (cs vs : List ℕ) (j : ℕ) → j < k → Ascends k n cs → entry_at cs vs j ≡ 0
entry_before k n [] vs j l a = refl
entry_before k n (c ∷ cs) [] j l a = refl
entry_before k n (c ∷ cs) (v ∷ vs) j l a = entry_tail c cs v vs j (omega (arith, a.0)) ∙ entry_before (c + 1) n cs vs j (omega (arith, a.0)) a.2

-- the support of a row that begins at column k, one entry further
support_zero : (k x : ℕ) (xs : List ℕ) → x ≡ 0 → support_from k (x ∷ xs) ≡ support_from (k + 1) xs
support_zero k x xs e = cond-true (eqb x 0) _ _ (eq-eqb x 0 e)

-- a nonzero entry is in the support
support_some : (k x : ℕ) (xs : List ℕ) → 0 < x → support_from k (x ∷ xs) ≡ k ∷ support_from (k + 1) xs
support_some k x xs p = cond-false (eqb x 0) _ _ (ne_eqb x 0 (omega arith))

-- a zero is not among the nonzero entries
nonzeros_zero : (x : ℕ) (xs : List ℕ) → x ≡ 0 → nonzeros (x ∷ xs) ≡ nonzeros xs
nonzeros_zero x xs e = cond-true (eqb x 0) _ _ (eq-eqb x 0 e)

-- a nonzero entry is
nonzeros_some : (x : ℕ) (xs : List ℕ) → 0 < x → nonzeros (x ∷ xs) ≡ x ∷ nonzeros xs
nonzeros_some x xs p = cond-false (eqb x 0) _ _ (ne_eqb x 0 (omega arith))

-- of what a list of columns and values stands for, from column k on, these are the support and the nonzero entries
support_of : (p k m : ℕ) (cs vs : List ℕ) → length cs ≡ length vs → Ascends k (k + m) cs → AreValues p vs →
    (support_from k (map (entry_at cs vs) (range_with_len k m)) ≡ cs) × (nonzeros (map (entry_at cs vs) (range_with_len k m)) ≡ vs)
support_of p k zero [] [] e a b = (refl, refl)
support_of p k zero [] (v ∷ vs) e a b = absurd (omega arith)
support_of p k zero (c ∷ cs) vs e a b = absurd (omega (arith, a.0, a.1))
support_of p k (suc m) [] (v ∷ vs) e a b = absurd (omega arith)
support_of p k (suc m) [] [] e a b = support_of p (k + 1) m [] [] refl tt tt
support_of p k (suc m) (c ∷ cs) [] e a b = absurd (omega arith)
support_of p k (suc m) (c ∷ cs) (v ∷ vs) e a b =
    let f : ℕ → ℕ = entry_at (c ∷ cs) (v ∷ vs) in
    let rest : List ℕ = map f (range_with_len (k + 1) m) in
    elim (cases_eq c k) [
      | inl same ↦
          let head : f k ≡ v = ap f (sym same) ∙ entry_head c cs v vs in
          let tail : rest ≡ map (entry_at cs vs) (range_with_len (k + 1) m) =
          map_range_equal f (entry_at cs vs) (k + 1) m (λ j l b. entry_tail c cs v vs j (omega arith)) in
          let up : Ascends (k + 1) (k + 1 + m) cs = subst (λ t. Ascends t (k + 1 + m) cs) (ap (λ x. x + 1) same) (subst (λ t. Ascends (c + 1) t cs) (let s : k + suc m ≡ k + 1 + m = omega arith in s) a.2) in
          let below = support_of p (k + 1) m cs vs (omega arith) up b.2 in (
            support_some k (f k) rest (omega (arith, b.0)) ∙ ap₂ ◌∷◌ (sym same) (ap (support_from (k + 1)) tail ∙ below.0),
            nonzeros_some (f k) rest (omega (arith, b.0)) ∙ ap₂ ◌∷◌ head (ap nonzeros tail ∙ below.1),
          )
      | inr d ↦
          let later : k < c = omega (arith, a.0) in
          let head : f k ≡ 0 = entry_tail c cs v vs k d ∙ entry_before (c + 1) (k + suc m) cs vs k (omega arith) a.2 in
          let up : Ascends (k + 1) (k + 1 + m) (c ∷ cs) = (omega arith, omega (arith, a.1), subst (λ t. Ascends (c + 1) t cs) (let s : k + suc m ≡ k + 1 + m = omega arith in s) a.2) in
          let below = support_of p (k + 1) m (c ∷ cs) (v ∷ vs) e up b in (
            support_zero k (f k) rest head ∙ below.0,
            nonzeros_zero (f k) rest head ∙ below.1,
          )
    ]

-- strictly ascending columns by their places
ascends : (k n : ℕ) (cs : List ℕ) → ((t : ℕ) → t < length cs → k ≤ slice_index cs t) → ((t : ℕ) → t < length cs → slice_index cs t < n) →
    ((s t : ℕ) → s < t → t < length cs → slice_index cs s < slice_index cs t) → Ascends k n cs
ascends k n [] low high up = tt
ascends k n (c ∷ cs) low high up = (
  low 0 (omega arith),
  high 0 (omega arith),
  ascends (c + 1) n cs (λ t l. omega (arith, up 0 (suc t) (omega arith) (omega arith))) (λ t l. high (suc t) (omega arith)) (λ s t a b. up (suc s) (suc t) (omega arith) (omega arith)),
)

-- the first column bounds all, and the last bound too
ascends_low : (k n : ℕ) (cs : List ℕ) → Ascends k n cs → (t : ℕ) → t < length cs → k ≤ slice_index cs t
ascends_low k n [] a t l = absurd (omega arith)
ascends_low k n (c ∷ cs) a zero l = a.0
ascends_low k n (c ∷ cs) a (suc t) l = omega (arith, ascends_low (c + 1) n cs a.2 t (omega arith), a.0)

-- each column is below the last bound
ascends_below : (k n : ℕ) (cs : List ℕ) → Ascends k n cs → (t : ℕ) → t < length cs → slice_index cs t < n
ascends_below k n [] a t l = absurd (omega arith)
ascends_below k n (c ∷ cs) a zero l = a.1
ascends_below k n (c ∷ cs) a (suc t) l = ascends_below (c + 1) n cs a.2 t (omega arith)

-- each column is below the later ones
ascends_rising : (k n : ℕ) (cs : List ℕ) → Ascends k n cs → (s t : ℕ) → s < t → t < length cs → slice_index cs s < slice_index cs t
ascends_rising k n [] a s t l b = absurd (omega arith)
ascends_rising k n (c ∷ cs) a zero zero l b = absurd (omega arith)
ascends_rising k n (c ∷ cs) a zero (suc t) l b = omega (arith, ascends_low (c + 1) n cs a.2 t (omega arith))
ascends_rising k n (c ∷ cs) a (suc s) zero l b = absurd (omega arith)
ascends_rising k n (c ∷ cs) a (suc s) (suc t) l b = ascends_rising (c + 1) n cs a.2 s t (omega arith) (omega arith)

-- values by their places
values : (p : ℕ) (vs : List ℕ) → ((t : ℕ) → t < length vs → 0 < slice_index vs t) → ((t : ℕ) → t < length vs → slice_index vs t < p) → AreValues p vs
values p [] low high = tt
values p (v ∷ vs) low high = (low 0 (omega arith), high 0 (omega arith), values p vs (λ t l. low (suc t) (omega arith)) (λ t l. high (suc t) (omega arith)))

-- each value is positive
values_positive : (p : ℕ) (vs : List ℕ) → AreValues p vs → (t : ℕ) → t < length vs → 0 < slice_index vs t
values_positive p [] a t l = absurd (omega arith)
values_positive p (v ∷ vs) a zero l = a.0
values_positive p (v ∷ vs) a (suc t) l = values_positive p vs a.2 t (omega arith)

-- each value is below p
values_residues : (p : ℕ) (vs : List ℕ) → AreValues p vs → (t : ℕ) → t < length vs → slice_index vs t < p
values_residues p [] a t l = absurd (omega arith)
values_residues p (v ∷ vs) a zero l = a.1
values_residues p (v ∷ vs) a (suc t) l = values_residues p vs a.2 t (omega arith)

-- columns and values of a row, both ways
sparse : (p n : ℕ) (cs vs : List ℕ) → length cs ≡ length vs → Ascends 0 n cs → AreValues p vs → IsSparse p n cs vs
sparse p n cs vs e a b = record {
  long = e;
  rising = ascends_rising 0 n cs a;
  below = ascends_below 0 n cs a;
  positive = values_positive p vs b;
  residues = values_residues p vs b;
}

-- the columns of a row ascend
pub columns_ascend : {p n : ℕ} {cs vs : List ℕ} → IsSparse p n cs vs → Ascends 0 n cs
columns_ascend {p} {n} {cs} {vs} s = ascends 0 n cs (λ t l. omega arith) s.below s.rising

-- the values of a row are positive residues
values_within : {p n : ℕ} {cs vs : List ℕ} → IsSparse p n cs vs → AreValues p vs
values_within {p} {n} {cs} {vs} s = values p vs s.positive s.residues

-- the row has n entries, at j the stored value
pub length_spread : (n : ℕ) (cs vs : List ℕ) → length (spread n cs vs) ≡ n
unfolding spread
length_spread n cs vs = length_list_of n (entry_at cs vs)

-- the entry at j is the stored one
pub at_spread : (n : ℕ) (cs vs : List ℕ) (j : ℕ) → j < n → slice_index (spread n cs vs) j ≡ entry_at cs vs j
unfolding spread
at_spread n cs vs j l = at_list_of n (entry_at cs vs) j l

-- the stored columns are the support of the row, the stored values its nonzero entries
pub support_spread : {p n : ℕ} {cs vs : List ℕ} → IsSparse p n cs vs → support (spread n cs vs) ≡ cs
unfolding spread
support_spread {p} {n} {cs} {vs} s = (support_of p 0 n cs vs s.long (subst (λ t. Ascends 0 t cs) (let e : n ≡ 0 + n = omega arith in e) (columns_ascend s)) (values_within s)).0

-- and its nonzero entries the stored values
pub nonzeros_spread : {p n : ℕ} {cs vs : List ℕ} → IsSparse p n cs vs → nonzeros (spread n cs vs) ≡ vs
unfolding spread
nonzeros_spread {p} {n} {cs} {vs} s = (support_of p 0 n cs vs s.long (subst (λ t. Ascends 0 t cs) (let e : n ≡ 0 + n = omega arith in e) (columns_ascend s)) (values_within s)).1

-- a stored entry is a residue
entry_small : (p : ℕ) (cs vs : List ℕ) (j : ℕ) → 0 < p → AreValues p vs → entry_at cs vs j < p
entry_small p [] vs j pos b = pos
entry_small p (c ∷ cs) [] j pos b = pos
entry_small p (c ∷ cs) (v ∷ vs) j pos b =
    elim (cases_eq c j) [
      | inl e ↦ omega (arith, ap (entry_at (c ∷ cs) (v ∷ vs)) (sym e), entry_head c cs v vs, b.1)
      | inr d ↦ omega (arith, entry_tail c cs v vs j d, entry_small p cs vs j pos b.2)
    ]

-- so the row is a vector of residues
pub spread_vector : {p n : ℕ} {cs vs : List ℕ} → 0 < p → IsSparse p n cs vs → IsVector p n (spread n cs vs)
spread_vector {p} {n} {cs} {vs} pos s = record {
  len = length_spread n cs vs;
  residues = λ j l. omega (arith, at_spread n cs vs j l, entry_small p cs vs j pos (values_within s));
}

-- columns below n are below what is not less
pub widen : {p n : ℕ} {cs vs : List ℕ} → IsSparse p n cs vs → (m : ℕ) → n ≤ m → IsSparse p m cs vs
widen s m l = record { long = s.long; rising = s.rising; below = λ k h. omega (arith, s.below k h); positive = s.positive; residues = s.residues }

-- no columns and no values
pub sparse_none : (p n : ℕ) → IsSparse p n [] []
sparse_none p n = sparse p n [] [] refl tt tt

-- at the column in place k stands the value in place k
pub entry_here : (cs vs : List ℕ) → length cs ≡ length vs → ((s t : ℕ) → s < t → t < length cs → slice_index cs s < slice_index cs t) → (k : ℕ) → k < length cs →
    entry_at cs vs (slice_index cs k) ≡ slice_index vs k
entry_here [] vs e up k l = absurd (omega arith)
entry_here (c ∷ cs) [] e up k l = absurd (omega arith)
entry_here (c ∷ cs) (v ∷ vs) e up zero l = entry_head c cs v vs
entry_here (c ∷ cs) (v ∷ vs) e up (suc k) l =
    let far : c < slice_index cs k = up 0 (suc k) (omega arith) (omega arith) in
    entry_tail c cs v vs (slice_index cs k) (omega arith)
    ∙ entry_here cs vs (omega arith) (λ s t a b. up (suc s) (suc t) (omega arith) (omega arith)) k (omega arith)

-- an entry is 0 or stands at a stored column
pub entry_cover : (cs vs : List ℕ) (j : ℕ) → (entry_at cs vs j ≡ 0) ⊎ ((k : ℕ) × (k < length cs) × (slice_index cs k ≡ j))
entry_cover [] vs j = inl refl
entry_cover (c ∷ cs) [] j = inl refl
entry_cover (c ∷ cs) (v ∷ vs) j =
    elim (cases_eq c j) [
      | inl e ↦ inr (0, omega arith, e)
      | inr d ↦ elim (entry_cover cs vs j) [
        | inl z ↦ inl (entry_tail c cs v vs j d ∙ z)
        | inr w ↦ inr (suc w.0, omega (arith, w.1), w.2)
      ]
    ]

-- at and behind what bounds the stored columns the row is 0
pub entry_beyond : (cs vs : List ℕ) (b j : ℕ) → ((k : ℕ) → k < length cs → slice_index cs k < b) → b ≤ j → entry_at cs vs j ≡ 0
entry_beyond cs vs b j below l = elim (entry_cover cs vs j) [ inl z ↦ z | inr w ↦ absurd (omega (arith, below w.0 w.1, w.2)) ]

-- where a row is 0 from j on, its stored columns are below j
pub narrow : {p n : ℕ} {cs vs : List ℕ} → IsSparse p n cs vs → (j : ℕ) → ((k : ℕ) → j ≤ k → k < n → slice_index (spread n cs vs) k ≡ 0) → IsSparse p j cs vs
narrow {p} {n} {cs} {vs} s j zero_from = record {
  long = s.long;
  rising = s.rising;
  below = λ k l. elim (cases_lt (slice_index cs k) j) [
    | inl b ↦ b
    | inr b ↦
        let c : ℕ = slice_index cs k in
        let z : slice_index (spread n cs vs) c ≡ 0 = zero_from c b (s.below k l) in
        let a : slice_index (spread n cs vs) c ≡ slice_index vs k = at_spread n cs vs c (s.below k l) ∙ entry_here cs vs s.long s.rising k l in
        absurd (omega (arith, s.positive k (omega (arith, s.long))))
  ];
  positive = s.positive;
  residues = s.residues;
}

-- one entry more, behind the others
pub sparse_push : {p j : ℕ} {cs vs : List ℕ} → IsSparse p j cs vs → (v : ℕ) → 0 < v → v < p → IsSparse p (j + 1) (cs ++ j ∷ []) (vs ++ v ∷ [])
sparse_push {p} {j} {cs} {vs} s v low high =
    let more : length (cs ++ j ∷ []) ≡ length cs + 1 = length_push cs j in
    let more_values : length (vs ++ v ∷ []) ≡ length vs + 1 = length_push vs v in
    let old : (k : ℕ) → k < length cs → slice_index (cs ++ j ∷ []) k ≡ slice_index cs k = λ k l. get_or_append_left cs (j ∷ []) 0 k l in
    let new : slice_index (cs ++ j ∷ []) (length cs) ≡ j = get_or_push cs j 0 (length cs) refl in
    let old_value : (k : ℕ) → k < length vs → slice_index (vs ++ v ∷ []) k ≡ slice_index vs k = λ k l. get_or_append_left vs (v ∷ []) 0 k l in
    let new_value : slice_index (vs ++ v ∷ []) (length vs) ≡ v = get_or_push vs v 0 (length vs) refl in
    let at_end : (k : ℕ) → k < length (cs ++ j ∷ []) → (k < length cs) ⊎ (k ≡ length cs) = λ k l.
    elim (cases_eq k (length cs)) [ inl e ↦ inr e | inr d ↦ inl (omega arith) ] in
    let at_value_end : (k : ℕ) → k < length (vs ++ v ∷ []) → (k < length vs) ⊎ (k ≡ length vs) = λ k l.
    elim (cases_eq k (length vs)) [ inl e ↦ inr e | inr d ↦ inl (omega arith) ] in
    record {
      long = omega (arith, s.long);
      rising = λ k t a b. elim (at_end t b) [
        | inl l ↦ omega (arith, old k (omega arith), old t l, s.rising k t a l)
        | inr e ↦ omega (arith, old k (omega arith), ap (slice_index (cs ++ j ∷ [])) e, new, s.below k (omega arith))
      ];
      below = λ k b. elim (at_end k b) [
        | inl l ↦ omega (arith, old k l, s.below k l)
        | inr e ↦ omega (arith, ap (slice_index (cs ++ j ∷ [])) e, new)
      ];
      positive = λ k b. elim (at_value_end k b) [
        | inl l ↦ omega (arith, old_value k l, s.positive k l)
        | inr e ↦ omega (arith, ap (slice_index (vs ++ v ∷ [])) e, new_value)
      ];
      residues = λ k b. elim (at_value_end k b) [
        | inl l ↦ omega (arith, old_value k l, s.residues k l)
        | inr e ↦ omega (arith, ap (slice_index (vs ++ v ∷ [])) e, new_value)
      ];
    }

-- the entries with one more behind the others
pub entry_push_other : (cs vs : List ℕ) (j v i : ℕ) → length cs ≡ length vs → j ≢ i → entry_at (cs ++ j ∷ []) (vs ++ v ∷ []) i ≡ entry_at cs vs i
entry_push_other [] [] j v i e d = entry_tail j [] v [] i d
entry_push_other [] (w ∷ vs) j v i e d = absurd (omega arith)
entry_push_other (c ∷ cs) [] j v i e d = absurd (omega arith)
entry_push_other (c ∷ cs) (w ∷ vs) j v i e d =
    ap (cond (eqb c i) w) (entry_push_other cs vs j v i (omega arith) d)

-- at the new column stands the new value
pub entry_push_same : (cs vs : List ℕ) (j v : ℕ) → length cs ≡ length vs → ((k : ℕ) → k < length cs → slice_index cs k < j) → entry_at (cs ++ j ∷ []) (vs ++ v ∷ []) j ≡ v
entry_push_same [] [] j v e below = entry_head j [] v []
entry_push_same [] (w ∷ vs) j v e below = absurd (omega arith)
entry_push_same (c ∷ cs) [] j v e below = absurd (omega arith)
entry_push_same (c ∷ cs) (w ∷ vs) j v e below =
    let less : c < j = below 0 (omega arith) in
    entry_tail c (cs ++ j ∷ []) w (vs ++ v ∷ []) j (omega arith) ∙ entry_push_same cs vs j v (omega arith) (λ k l. below (suc k) (omega arith))

-- the row with one entry more behind the others
pub spread_push : {p j : ℕ} {cs vs : List ℕ} → IsSparse p j cs vs → (n v : ℕ) → j < n → spread n (cs ++ j ∷ []) (vs ++ v ∷ []) ≡ slice_set (spread n cs vs) j v
spread_push {p} {j} {cs} {vs} s n v l =
    let u : List ℕ = spread n cs vs in
    list_equal n _ _ (length_spread n _ _) (length-set u j v ∙ length_spread n cs vs) (λ i h.
    at_spread n _ _ i h ∙ elim (cases_eq j i) [
      | inl e ↦ ap (entry_at (cs ++ j ∷ []) (vs ++ v ∷ [])) (sym e) ∙ entry_push_same cs vs j v s.long s.below
          ∙ sym (ap (slice_index (slice_set u j v)) (sym e) ∙ get_or-set_same u j v 0 (omega (arith, length_spread n cs vs)))
      | inr d ↦ entry_push_other cs vs j v i s.long d ∙ sym (at_spread n cs vs i h) ∙ sym (get_or-set_other u j i v 0 (λ q. d (sym q)))
    ])

-- no columns stand for the zero row
pub spread_none : (n : ℕ) (vs : List ℕ) → spread n [] vs ≡ zeros n
unfolding spread
spread_none n vs = refl

-- the support of a plain row that begins at column k ascends
support_ascends : (k : ℕ) (v : List ℕ) → Ascends k (k + length v) (support_from k v)
support_ascends k [] = tt
support_ascends k (x ∷ xs) =
    let rest : Ascends (k + 1) (k + suc (length xs)) (support_from (k + 1) xs) =
    subst (λ n. Ascends (k + 1) n (support_from (k + 1) xs)) (let e : k + 1 + length xs ≡ k + suc (length xs) = omega arith in e) (support_ascends (k + 1) xs) in
    elim (cases_eq x 0) [
      | inl e ↦ rw (support_zero k x xs e) (lower k (k + suc (length xs)) (support_from (k + 1) xs) rest)
      | inr d ↦ rw (support_some k x xs (omega arith)) (omega arith, omega arith, rest)
    ]
  where
    lower : (k n : ℕ) (cs : List ℕ) → Ascends (k + 1) n cs → Ascends k n cs
    lower k n [] a = tt
    lower k n (c ∷ cs) a = (omega (arith, a.0), a.1, a.2)

-- as many nonzero entries as columns of them
support_long : (k : ℕ) (v : List ℕ) → length (support_from k v) ≡ length (nonzeros v)
support_long k [] = refl
support_long k (x ∷ xs) =
    elim (cases_eq x 0) [
      | inl e ↦ ap length (support_zero k x xs e) ∙ support_long (k + 1) xs ∙ sym (ap length (nonzeros_zero x xs e))
      | inr d ↦
          let p : 0 < x = omega arith in
          ap length (support_some k x xs p) ∙ ap suc (support_long (k + 1) xs) ∙ sym (ap length (nonzeros_some x xs p))
    ]

-- they are positive residues
nonzeros_values : (p : ℕ) (v : List ℕ) → ((j : ℕ) → j < length v → slice_index v j < p) → AreValues p (nonzeros v)
nonzeros_values p [] h = tt
nonzeros_values p (x ∷ xs) h =
    let rest : AreValues p (nonzeros xs) = nonzeros_values p xs (λ j l. h (suc j) (omega arith)) in
    elim (cases_eq x 0) [
      | inl e ↦ rw (nonzeros_zero x xs e) rest
      | inr d ↦ rw (nonzeros_some x xs (omega arith)) (omega arith, h 0 (omega arith), rest)
    ]

-- the entries of a row behind its first entry, by its support
entry_rest : (k : ℕ) (xs : List ℕ) → ((i : ℕ) → entry_at (support_from (k + 1) xs) (nonzeros xs) (k + 1 + i) ≡ slice_index xs i) →
    (i : ℕ) → entry_at (support_from (k + 1) xs) (nonzeros xs) (k + suc i) ≡ slice_index xs i
entry_rest k xs h i = ap (entry_at (support_from (k + 1) xs) (nonzeros xs)) (let e : k + suc i ≡ k + 1 + i = omega arith in e) ∙ h i

-- the entries of a row that begins with 0
entry_zero : (k x : ℕ) (xs : List ℕ) → ((i : ℕ) → entry_at (support_from (k + 1) xs) (nonzeros xs) (k + 1 + i) ≡ slice_index xs i) → x ≡ 0 →
    (j : ℕ) → entry_at (support_from (k + 1) xs) (nonzeros xs) (k + j) ≡ slice_index (x ∷ xs) j
entry_zero k x xs h e zero = entry_before (k + 1) (k + 1 + length xs) (support_from (k + 1) xs) (nonzeros xs) (k + zero) (omega arith) (support_ascends (k + 1) xs) ∙ sym e
entry_zero k x xs h e (suc i) = entry_rest k xs h i

-- the entries of a row that begins with another value
entry_some : (k x : ℕ) (xs : List ℕ) → ((i : ℕ) → entry_at (support_from (k + 1) xs) (nonzeros xs) (k + 1 + i) ≡ slice_index xs i) →
    (j : ℕ) → entry_at (k ∷ support_from (k + 1) xs) (x ∷ nonzeros xs) (k + j) ≡ slice_index (x ∷ xs) j
entry_some k x xs h zero =
    ap (entry_at (k ∷ support_from (k + 1) xs) (x ∷ nonzeros xs)) (let e : k + zero ≡ k = omega arith in e) ∙ entry_head k (support_from (k + 1) xs) x (nonzeros xs)
entry_some k x xs h (suc i) = entry_tail k (support_from (k + 1) xs) x (nonzeros xs) (k + suc i) (λ e. omega arith) ∙ entry_rest k xs h i

-- the entries of a plain row by its support
entry_from : (k : ℕ) (v : List ℕ) (j : ℕ) → entry_at (support_from k v) (nonzeros v) (k + j) ≡ slice_index v j
entry_from k [] j = refl
entry_from k (x ∷ xs) j =
    elim (cases_eq x 0) [
      | inl e ↦ ap₂ (λ cs vs. entry_at cs vs (k + j)) (support_zero k x xs e) (nonzeros_zero x xs e) ∙ entry_zero k x xs (entry_from (k + 1) xs) e j
      | inr d ↦ ap₂ (λ cs vs. entry_at cs vs (k + j)) (support_some k x xs (omega arith)) (nonzeros_some x xs (omega arith)) ∙ entry_some k x xs (entry_from (k + 1) xs) j
    ]

-- the same from column 0 on
pub entry_support : (v : List ℕ) (j : ℕ) → entry_at (support v) (nonzeros v) j ≡ slice_index v j
entry_support v j = ap (entry_at (support v) (nonzeros v)) (let e : j ≡ 0 + j = omega arith in e) ∙ entry_from 0 v j

-- the support and the nonzero entries of a plain row are its columns and values
pub support_sparse : {p n : ℕ} {v : List ℕ} → IsVector p n v → IsSparse p n (support v) (nonzeros v)
support_sparse {p} {n} {v} h =
    sparse p n (support v) (nonzeros v) (support_long 0 v)
    (subst (λ t. Ascends 0 t (support v)) (omega (arith, h.len)) (support_ascends 0 v))
    (nonzeros_values p v (λ j l. h.residues j (omega (arith, h.len))))

-- a plain row is what its support and nonzero entries stand for
pub spread_support : (n : ℕ) (v : List ℕ) → length v ≡ n → spread n (support v) (nonzeros v) ≡ v
spread_support n v e = list_equal n _ v (length_spread n _ _) e (λ j l. at_spread n _ _ j l ∙ entry_support v j)

-- a sum over a row is the sum over its support
pub sum_over_support : {p n : ℕ} {v : List ℕ} → IsVector p n v → (x : ℕ → ℕ) →
    sum_below n (λ j. slice_index v j * x j) ≡ sum_below (length (support v)) (λ k. slice_index (nonzeros v) k * x (slice_index (support v) k))
sum_over_support {p} {n} {v} h x =
    let s : IsSparse p n (support v) (nonzeros v) = support_sparse h in
    sum_support n (length (support v)) (λ j. slice_index v j * x j) (slice_index (support v)) s.below s.rising
    (λ j l. elim (entry_cover (support v) (nonzeros v) j) [
      | inl z ↦ inl (ap (λ a. a * x j) (sym (entry_support v j) ∙ z) ∙ zero-mul (x j))
      | inr w ↦ inr w
    ])
    ∙ sum_equal (length (support v)) _ _ (λ k l. ap (λ a. a * x (slice_index (support v) k)) (sym (entry_support v (slice_index (support v) k)) ∙ entry_here (support v) (nonzeros v) s.long s.rising k l))
