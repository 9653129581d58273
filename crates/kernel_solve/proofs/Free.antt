-- The free columns of a form: those that are no leads.
use Rattle.std.proofs.Common.{ℕ, zero, suc, ◌≡◌, ◌≢◌, ◌+◌, ◌-◌, ◌<◌, ◌≤◌, ◌⊎◌, inl, inr, List, [], ◌∷◌, ◌++◌, length, slice_index, sym, ap, subst, ◌∙◌, arith}
use Rattle.std.proofs.lemmas.Bool.{cases_eq, cases_lt}
use Rattle.std.proofs.lemmas.List.{get_or_append_left, get_or_push, length_push}

-- of the first j columns k are leads, and these others are free
pub record AreFreeSoFar (leads : List ℕ) (j k : ℕ) (free : List ℕ) : Type 0 where
  pub within : k ≤ length leads
  pub long : length free + k ≡ j
  pub below : (t : ℕ) → t < k → slice_index leads t < j
  pub beyond : (t : ℕ) → k ≤ t → t < length leads → j ≤ slice_index leads t
  pub free_below : (g : ℕ) → g < length free → slice_index free g < j
  pub rising : (g t : ℕ) → g < t → t < length free → slice_index free g < slice_index free t
  pub apart : (t g : ℕ) → t < length leads → g < length free → slice_index leads t ≢ slice_index free g
  pub each : (i : ℕ) → i < j → ((t : ℕ) × (t < k) × (slice_index leads t ≡ i)) ⊎ ((g : ℕ) × (g < length free) × (slice_index free g ≡ i))

-- of n columns these are free, ascending
pub record AreFree (n : ℕ) (leads free : List ℕ) : Type 0 where
  pub long : length free + length leads ≡ n
  pub below : (g : ℕ) → g < length free → slice_index free g < n
  pub rising : (g t : ℕ) → g < t → t < length free → slice_index free g < slice_index free t
  pub apart : (k g : ℕ) → k < length leads → g < length free → slice_index leads k ≢ slice_index free g
  pub each : (j : ℕ) → j < n → ((k : ℕ) × (k < length leads) × (slice_index leads k ≡ j)) ⊎ ((g : ℕ) × (g < length free) × (slice_index free g ≡ j))

-- at the start there is no column
pub none_so_far : (leads : List ℕ) → AreFreeSoFar leads 0 0 []
none_so_far leads = record {
  within = omega arith;
  long = omega arith;
  below = λ t l. absurd (omega arith);
  beyond = λ t a b. omega arith;
  free_below = λ g l. absurd (omega arith);
  rising = λ g t a b. absurd (omega arith);
  apart = λ t g a b. absurd (omega arith);
  each = λ i l. absurd (omega arith);
}

module _ (leads : List ℕ) (j k : ℕ) (free : List ℕ) (rising : (s t : ℕ) → s < t → t < length leads → slice_index leads s < slice_index leads t)
    (s : AreFreeSoFar leads j k free) where
  -- the next column is a lead
  pub lead_more : k < length leads → slice_index leads k ≡ j → AreFreeSoFar leads (j + 1) (k + 1) free
  lead_more l e =
      record {
        within = omega arith;
        long = omega (arith, s.long);
        below = λ t o. elim (cases_lt t k) [ inl b ↦ omega (arith, s.below t b) | inr b ↦ let same : t ≡ k = omega arith in omega (arith, ap (slice_index leads) same) ];
        beyond = λ t a b. omega (arith, rising k t (omega arith) b);
        free_below = λ g o. omega (arith, s.free_below g o);
        rising = s.rising;
        apart = s.apart;
        each = λ i o. elim (cases_lt i j) [
          | inl b ↦ elim (s.each i b) [ inl w ↦ inl (w.0, omega (arith, w.1), w.2) | inr w ↦ inr w ]
          | inr b ↦ inl (k, omega arith, omega arith)
        ];
      }

  -- what is no lead so far is none at all
  pub is_free : ((k < length leads) × (slice_index leads k ≡ j) → ⊥) → (t : ℕ) → t < length leads → slice_index leads t ≢ j
  is_free none t l e = elim (cases_lt t k) [
    | inl b ↦ omega (arith, s.below t b)
    | inr a ↦ elim (cases_eq t k) [
      | inl same ↦ none (omega arith, ap (slice_index leads) (sym same) ∙ e)
      | inr more ↦ omega (arith, rising k t (omega arith) l, s.beyond k (omega arith) (omega arith))
    ]
  ]

  -- the next column is free
  pub free_more : ((t : ℕ) → t < length leads → slice_index leads t ≢ j) → AreFreeSoFar leads (j + 1) k (free ++ j ∷ [])
  free_more none =
      let old : (g : ℕ) → g < length free → slice_index (free ++ j ∷ []) g ≡ slice_index free g = λ g o. get_or_append_left free (j ∷ []) 0 g o in
      let new : slice_index (free ++ j ∷ []) (length free) ≡ j = get_or_push free j 0 (length free) (omega arith) in
      let longer : length (free ++ j ∷ []) ≡ length free + 1 = length_push free j in
      let either : (g : ℕ) → g < length (free ++ j ∷ []) → (g < length free) ⊎ (g ≡ length free) = λ g o. elim (cases_lt g (length free)) [ inl b ↦ inl b | inr b ↦ inr (omega arith) ] in
      let here : (g : ℕ) → g ≡ length free → slice_index (free ++ j ∷ []) g ≡ j = λ g e. ap (slice_index (free ++ j ∷ [])) e ∙ new in
      record {
        within = s.within;
        long = omega (arith, s.long);
        below = λ t o. omega (arith, s.below t o);
        beyond = λ t a b. elim (cases_eq (slice_index leads t) j) [ inl q ↦ absurd (none t b q) | inr d ↦ omega (arith, s.beyond t a b) ];
        free_below = λ g o. elim (either g o) [ inl b ↦ omega (arith, old g b, s.free_below g b) | inr e ↦ omega (arith, here g e) ];
        rising = λ g t a o. elim (either t o) [
          | inl b ↦ omega (arith, old g (omega arith), old t b, s.rising g t a b)
          | inr e ↦ omega (arith, old g (omega arith), here t e, s.free_below g (omega arith))
        ];
        apart = λ t g a o. elim (either g o) [
          | inl b ↦ λ q. s.apart t g a b (q ∙ old g b)
          | inr e ↦ λ q. none t a (q ∙ here g e)
        ];
        each = λ i o. elim (cases_lt i j) [
          | inl b ↦ elim (s.each i b) [ inl w ↦ inl w | inr w ↦ inr (w.0, omega (arith, w.1), old w.0 w.1 ∙ w.2) ]
          | inr b ↦ inr (length free, omega arith, let same : j ≡ i = omega arith in new ∙ same)
        ];
      }

  -- after all columns all leads have come
  pub all_columns : ((t : ℕ) → t < length leads → slice_index leads t < j) → AreFree j leads free
  all_columns inside =
      let all : k ≡ length leads = elim (cases_lt k (length leads)) [ inl l ↦ absurd (omega (arith, s.beyond k (omega arith) l, inside k l)) | inr l ↦ omega (arith, s.within) ] in
      record {
        long = omega (arith, s.long);
        below = s.free_below;
        rising = s.rising;
        apart = s.apart;
        each = λ i l. elim (s.each i l) [ inl w ↦ inl (w.0, omega (arith, w.1), w.2) | inr w ↦ inr w ];
      }

-- each form has its free columns
module _ (leads : List ℕ) (rising : (s t : ℕ) → s < t → t < length leads → slice_index leads s < slice_index leads t) where
  found_so_far : (j : ℕ) → (k : ℕ) × (free : List ℕ) × AreFreeSoFar leads j k free
  found_so_far zero = (0, [], none_so_far leads)
  found_so_far (suc j) =
      let (k, free, s) = found_so_far j in
      elim (cases_lt k (length leads)) [
        | inl l ↦ elim (cases_eq (slice_index leads k) j) [
          | inl e ↦ (k + 1, free, one_on (k + 1) free (lead_more leads j k free rising s l e))
          | inr d ↦ (k, free ++ j ∷ [], one_on k (free ++ j ∷ []) (free_more leads j k free rising s (is_free leads j k free rising s (λ h. d h.1))))
        ]
        | inr a ↦ (k, free ++ j ∷ [], one_on k (free ++ j ∷ []) (free_more leads j k free rising s (is_free leads j k free rising s (λ h. absurd (omega (arith, h.0))))))
      ]
    where
      one_on : (k : ℕ) (free : List ℕ) → AreFreeSoFar leads (j + 1) k free → AreFreeSoFar leads (suc j) k free
      one_on k free h = subst (λ n. AreFreeSoFar leads n k free) (let e : j + 1 ≡ suc j = omega arith in e) h

  pub free_found : (n : ℕ) → ((t : ℕ) → t < length leads → slice_index leads t < n) → (free : List ℕ) × AreFree n leads free
  free_found n inside = let (k, free, s) = found_so_far n in (free, all_columns leads n k free rising s inside)

-- where there are as many leads as columns, none of these is free
pub none_free : (n f : ℕ) (leads : List ℕ) → ((t : ℕ) → t < length leads → slice_index leads t < n) → ((s t : ℕ) → s < t → t < length leads → slice_index leads s < slice_index leads t) →
    length leads ≡ n → f < n → ((k : ℕ) → k < length leads → slice_index leads k ≢ f) → ⊥
none_free n f leads inside rising full l none =
    let (free, c) = free_found leads rising n inside in
    elim (c.each f l) [
      | inl w ↦ none w.0 w.1 w.2
      | inr w ↦ omega (arith, w.1, c.long)
    ]

-- the first column that is no lead is the first of the free ones
pub first_of_free : (n f : ℕ) (leads free : List ℕ) → AreFree n leads free → f < n → ((k : ℕ) → k < f → slice_index leads k ≡ k) → f ≤ length leads →
    ((k : ℕ) → k < length leads → slice_index leads k ≢ f) → (0 < length free) × (slice_index free 0 ≡ f)
first_of_free n f leads free c l before few none = elim (c.each f l) [
  | inl w ↦ absurd (none w.0 w.1 w.2)
  | inr w ↦ elim (cases_eq w.0 0) [
    | inl e ↦ (omega (arith, w.1), ap (slice_index free) (sym e) ∙ w.2)
    | inr d ↦
        let low : slice_index free 0 < f = omega (arith, c.rising 0 w.0 (omega arith) w.1, w.2) in
        absurd (c.apart (slice_index free 0) 0 (omega arith) (omega (arith, w.1)) (before (slice_index free 0) low))
  ]
]

-- rising columns below n are no more than n
pub rising_bound : (leads : List ℕ) (n : ℕ) → ((k : ℕ) → k < length leads → slice_index leads k < n) → ((s t : ℕ) → s < t → t < length leads → slice_index leads s < slice_index leads t) → length leads ≤ n
rising_bound leads n inside rising =
    elim (cases_lt 0 (length leads)) [
      | inl l ↦ omega (arith, at_least (length leads - 1) (omega arith), inside (length leads - 1) (omega arith))
      | inr l ↦ omega arith
    ]
  where
    at_least : (k : ℕ) → k < length leads → k ≤ slice_index leads k
    at_least zero l = omega arith
    at_least (suc k) l = omega (arith, at_least k (omega arith), rising k (suc k) (omega arith) l)

-- rising columns of which the last is not the last of all are before it
pub below_last : (last n : ℕ) (leads : List ℕ) → n ≡ last + 1 → ((k : ℕ) → k < length leads → slice_index leads k < n) → ((s t : ℕ) → s < t → t < length leads → slice_index leads s < slice_index leads t) →
    ((0 < length leads) × (slice_index leads (length leads - 1) ≡ last) → ⊥) → (k : ℕ) → k < length leads → slice_index leads k < last
below_last last n leads e inside rising other k l =
    let end : ℕ = length leads - 1 in
    elim (cases_eq (slice_index leads end) last) [
      | inl q ↦ absurd (other (omega arith, q))
      | inr d ↦ elim (cases_eq k end) [
        | inl same ↦ omega (arith, ap (slice_index leads) same, inside end (omega arith))
        | inr less ↦ omega (arith, rising k end (omega arith) (omega arith), inside end (omega arith))
      ]
    ]

-- where all leads before k are their own places, and that at k is not, no row leads at k
pub free_at : (leads : List ℕ) (k : ℕ) → ((s t : ℕ) → s < t → t < length leads → slice_index leads s < slice_index leads t) → ((t : ℕ) → t < k → slice_index leads t ≡ t) →
    k < length leads → slice_index leads k ≢ k → (t : ℕ) → t < length leads → slice_index leads t ≢ k
free_at leads k rising before inside other t l e =
    let high : k ≤ slice_index leads k = elim (cases_eq k 0) [ inl z ↦ omega arith | inr d ↦ omega (arith, before (k - 1) (omega arith), rising (k - 1) k (omega arith) inside) ] in
    elim (cases_lt t k) [
      | inl o ↦ omega (arith, before t o)
      | inr o ↦ elim (cases_eq t k) [
        | inl same ↦ other (ap (slice_index leads) (sym same) ∙ e)
        | inr more ↦ omega (arith, rising k t (omega arith) l)
      ]
    ]
