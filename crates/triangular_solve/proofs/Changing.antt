-- Counts that change at the places of some columns, one after another.
use Rattle.std.proofs.Common.{ℕ, ◌≡◌, ◌≢◌, ◌+◌, ◌<◌, ◌≤◌, ◌⊎◌, List, [], ◌∷◌, length, slice_index, slice_set, take, inl, inr, ⊎_elim, sym, refl, ap, subst, ◌∙◌, arith}
use Rattle.std.specs.List.{Contains}
use Rattle.std.proofs.lemmas.Bool.{cases_eq, cases_lt}
use Rattle.std.proofs.lemmas.List.{get_or-set_same, get_or-set_other, get_or-take, length-take-le, take_all, take_more}
use Rattle.std.proofs.lemmas.List.Elements.{Contains-append_left, Contains-push, Contains-push_cases}
use Rattle.residue_words.proofs.Lists.{contains_at, not_in_nil, place_in}
use Rattle.sparse_rows.specs.Rows.{AreRising}

-- the counts at the touched ones of the first n places changed as R says, the others are as they were
pub record IsChangedBy (touched : ℕ → Type 0) (R : ℕ → ℕ → Type 0) (n : ℕ) (old new : List ℕ) : Type 0 where
  pub done : (k : ℕ) → k < n → touched k → R (slice_index old k) (slice_index new k)
  pub rest : (k : ℕ) → k < n → ¬ touched k → slice_index new k ≡ slice_index old k

-- the first i columns were taken
abbrev pub Touched : (columns cols : List ℕ) → ℕ → ℕ → Type 0
Touched columns cols i k = Contains (take i cols) (slice_index columns k)

pub changed_none : (columns cols : List ℕ) (R : ℕ → ℕ → Type 0) (n : ℕ) (old : List ℕ) → IsChangedBy (Touched columns cols 0) R n old old
changed_none columns cols R n old = record { done = λ k l t. absurd (not_in_nil (slice_index columns k) t); rest = λ k l t. refl }

module _ (cols : List ℕ) {i : ℕ} (l : i < length cols) where
  more : (x : ℕ) → Contains (take i cols) x → Contains (take (i + 1) cols) x
  more x m = subst (λ (xs : List ℕ). Contains xs x) (sym (take_more cols i 0 l)) (Contains-append_left (take i cols) (slice_index cols i ∷ []) x m)

  pub touched_next : (columns : List ℕ) (k : ℕ) → slice_index columns k ≡ slice_index cols i → Touched columns cols (i + 1) k
  touched_next columns k e = subst (Contains (take (i + 1) cols)) (sym e)
      (subst (λ (xs : List ℕ). Contains xs (slice_index cols i)) (sym (take_more cols i 0 l)) (Contains-push (take i cols) (slice_index cols i)))

  cases : (x : ℕ) → Contains (take (i + 1) cols) x → Contains (take i cols) x ⊎ (slice_index cols i ≡ x)
  cases x m = Contains-push_cases (take i cols) (slice_index cols i) x (subst (λ (xs : List ℕ). Contains xs x) (take_more cols i 0 l) m)

  fresh : AreRising cols → ¬ Contains (take i cols) (slice_index cols i)
  fresh rising m =
      let t = place_in (take i cols) (slice_index cols i) m in
      let lt : t.0 < i = omega (arith, t.1, length-take-le i cols (omega arith)) in
      absurd (omega (arith, rising t.0 i lt l, get_or-take i cols t.0 0 lt, t.2))

  pub touched_cases : (columns : List ℕ) (k : ℕ) → Touched columns cols (i + 1) k → Touched columns cols i k ⊎ (slice_index cols i ≡ slice_index columns k)
  touched_cases columns k m = cases (slice_index columns k) m

  module _ (columns : List ℕ) {R : ℕ → ℕ → Type 0} {old new : List ℕ} (c : IsChangedBy (Touched columns cols i) R (length columns) old new) where
    -- the next column has no place
    pub changed_passes : ¬ Contains columns (slice_index cols i) → IsChangedBy (Touched columns cols (i + 1)) R (length columns) old new
    changed_passes off = record {
      done = λ k lk t. ⊎_elim (c.done k lk) (λ e. absurd (off (contains_at columns k (slice_index cols i) lk (sym e)))) (cases (slice_index columns k) t);
      rest = λ k lk t. c.rest k lk (λ m. t (more (slice_index columns k) m));
    }

    -- the next column has this place, where nothing has changed yet
    module _ (rising : AreRising cols) (pivotal : AreRising columns) (place : ℕ) (inside : place < length columns) (at : slice_index columns place ≡ slice_index cols i) where
      pub unchanged_yet : slice_index new place ≡ slice_index old place
      unchanged_yet = c.rest place inside (λ m. fresh rising (subst (Contains (take i cols)) at m))

      pub place_is : (k : ℕ) → k < length columns → slice_index cols i ≡ slice_index columns k → k ≡ place
      place_is k lk e = elim (cases_eq k place) [
        | inl is ↦ is
        | inr ne ↦ elim (cases_lt k place) [
          | inl less ↦ absurd (omega (arith, pivotal k place less inside))
          | inr ge ↦ absurd (omega (arith, pivotal place k (omega arith) lk))
        ]
      ]

      pub changed_comes : (v : ℕ) → place < length new → R (slice_index old place) v → IsChangedBy (Touched columns cols (i + 1)) R (length columns) old (slice_set new place v)
      changed_comes v ln r = record {
        done = λ k lk t. elim (cases_eq k place) [
          | inl e ↦ subst (λ j. R (slice_index old j) (slice_index (slice_set new place v) j)) (sym e) (subst (R (slice_index old place)) (sym (get_or-set_same new place v 0 ln)) r)
          | inr ne ↦ subst (R (slice_index old k)) (sym (get_or-set_other new place k v 0 ne))
              (⊎_elim (c.done k lk) (λ e. absurd (ne (place_is k lk e))) (cases (slice_index columns k) t))
        ];
        rest = λ k lk t.
            let ne : k ≢ place = λ e. t (touched_next columns k (ap (slice_index columns) e ∙ at)) in
            get_or-set_other new place k v 0 ne ∙ c.rest k lk (λ m. t (more (slice_index columns k) m));
      }

-- all columns were taken
module _ (columns cols : List ℕ) {i : ℕ} (le : length cols ≤ i) where
  pub touched_all : (k : ℕ) → Contains cols (slice_index columns k) → Touched columns cols i k
  touched_all k m = subst (λ (xs : List ℕ). Contains xs (slice_index columns k)) (sym (take_all i cols le)) m

  module _ {R : ℕ → ℕ → Type 0} {n : ℕ} {old new : List ℕ} (c : IsChangedBy (Touched columns cols i) R n old new) where
    pub changed_at : (k : ℕ) → k < n → Contains cols (slice_index columns k) → R (slice_index old k) (slice_index new k)
    changed_at k l m = c.done k l (touched_all k m)

    pub unchanged_at : (k : ℕ) → k < n → ¬ Contains cols (slice_index columns k) → slice_index new k ≡ slice_index old k
    unchanged_at k l off = c.rest k l (λ m. off (subst (λ (xs : List ℕ). Contains xs (slice_index columns k)) (take_all i cols le) m))
