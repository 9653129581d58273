-- A list of which few items are not 0, the marked ones: one more is marked, and the first is taken.
use Rattle.std.proofs.Common.{ℕ, ◌≡◌, ◌≢◌, ◌⊎◌, ◌<◌, ◌≤◌, List, length, slice_index, slice_set, inl, inr, sym, ap, subst, ◌∙◌, arith}
use Rattle.std.proofs.Math.ListN.{get_or-eq_default}
use Rattle.std.proofs.lemmas.Bool.{cases_eq, cases_lt}
use Rattle.std.proofs.lemmas.List.{get_or-set_same, get_or-set_other, length-set}
use Rattle.sparse_rows.specs.ColumnSet.{AllZero, TakesFirst}

-- what is marked stands inside
pub marked_inside : (xs : List ℕ) (j : ℕ) → slice_index xs j ≢ 0 → j < length xs
marked_inside xs j ne = elim (cases_lt j (length xs)) [ inl l ↦ l | inr ge ↦ absurd (ne (get_or-eq_default xs 0 ge)) ]

pub none_marked : (xs : List ℕ) → AllZero xs → (j : ℕ) → ¬ (slice_index xs j ≢ 0)
none_marked xs zero' j ne = ne (zero' j (marked_inside xs j ne))

-- one more
pub mark_there : (xs : List ℕ) (c : ℕ) → c < length xs → slice_index (slice_set xs c 1) c ≢ 0
mark_there xs c l z = absurd (omega (arith, get_or-set_same xs c 1 0 l, z))

pub mark_stays : (xs : List ℕ) (c : ℕ) → c < length xs → (j : ℕ) → slice_index xs j ≢ 0 → slice_index (slice_set xs c 1) j ≢ 0
mark_stays xs c l j ne = elim (cases_eq j c) [
  | inl e ↦ subst (λ (i : ℕ). slice_index (slice_set xs c 1) i ≢ 0) (sym e) (mark_there xs c l)
  | inr d ↦ λ z. ne (sym (get_or-set_other xs c j 1 0 d) ∙ z)
]

-- the first is taken
module _ {old new : List ℕ} {c v : ℕ} (t : TakesFirst old new c v) where
  pub taken_long : length new ≡ length old
  taken_long = ap length t.after ∙ length-set old c 0

  pub taken_there : slice_index old c ≢ 0
  taken_there z = t.nonzero (t.value ∙ z)

  pub taken_least : (j : ℕ) → slice_index old j ≢ 0 → c ≤ j
  taken_least j ne = elim (cases_lt j c) [ inl l ↦ absurd (ne (t.before j l)) | inr ge ↦ ge ]

  other : (j : ℕ) → j ≢ c → slice_index new j ≡ slice_index old j
  other j d = ap (λ xs. slice_index xs j) t.after ∙ get_or-set_other old c j 0 0 d

  pub taken_kept : (j : ℕ) → slice_index new j ≢ 0 → slice_index old j ≢ 0
  taken_kept j ne z = elim (cases_eq j c) [
    | inl e ↦ taken_there (ap (slice_index old) (sym e) ∙ z)
    | inr d ↦ ne (other j d ∙ z)
  ]

  pub taken_past : (j : ℕ) → slice_index new j ≢ 0 → c < j
  taken_past j ne = elim (cases_eq j c) [
    | inl e ↦ absurd (ne (ap (slice_index new) e ∙ ap (λ xs. slice_index xs c) t.after ∙ get_or-set_same old c 0 0 t.inside))
    | inr d ↦ omega (arith, taken_least j (taken_kept j ne))
  ]

  pub taken_others : (j : ℕ) → slice_index old j ≢ 0 → (j ≡ c) ⊎ (slice_index new j ≢ 0)
  taken_others j ne = elim (cases_eq j c) [ inl e ↦ inl e | inr d ↦ inr (λ z. ne (sym (other j d) ∙ z)) ]
