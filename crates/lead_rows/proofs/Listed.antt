-- Sums that are listed in a row, one after another.
use Rattle.std.proofs.Common.{ℕ, ◌≡◌, ◌+◌, ◌<◌, ◌≤◌, List, length, slice_index, slice_set, inl, inr, sym, refl, ap, ◌∙◌, arith}
use Rattle.std.proofs.lemmas.Bool.{cases_eq, cases_lt}
use Rattle.std.proofs.lemmas.List.{length-set, get_or-set_same, get_or-set_other}
use Rattle.residue_words.proofs.Vectors.{list_equal}
use Rattle.sparse_rows.specs.ColumnSet.{AllZero, TakesFirst}

-- the sums below a bound stand in the row, the others are left
pub record IsListing (s0 s row : List ℕ) : Type 0 where
  pub bound : ℕ
  pub long : length s ≡ length s0
  pub wide : length row ≡ length s0
  pub done : (j : ℕ) → j < bound → slice_index row j ≡ slice_index s0 j
  pub taken : (j : ℕ) → j < bound → slice_index s j ≡ 0
  pub left : (j : ℕ) → bound ≤ j → slice_index s j ≡ slice_index s0 j
  pub behind : (j : ℕ) → bound ≤ j → j < length s0 → slice_index row j ≡ 0

pub listing_none : (s row : List ℕ) → length row ≡ length s → ((j : ℕ) → j < length s → slice_index row j ≡ 0) → IsListing s s row
listing_none s row e zero = record {
  bound = 0;
  long = refl;
  wide = e;
  done = λ j l. absurd (omega arith);
  taken = λ j l. absurd (omega arith);
  left = λ j l. refl;
  behind = λ j l b. zero j b;
}

-- where the first sum stands
listing_from : {s0 s row s1 : List ℕ} {c v : ℕ} (i : IsListing s0 s row) → TakesFirst s s1 c v → i.bound ≤ c
listing_from {s0} {s} {row} {s1} {c} {v} i t = elim (cases_lt c i.bound) [ inl l ↦ absurd (t.nonzero (t.value ∙ i.taken c l)) | inr g ↦ omega arith ]

pub listing_behind : {s0 s row s1 : List ℕ} {c v : ℕ} → IsListing s0 s row → TakesFirst s s1 c v → (j : ℕ) → c ≤ j → j < length row → slice_index row j ≡ 0
listing_behind i t j le l = let from = listing_from i t in i.behind j (omega arith) (omega (arith, i.wide))

pub listing_more : {s0 s row s1 next : List ℕ} {c v : ℕ} → IsListing s0 s row → TakesFirst s s1 c v → next ≡ slice_set row c v → IsListing s0 s1 next
listing_more {s0} {s} {row} {s1} {next} {c} {v} i t e = record {
  bound = c + 1;
  long = ap length t.after ∙ length-set s c 0 ∙ i.long;
  wide = ap length e ∙ length-set row c v ∙ i.wide;
  done = λ j l. ap (λ xs. slice_index xs j) e ∙ elim (cases_eq j c) [
    | inl same ↦ ap (slice_index (slice_set row c v)) same ∙ get_or-set_same row c v 0 (omega (arith, t.inside, i.long, i.wide)) ∙ t.value ∙ i.left c from ∙ ap (slice_index s0) (sym same)
    | inr d ↦ get_or-set_other row c j v 0 d ∙ elim (cases_lt j i.bound) [
      | inl low ↦ i.done j low
      | inr ge ↦ i.behind j (omega arith) (omega (arith, t.inside, i.long)) ∙ sym (sym (i.left j (omega arith)) ∙ t.before j (omega arith))
    ]
  ];
  taken = λ j l. ap (λ xs. slice_index xs j) t.after ∙ elim (cases_eq j c) [
    | inl same ↦ ap (slice_index (slice_set s c 0)) same ∙ get_or-set_same s c 0 0 t.inside
    | inr d ↦ get_or-set_other s c j 0 0 d ∙ t.before j (omega arith)
  ];
  left = λ j l. ap (λ xs. slice_index xs j) t.after ∙ get_or-set_other s c j 0 0 (λ z. absurd (omega arith)) ∙ i.left j (omega (arith, from));
  behind = λ j l b. ap (λ xs. slice_index xs j) e ∙ get_or-set_other row c j v 0 (λ z. absurd (omega arith)) ∙ i.behind j (omega (arith, from)) b;
}
  where
    from : i.bound ≤ c
    from = listing_from i t

pub listing_all : {s0 s row : List ℕ} → IsListing s0 s row → AllZero s → row ≡ s0
listing_all {s0} {s} {row} i none = list_equal (length s0) row s0 i.wide refl (λ j l. elim (cases_lt j i.bound) [
  | inl low ↦ i.done j low
  | inr ge ↦ i.behind j (omega arith) l ∙ sym (sym (i.left j (omega arith)) ∙ none j (omega (arith, i.long)))
])
