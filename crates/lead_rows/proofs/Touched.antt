-- Sums by column, with marks at the columns that may hold some.
use Rattle.std.proofs.Common.{ℕ, ◌≡◌, ◌≢◌, ◌<◌, List, length, slice_index, slice_set, inl, inr, sym, ap, ◌∙◌, arith}
use Rattle.std.proofs.lemmas.List.{length-set, get_or-set_same, get_or-set_other}
use Rattle.std.proofs.lemmas.Bool.{cases_eq}
use Rattle.lead_rows.proofs.Extent.{extent, extent_falls}
use Rattle.sparse_rows.specs.ColumnSet.{AllZero, TakesFirst}
use Rattle.lead_rows.specs.Accumulator.{AreTouched}

-- a sum at a marked column may change
pub touched_set : {sums marks : List ℕ} → AreTouched sums marks → (j v : ℕ) → j < length sums → slice_index marks j ≢ 0 → AreTouched (slice_set sums j v) marks
touched_set {sums} {marks} t j v l here = record {
  long = t.long ∙ sym (length-set sums j v);
  covers = λ k lk n. elim (cases_eq k j) [
    | inl e ↦ (λ z. here (ap (slice_index marks) (sym e) ∙ z))
    | inr d ↦ t.covers k (omega (arith, length-set sums j v)) (λ z. n (get_or-set_other sums j k v 0 d ∙ z))
  ];
}

-- a column is marked
pub touched_mark : {sums marks : List ℕ} → AreTouched sums marks → (j : ℕ) → j < length sums → AreTouched sums (slice_set marks j 1) × (slice_index (slice_set marks j 1) j ≢ 0)
touched_mark {sums} {marks} t j l = (
  record {
    long = length-set marks j 1 ∙ t.long;
    covers = λ k lk n. elim (cases_eq k j) [
      | inl e ↦ (λ z. here (ap (slice_index (slice_set marks j 1)) (sym e) ∙ z))
      | inr d ↦ (λ z. t.covers k lk n (sym (get_or-set_other marks j k 1 0 d) ∙ z))
    ];
  },
  here,
)
  where
    here : slice_index (slice_set marks j 1) j ≢ 0
    here z = let one : slice_index (slice_set marks j 1) j ≡ 1 = get_or-set_same marks j 1 0 (omega (arith, t.long)) in omega arith

-- what the first mark says, and what is true when it is taken
pub record IsTop (sums new : List ℕ) (c : ℕ) : Type 0 where
  pub inside : c < length sums
  pub before : (j : ℕ) → j < c → slice_index sums j ≡ 0
  pub taken : AreTouched (slice_set sums c 0) new

pub touched_pop : {sums marks new : List ℕ} {c : ℕ} → AreTouched sums marks → TakesFirst marks new c 1 → IsTop sums new c
touched_pop {sums} {marks} {new} {c} t first = record {
  inside = inside;
  before = λ j l. elim (cases_eq (slice_index sums j) 0) [ inl z ↦ z | inr n ↦ absurd (t.covers j (omega (arith, inside)) n (first.before j l)) ];
  taken = record {
    long = long ∙ sym (length-set sums c 0);
    covers = λ k lk n. elim (cases_eq k c) [
      | inl e ↦ absurd (n (ap (slice_index (slice_set sums c 0)) e ∙ get_or-set_same sums c 0 0 inside))
      | inr d ↦ others k d (t.covers k (omega (arith, length-set sums c 0)) (λ z. n (get_or-set_other sums c k 0 0 d ∙ z)))
    ];
  };
}
  where
    inside : c < length sums
    inside = omega (arith, first.inside, t.long)

    long : length new ≡ length sums
    long = ap length first.after ∙ length-set marks c 0 ∙ t.long

    others : (k : ℕ) → k ≢ c → slice_index marks k ≢ 0 → slice_index new k ≢ 0
    others k d n z = n (sym (get_or-set_other marks c k 0 0 d) ∙ sym (ap (λ xs. slice_index xs k) first.after) ∙ z)

-- what is taken is less to come
pub taken_falls : {old new : List ℕ} {c v : ℕ} → TakesFirst old new c v → extent new < extent old
taken_falls {old} {new} {c} {v} t =
    extent_falls old new c (ap length t.after ∙ length-set old c 0) t.inside (λ z. t.nonzero (t.value ∙ z)) (λ j l. ap (λ xs. slice_index xs j) t.after ∙
    elim (cases_eq j c) [
      | inl same ↦ ap (slice_index (slice_set old c 0)) same ∙ get_or-set_same old c 0 0 t.inside
      | inr d ↦ get_or-set_other old c j 0 0 d ∙ t.before j (omega arith)
    ])

-- where nothing is marked all sums are 0
pub untouched : {sums marks : List ℕ} → AreTouched sums marks → AllZero marks → AllZero sums
untouched {sums} {marks} t none = λ j l. elim (cases_eq (slice_index sums j) 0) [ inl z ↦ z | inr n ↦ absurd (t.covers j l n (none j (omega (arith, t.long)))) ]
