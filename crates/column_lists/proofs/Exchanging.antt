-- Numbers in another order: exchanged, they still differ.
use Rattle.std.proofs.Common.{ℕ, ◌≡◌, ◌≢◌, ◌<◌, List, cond, eqb, length, slice_index, inl, inr, sym, refl, ap, ◌∙◌, arith, eq-eqb, ne_eqb}
use Rattle.std.specs.List.{swap}
use Rattle.std.specs.List.Sorted.{IsPermutation}
use Rattle.std.proofs.lemmas.Bool.{cases_eq, cases_lt, cond-true, cond-false}
use Rattle.std.proofs.lemmas.List.Edits.{Swapped, swapped_from_swap, length-swap}
use Rattle.std.proofs.lemmas.List.Sorted.{IsPermutation-keeps}
use Rattle.column_lists.specs.Numbers.{AreDistinct, AreRising}

-- i, but a and b in each other's place
pub turned : ℕ → ℕ → ℕ → ℕ
turned a b i = cond (eqb i a) b (cond (eqb i b) a i)

turned_first : (a b i : ℕ) → i ≡ a → turned a b i ≡ b
unfolding turned
turned_first a b i e = cond-true (eqb i a) b _ (eq-eqb i a e)

turned_second : (a b i : ℕ) → i ≡ b → turned a b i ≡ a
unfolding turned
turned_second a b i e = elim (cases_eq i a) [
  | inl f ↦ turned_first a b i f ∙ sym e ∙ f
  | inr d ↦ cond-false (eqb i a) b _ (ne_eqb i a d) ∙ cond-true (eqb i b) a i (eq-eqb i b e)
]

turned_other : (a b i : ℕ) → i ≢ a → i ≢ b → turned a b i ≡ i
unfolding turned
turned_other a b i d f = cond-false (eqb i a) b _ (ne_eqb i a d) ∙ cond-false (eqb i b) a i (ne_eqb i b f)

-- twice is back
pub turned_back : (a b i : ℕ) → turned a b (turned a b i) ≡ i
turned_back a b i = elim (cases_eq i a) [
  | inl e ↦ turned_second a b (turned a b i) (turned_first a b i e) ∙ sym e
  | inr d ↦ elim (cases_eq i b) [
    | inl f ↦ turned_first a b (turned a b i) (turned_second a b i f) ∙ sym f
    | inr g ↦ ap (turned a b) (turned_other a b i d g) ∙ turned_other a b i d g
  ]
]

pub turned_below : (n a b i : ℕ) → a < n → b < n → i < n → turned a b i < n
turned_below n a b i la lb li = elim (cases_eq i a) [
  | inl e ↦ omega (arith, turned_first a b i e)
  | inr d ↦ elim (cases_eq i b) [ inl f ↦ omega (arith, turned_second a b i f) | inr g ↦ omega (arith, turned_other a b i d g) ]
]

-- what is swapped stands at the turned place
pub at_turned : {X : Type 0} (f g : ℕ → X) (a b : ℕ) → Swapped f g a b → (i : ℕ) → g i ≡ f (turned a b i)
at_turned f g a b s i = elim (cases_eq i a) [
  | inl e ↦ ap g e ∙ s.0 ∙ ap f (sym (turned_first a b i e))
  | inr d ↦ elim (cases_eq i b) [
    | inl e ↦ ap g e ∙ s.1 ∙ ap f (sym (turned_second a b i e))
    | inr h ↦ s.2 i d h ∙ ap f (sym (turned_other a b i d h))
  ]
]

-- the numbers at any two places differ
abbrev Differ : List ℕ → Type 0
Differ xs = (k t : ℕ) → k < length xs → t < length xs → k ≢ t → slice_index xs k ≢ slice_index xs t

differ_swapped : (xs : List ℕ) (a b : ℕ) → a < length xs → b < length xs → Differ xs → Differ (swap xs a b)
differ_swapped xs a b la lb h k t lk lt d e = h (turned a b k) (turned a b t) (low k lk) (low t lt)
    (λ f. d (sym (turned_back a b k) ∙ ap (turned a b) f ∙ turned_back a b t)) (sym (moved k) ∙ e ∙ moved t)
  where
    moved : (i : ℕ) → slice_index (swap xs a b) i ≡ slice_index xs (turned a b i)
    moved = at_turned (slice_index xs) (slice_index (swap xs a b)) a b (swapped_from_swap xs (swap xs a b) a b 0 la lb refl)

    low : (i : ℕ) → i < length (swap xs a b) → turned a b i < length xs
    low i l = turned_below (length xs) a b i la lb (omega (arith, length-swap xs a b))

-- ascending numbers differ in any order
pub distinct_permuted : (xs ys : List ℕ) → AreRising xs → IsPermutation xs ys → AreDistinct ys
distinct_permuted xs ys up moved k t a l =
    IsPermutation-keeps xs Differ (λ k t lk lt d e. elim (cases_lt k t) [
      | inl s ↦ omega (arith, up k t s lt)
      | inr s ↦ omega (arith, up t k (omega arith) lk)
    ]) differ_swapped ys moved k t (omega arith) l (λ e. omega arith)
