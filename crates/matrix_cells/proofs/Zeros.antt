-- Cells without those whose value is 0.
use Rattle.std.proofs.Common.{ℕ, ◌≡◌, ◌+◌, ◌<◌, inl, inr, List, [], ◌∷◌, ◌++◌, cond, eqb, refl, sym, ap, subst, ◌∙◌, arith}
use Rattle.std.specs.List.{All}
use Rattle.std.proofs.lemmas.Bool.{cases_eq, cond-true, cond-false, eq-eqb, ne_eqb}
use Rattle.std.proofs.lemmas.List.Elements.{All-cons, All-head, All-nil, All-tail}
use Rattle.std.proofs.lemmas.List.Sums.{sum_by-cons}
use Rattle.matrix_cells.specs.declared.values_at_places.Cell.{Cell}
use Rattle.matrix_cells.specs.Cells.{AreEntries, HaveRisingPlaces, weight, without_zeros}

pub without_zero : (c : Cell) (cells : List Cell) → c.val ≡ 0 → without_zeros (c ∷ cells) ≡ without_zeros cells
without_zero c cells e = cond-true (eqb c.val 0) _ _ (eq-eqb c.val 0 e)

pub without_some : (c : Cell) (cells : List Cell) → 0 < c.val → without_zeros (c ∷ cells) ≡ c ∷ without_zeros cells
without_some c cells p = cond-false (eqb c.val 0) _ _ (ne_eqb c.val 0 (omega arith))

-- one cell more
pub zero_more : (cells : List Cell) (c : Cell) → c.val ≡ 0 → without_zeros (cells ++ c ∷ []) ≡ without_zeros cells
zero_more [] c e = without_zero c [] e
zero_more (b ∷ cells) c e = elim (cases_eq b.val 0) [
  | inl q ↦ without_zero b (cells ++ c ∷ []) q ∙ zero_more cells c e ∙ sym (without_zero b cells q)
  | inr d ↦ without_some b (cells ++ c ∷ []) (omega arith) ∙ ap (λ t. b ∷ t) (zero_more cells c e) ∙ sym (without_some b cells (omega arith))
]

pub some_more : (cells : List Cell) (c : Cell) → 0 < c.val → without_zeros (cells ++ c ∷ []) ≡ without_zeros cells ++ c ∷ []
some_more [] c p = without_some c [] p
some_more (b ∷ cells) c p = elim (cases_eq b.val 0) [
  | inl q ↦ without_zero b (cells ++ c ∷ []) q ∙ some_more cells c p ∙ sym (ap (λ t. t ++ c ∷ []) (without_zero b cells q))
  | inr d ↦ without_some b (cells ++ c ∷ []) (omega arith) ∙ ap (λ t. b ∷ t) (some_more cells c p) ∙ sym (ap (λ t. t ++ c ∷ []) (without_some b cells (omega arith)))
]

-- if no value is 0, these are all
pub without_none : (cells : List Cell) → All (λ c. 0 < c.val) cells → cells ≡ without_zeros cells
without_none [] h = refl
without_none (c ∷ cells) h = ap (λ t. c ∷ t) (without_none cells (All-tail (λ c. 0 < c.val) c cells h)) ∙ sym (without_some c cells (All-head (λ c. 0 < c.val) c cells h))

-- what holds of all holds of those
pub all_without : (P : Cell → Type 0) (cells : List Cell) → All P cells → All P (without_zeros cells)
all_without P [] h = h
all_without P (c ∷ cells) h =
    let rest : All P (without_zeros cells) = all_without P cells (All-tail P c cells h) in
    elim (cases_eq c.val 0) [
      | inl q ↦ subst (All P) (sym (without_zero c cells q)) rest
      | inr d ↦ subst (All P) (sym (without_some c cells (omega arith))) (All-cons P c (without_zeros cells) (All-head P c cells h) rest)
    ]

pub none_zero : (cells : List Cell) → All (λ c. 0 < c.val) (without_zeros cells)
none_zero [] = All-nil (λ c. 0 < c.val)
none_zero (c ∷ cells) = elim (cases_eq c.val 0) [
  | inl q ↦ subst (All (λ c. 0 < c.val)) (sym (without_zero c cells q)) (none_zero cells)
  | inr d ↦ subst (All (λ c. 0 < c.val)) (sym (without_some c cells (omega arith))) (All-cons (λ c. 0 < c.val) c (without_zeros cells) (omega arith) (none_zero cells))
]

-- zeros add nothing
pub weight_without : (t : ℕ) (cells : List Cell) → weight t (without_zeros cells) ≡ weight t cells
weight_without t [] = refl
weight_without t (c ∷ cells) =
    let f : Cell → ℕ = λ c. cond (eqb c.place t) c.val 0 in
    elim (cases_eq c.val 0) [
      | inl q ↦
          let none : f c ≡ 0 = elim (cases_eq c.place t) [
            | inl e ↦ cond-true (eqb c.place t) c.val 0 (eq-eqb c.place t e) ∙ q
            | inr d ↦ cond-false (eqb c.place t) c.val 0 (ne_eqb c.place t d)
          ] in
          ap (weight t) (without_zero c cells q) ∙ weight_without t cells ∙ (let plain : weight t cells ≡ 0 + weight t cells = omega arith in plain)
          ∙ ap (λ w. w + weight t cells) (sym none) ∙ sym (sum_by-cons f c cells)
      | inr d ↦ ap (weight t) (without_some c cells (omega arith)) ∙ sum_by-cons f c (without_zeros cells) ∙ ap (λ w. f c + w) (weight_without t cells) ∙ sym (sum_by-cons f c cells)
    ]

-- those are entries if they ascend
pub without_entries : (p : ℕ) (cells : List Cell) → HaveRisingPlaces (without_zeros cells) → All (λ c. c.val < p) cells → AreEntries p (without_zeros cells)
without_entries p cells rising low = record { ascending = rising; positive = none_zero cells; residues = all_without (λ c. c.val < p) cells low }
