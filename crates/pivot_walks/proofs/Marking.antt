-- Marks: a column comes in, all go out.
use Rattle.std.proofs.Common.{ℕ, ◌≡◌, ◌≢◌, ◌+◌, ◌<◌, ◌≤◌, Bool, true, false, List, [], ◌∷◌, ◌++◌, length, slice_index, slice_index_or, slice_set, inl, inr, sym, ap, subst, ◌∙◌, arith}
use Rattle.std.specs.List.{Contains}
use Rattle.std.proofs.lemmas.Bool.{cases_eq, cases_lt, false≢true}
use Rattle.std.proofs.lemmas.List.{length-set, get_or-set_same, get_or-set_other, get_or_append_left, get_or_push, length_push}
use Rattle.std.proofs.lemmas.List.Elements.{Contains-append_left, Contains-push}
use Rattle.row_space.proofs.Counting.{pigeonhole}
use Rattle.residue_words.proofs.Lists.{contains_at}
use Rattle.pivot_walks.specs.MarkedColumns.{AreFlagsOf}

pub at_old : (list : List ℕ) (j k : ℕ) → k < length list → slice_index (list ++ j ∷ []) k ≡ slice_index list k
at_old list j k l = get_or_append_left list (j ∷ []) 0 k l

pub at_new : (list : List ℕ) (j k : ℕ) → k ≡ length list → slice_index (list ++ j ∷ []) k ≡ j
at_new list j k e = get_or_push list j 0 k (sym e)

module _ (list : List ℕ) (j : ℕ) (distinct : (k t : ℕ) → k < t → t < length list → slice_index list k ≢ slice_index list t) (fresh : ¬ Contains list j) where
  pub distinct_push : (k t : ℕ) → k < t → t < length (list ++ j ∷ []) → slice_index (list ++ j ∷ []) k ≢ slice_index (list ++ j ∷ []) t
  distinct_push k t less l e =
      let n = length_push list j in
      let old : k < length list = omega arith in
      elim (cases_lt t (length list)) [
        | inl lt ↦ distinct k t less lt (sym (at_old list j k old) ∙ e ∙ at_old list j t lt)
        | inr le ↦ fresh (contains_at list k j old (sym (at_old list j k old) ∙ e ∙ at_new list j t (omega arith)))
      ]

  pub fewer : (n : ℕ) → ((k : ℕ) → k < length list → slice_index list k < n) → j < n → length list < n
  fewer n inside l =
      let e = length_push list j in
      let h : length list + 1 ≤ n = pigeonhole (length list + 1) n (slice_index (list ++ j ∷ []))
      (λ x lx. elim (cases_lt x (length list)) [
        | inl lt ↦ subst (λ y. y < n) (sym (at_old list j x lt)) (inside x lt)
        | inr le ↦ subst (λ y. y < n) (sym (at_new list j x (omega arith))) l
      ])
      (λ x y lx ly same. elim (cases_eq x y) [
        | inl s ↦ s
        | inr d ↦ elim (cases_lt x y) [
          | inl lt ↦ absurd (distinct_push x y lt (omega arith) same)
          | inr ge ↦ absurd (distinct_push y x (omega arith) (omega arith) (sym same))
        ]
      ]) in
      omega arith

pub marked : {flags : List Bool} {list : List ℕ} {room : ℕ} → AreFlagsOf flags list room → (j : ℕ) → j < length flags → ¬ Contains list j → AreFlagsOf (slice_set flags j true) (list ++ j ∷ []) room
marked {flags} {list} {room} m j l fresh = record {
  enough = omega (arith, length-set flags j true, m.enough);
  inside = λ k lk. elim (cases_lt k (length list)) [
    | inl lt ↦ subst (λ y. y < length (slice_set flags j true)) (sym (at_old list j k lt)) (omega (arith, length-set flags j true, m.inside k lt))
    | inr le ↦ subst (λ y. y < length (slice_set flags j true)) (sym (at_new list j k (omega (arith, length_push list j)))) (omega (arith, length-set flags j true))
  ];
  true_inside = λ k lk. elim (cases_lt k (length list)) [
    | inl lt ↦ ap (λ y. slice_index_or (slice_set flags j true) y false) (at_old list j k lt)
        ∙ elim (cases_eq (slice_index list k) j) [
          | inl e ↦ ap (λ y. slice_index_or (slice_set flags j true) y false) e ∙ get_or-set_same flags j true false l
          | inr d ↦ get_or-set_other flags j (slice_index list k) true false d ∙ m.true_inside k lt
        ]
    | inr le ↦ ap (λ y. slice_index_or (slice_set flags j true) y false) (at_new list j k (omega (arith, length_push list j))) ∙ get_or-set_same flags j true false l
  ];
  listed = λ i li e. elim (cases_eq i j) [
    | inl s ↦ subst (Contains (list ++ j ∷ [])) (sym s) (Contains-push list j)
    | inr d ↦ Contains-append_left list (j ∷ []) i (m.listed i (omega (arith, length-set flags j true)) (sym (get_or-set_other flags j i true false d) ∙ e))
  ];
  distinct = distinct_push list j m.distinct fresh;
}

pub new_marks : (flags : List Bool) (room : ℕ) → length flags ≤ room → ((j : ℕ) → slice_index_or flags j false ≡ false) → AreFlagsOf flags [] room
new_marks flags room enough none = record {
  enough = enough;
  inside = λ t lt. absurd (let x : t < length {A = ℕ} [] = lt in omega arith);
  true_inside = λ t lt. absurd (let x : t < length {A = ℕ} [] = lt in omega arith);
  listed = λ j lj t. absurd (false≢true (sym (none j) ∙ t));
  distinct = λ a b ab lb. absurd (let x : b < length {A = ℕ} [] = lb in omega arith);
}

pub many_marks : {flags : List Bool} {list : List ℕ} {room : ℕ} → AreFlagsOf flags list room → length list ≤ length flags
many_marks {flags} {list} {room} m = pigeonhole (length list) (length flags) (slice_index list) m.inside
    (λ x y lx ly same. elim (cases_eq x y) [
      | inl s ↦ s
      | inr d ↦ elim (cases_lt x y) [
        | inl lt ↦ absurd (m.distinct x y lt ly same)
        | inr ge ↦ absurd (m.distinct y x (omega arith) lx (sym same))
      ]
    ])
