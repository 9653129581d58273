-- How many pairs have an entry in a column, and which are ready.
use Rattle.std.proofs.Common.{ℕ, ◌≡◌, ◌≢◌, ◌+◌, ◌<◌, ◌≤◌, ◌⊎◌, eqb, List, [], ◌∷◌, ◌++◌, length, inl, inr, ⊎_elim, sym, refl, ap, subst, ◌∙◌, arith, eq-eqb, ne_eqb}
use Rattle.std.specs.List.{Contains}
use Rattle.std.proofs.lemmas.Bool.{cases_eq, cond-true, cond-false}
use Rattle.std.proofs.lemmas.List.Elements.{Contains-append_right}
use Rattle.residue_words.specs.Matrix.{Matrix, entry}
use Rattle.residue_words.specs.declared.plain.Pair.{Pair}
use Rattle.residue_words.proofs.Lists.{not_in_nil, in_head, in_tail, in_cases, cut_at, middle_more, middle_cases}
use Rattle.pivot_table.proofs.Orders.{IsChain}
use Rattle.triangular_solve.specs.Listing.{entry_flag, column_count}
use Rattle.pivot_table.specs.Order.{IsReady}

pub flag_zero : (A : Matrix) (r d : ℕ) → entry A r d ≡ 0 → entry_flag A r d ≡ 0
flag_zero A r d e = cond-true (eqb (entry A r d) 0) 0 1 (eq-eqb (entry A r d) 0 e)

pub flag_one : (A : Matrix) (r d : ℕ) → entry A r d ≢ 0 → entry_flag A r d ≡ 1
flag_one A r d n = cond-false (eqb (entry A r d) 0) 0 1 (ne_eqb (entry A r d) 0 n)

zero_of_flag : (A : Matrix) (r d : ℕ) → entry_flag A r d ≡ 0 → entry A r d ≡ 0
zero_of_flag A r d z = elim (cases_eq (entry A r d) 0) [ inl y ↦ y | inr n ↦ absurd (omega (arith, flag_one A r d n)) ]

module _ (A : Matrix) where
  pub count_middle : (us : List Pair) (q : Pair) (vs : List Pair) (d : ℕ) → column_count A (us ++ q ∷ vs) d ≡ entry_flag A q.row d + column_count A (us ++ vs) d
  count_middle [] q vs d = refl
  count_middle (u ∷ us) q vs d = let e = count_middle us q vs d in omega arith

  pub count_push : (us : List Pair) (q : Pair) (d : ℕ) → column_count A (us ++ q ∷ []) d ≡ column_count A us d + entry_flag A q.row d
  count_push [] q d = omega arith
  count_push (u ∷ us) q d = let e = count_push us q d in omega arith

  pub count_none : (qs : List Pair) (d : ℕ) → ((p : Pair) → Contains qs p → entry A p.row d ≡ 0) → column_count A qs d ≡ 0
  count_none [] d none = refl
  count_none (q ∷ qs) d none =
      let a = flag_zero A q.row d (none q (in_head q qs)) in
      let b = count_none qs d (λ p m. none p (in_tail q qs p m)) in
      omega arith

  pub none_counted : (qs : List Pair) (d : ℕ) → column_count A qs d ≡ 0 → (p : Pair) → Contains qs p → entry A p.row d ≡ 0
  none_counted [] d z p m = absurd (not_in_nil p m)
  none_counted (q ∷ qs) d z p m = ⊎_elim
      (λ (e : q ≡ p). subst (λ (x : Pair). entry A x.row d ≡ 0) e (zero_of_flag A q.row d (omega arith)))
      (λ t. none_counted qs d (omega arith) p t)
      (in_cases q qs p m)

  pub count_few : (qs : List Pair) (d : ℕ) → column_count A qs d ≤ length qs
  count_few [] d = omega arith
  count_few (q ∷ qs) d = let h = count_few qs d in elim (cases_eq (entry A q.row d) 0) [
    | inl z ↦ omega (arith, flag_zero A q.row d z)
    | inr n ↦ omega (arith, flag_one A q.row d n)
  ]

  pub count_some : (qs : List Pair) (q : Pair) (d : ℕ) → Contains qs q → entry A q.row d ≢ 0 → 0 < column_count A qs d
  count_some qs q d m n = elim (cases_eq (column_count A qs d) 0) [ inl z ↦ absurd (n (none_counted qs d z q m)) | inr k ↦ omega arith ]

-- each pair stands in a column of its own
abbrev pub AreApart : List Pair → Type 0
AreApart [] = Unit {0}
AreApart (q ∷ qs) = ((p : Pair) → Contains qs p → p.col ≢ q.col) × AreApart qs

-- one pair goes out of a list
pub apart_less : (us : List Pair) (q : Pair) (vs : List Pair) → AreApart (us ++ q ∷ vs) → AreApart (us ++ vs) × ((p : Pair) → Contains (us ++ vs) p → p.col ≢ q.col)
apart_less [] q vs a = (a.1, a.0)
apart_less (u ∷ us) q vs a =
    let t = apart_less us q vs a.1 in (
      ((λ p m. a.0 p (middle_more us q vs p m)), t.0),
      (λ p m. ⊎_elim
          (λ e same. a.0 q (Contains-append_right us (q ∷ vs) q (in_head q vs)) (sym same ∙ sym (ap (λ (x : Pair). x.col) e)))
          (t.1 p) (in_cases u (us ++ vs) p m)),
    )

-- where only its own row has an entry in its column, a pair is ready, and conversely
module _ (A : Matrix) (left : List Pair) (apart : AreApart left) (q : Pair) (m : Contains left q) (n : entry A q.row q.col ≢ 0) where
  pub ready_counted : IsReady A left q → column_count A left q.col ≡ 1
  ready_counted ready =
      let c = cut_at left q m in
      let off = apart_less c.0 q c.1 (subst AreApart c.2 apart) in
      let none = count_none A (c.0 ++ c.1) q.col (λ p k. ready p (subst (λ (l : List Pair). Contains l p) (sym c.2) (middle_more c.0 q c.1 p k)) (off.1 p k)) in
      ap (λ (l : List Pair). column_count A l q.col) c.2 ∙ omega (arith, count_middle A c.0 q c.1 q.col, flag_one A q.row q.col n)

  pub counted_ready : column_count A left q.col ≡ 1 → IsReady A left q
  counted_ready one p k d =
      let c = cut_at left q m in
      let whole = ap (λ (l : List Pair). column_count A l q.col) c.2 in
      let none : column_count A (c.0 ++ c.1) q.col ≡ 0 = omega (arith, count_middle A c.0 q c.1 q.col, flag_one A q.row q.col n) in
      ⊎_elim
      (λ e. absurd (d (sym (ap (λ (x : Pair). x.col) e))))
      (λ t. none_counted A (c.0 ++ c.1) q.col none p t)
      (middle_cases c.0 q c.1 p (subst (λ (l : List Pair). Contains l p) c.2 k))

-- among pairs of a chain one is ready: the first of the chain that is left
decide_pair : (left : List Pair) (x : Pair) → Contains left x ⊎ ¬ Contains left x
decide_pair [] x = inr (not_in_nil x)
decide_pair (y ∷ ys) x = elim (cases_eq y.row x.row) [
  | inl e ↦ elim (cases_eq y.col x.col) [
    | inl f ↦ (let same : y ≡ x = λ i. record { row = e i; col = f i } in inl (subst (Contains (y ∷ ys)) same (in_head y ys)))
    | inr d ↦ later y ys x (λ s. d (ap (λ (z : Pair). z.col) s)) (decide_pair ys x)
  ]
  | inr d ↦ later y ys x (λ s. d (ap (λ (z : Pair). z.row) s)) (decide_pair ys x)
]
  where
    later : (y : Pair) (ys : List Pair) (x : Pair) → ¬ (y ≡ x) → Contains ys x ⊎ ¬ Contains ys x → Contains (y ∷ ys) x ⊎ ¬ Contains (y ∷ ys) x
    later y ys x d t = ⊎_elim (λ m. inl (in_tail y ys x m)) (λ n. inr (λ m. ⊎_elim d n (in_cases y ys x m))) t

pub some_ready : (A : Matrix) (o left : List Pair) → IsChain A o → ((p : Pair) → Contains left p → Contains o p) → (w : Pair) → Contains left w → (q : Pair) × Contains left q × IsReady A left q
some_ready A [] left c within w m = absurd (not_in_nil w (within w m))
some_ready A (x ∷ xs) left c within w m = ⊎_elim
    (λ here. (x, here, (λ p k d. ⊎_elim (λ e. absurd (d (sym (ap (λ (z : Pair). z.col) e)))) (λ t. c.1 p t) (in_cases x xs p (within p k)))))
    (λ gone. some_ready A xs left c.2 (λ p k. ⊎_elim (λ e. absurd (gone (subst (Contains left) (sym e) k))) (λ t. t) (in_cases x xs p (within p k))) w m)
    (decide_pair left x)
