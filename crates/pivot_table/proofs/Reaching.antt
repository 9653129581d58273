-- Paths, and what a row reaches; both can be decided.
use Rattle.std.proofs.Common.{◌≡◌, ◌≢◌, ℕ, ◌<◌, ◌⊎◌, List, [], ◌∷◌, ◌++◌, sym, refl, ap, inl, inr, ⊎_elim, subst}
use Rattle.std.specs.List.{Contains}
use Rattle.residue_words.specs.Matrix.{Matrix, entry}
use Rattle.residue_words.specs.declared.plain.Pair.{Pair}
use Rattle.residue_words.proofs.Deciding.{Decided, decide_below, decide_both, decide_equal, decide_in, decide_less, decide_not, decide_three}
use Rattle.residue_words.proofs.Lists.{not_in_nil, in_head, in_tail, in_cases}
use Rattle.pivot_table.specs.History.{pair, Nonzero, HasRow, HasCol, Step, Path, Reaches, Alive, Dead, Maximal}

abbrev pub IsPathTo : Matrix → List Pair → ℕ → ℕ → Type 0
IsPathTo A h c e = (ds : List ℕ) × Path A h c ds e

module _ (A : Matrix) where
  abbrev pub decide_nonzero : (i j : ℕ) → Decided (Nonzero A i j)
  decide_nonzero i j = decide_three (decide_less i A.height) (decide_less j A.width) (decide_not (decide_equal (entry A i j) 0))

  -- paths go on
  pub path_snoc : (h : List Pair) (c : ℕ) (ds : List ℕ) (e d : ℕ) → Path A h c ds e → Step A h e d → Path A h c (ds ++ d ∷ []) d
  path_snoc h c [] e d p s = (subst (λ x. Step A h x d) (sym p) s, refl)
  path_snoc h c (x ∷ ds) e d p s = (p.0, path_snoc h x ds e d p.1 s)

  pub path_join : (h : List Pair) (c : ℕ) (ds : List ℕ) (e : ℕ) (es : List ℕ) (f : ℕ) → Path A h c ds e → Path A h e es f → Path A h c (ds ++ es) f
  path_join h c [] e es f p s = subst (λ x. Path A h x es f) (sym p) s
  path_join h c (x ∷ ds) e es f p s = (p.0, path_join h x ds e es f p.1 s)

  -- a path over no pair stays
  pub path_none : (c : ℕ) (ds : List ℕ) (e : ℕ) → Path A [] c ds e → c ≡ e
  path_none c [] e p = p
  path_none c (d ∷ ds) e p = absurd (not_in_nil (pair p.0.0 c) p.0.1)

  -- a pair more does no harm
  pub path_cons : (q : Pair) (h : List Pair) (c : ℕ) (ds : List ℕ) (e : ℕ) → Path A h c ds e → Path A (q ∷ h) c ds e
  path_cons q h c [] e p = p
  path_cons q h c (d ∷ ds) e p = ((p.0.0, in_tail q h (pair p.0.0 c) p.0.1, p.0.2, p.0.3), path_cons q h d ds e p.1)

  -- from the column of q a path goes on over the other pairs
  abbrev pub Leaves : Pair → List Pair → ℕ → ℕ → Type 0
  Leaves q h e d = Nonzero A q.row d × (d ≢ q.col) × IsPathTo A h d e

  abbrev pub Via : Pair → List Pair → ℕ → ℕ → Type 0
  Via q h c e = IsPathTo A h c q.col × ((d : ℕ) × (d < A.width) × Leaves q h e d)

  pub path_less : (q : Pair) (h : List Pair) (c : ℕ) (ds : List ℕ) (e : ℕ) → Path A (q ∷ h) c ds e → IsPathTo A h c e ⊎ Via q h c e
  path_less q h c [] e p = inl ([], p)
  path_less q h c (d ∷ ds) e p = ⊎_elim
      (λ (is : q ≡ pair p.0.0 c).
      let col : c ≡ q.col = sym (ap (λ (x : Pair). x.col) is) in
      let row : p.0.0 ≡ q.row = sym (ap (λ (x : Pair). x.row) is) in
      ⊎_elim
      (λ t. inr (([], col), (d, p.0.2.1, (subst (λ s. Nonzero A s d) row p.0.2, subst (λ x. d ≢ x) col p.0.3, t))))
      (λ t. inr (([], col), t.1))
      (path_less q h d ds e p.1))
      (λ (inside : Contains h (pair p.0.0 c)). ⊎_elim
      (λ t. inl (d ∷ t.0, ((p.0.0, inside, p.0.2, p.0.3), t.1)))
      (λ t. inr ((d ∷ t.0.0, ((p.0.0, inside, p.0.2, p.0.3), t.0.1)), t.1))
      (path_less q h d ds e p.1))
      (in_cases q h (pair p.0.0 c) p.0.1)

  -- whether a path leads from c to e
  abbrev pub decide_path : (h : List Pair) (c e : ℕ) → Decided (IsPathTo A h c e)
  decide_path [] c e = ⊎_elim (λ y. inl ([], y)) (λ n. inr (λ t. n (path_none c t.0 e t.1))) (decide_equal c e)
  decide_path (q ∷ h) c e = ⊎_elim
      (λ t. inl (t.0, path_cons q h c t.0 e t.1))
      (λ none. ⊎_elim
      (λ (t : Via q h c e). inl (
        t.0.0 ++ t.1.0 ∷ t.1.2.2.0,
        path_join (q ∷ h) c t.0.0 q.col (t.1.0 ∷ t.1.2.2.0) e
            (path_cons q h c t.0.0 q.col t.0.1)
            ((q.row, in_head q h, t.1.2.0, t.1.2.1), path_cons q h t.1.0 t.1.2.2.0 e t.1.2.2.1),
      ))
      (λ not_via. inr (λ t. ⊎_elim none not_via (path_less q h c t.0 e t.1)))
      (decide_both (decide_path h c q.col) (decide_below (Leaves q h e)
      (λ d. decide_three (decide_nonzero q.row d) (decide_not (decide_equal d q.col)) (decide_path h d e)) A.width)))
      (decide_path h c e)

  -- whether a row reaches a column
  abbrev pub decide_reach : (h : List Pair) (r e : ℕ) → Decided (Reaches A h r e)
  decide_reach h r e = ⊎_elim
      (λ t. inl (t.0.col, t.2.1.0, (t.0, t.1, refl), t.2.0, t.2.1.1))
      (λ none. inr (λ t. none (t.2.0, t.2.1, (subst (λ c. Nonzero A r c) (sym t.2.2) t.3, (t.1, subst (λ c. Path A h c t.1 e) (sym t.2.2) t.4)))))
      (decide_in (λ (p : Pair). Nonzero A r p.col × IsPathTo A h p.col e) (λ p. decide_both (decide_nonzero r p.col) (decide_path h p.col e)) h)

  -- a pivotal column of the support is reached, and what a step leads to from there
  pub reaches_support : (h : List Pair) (r c : ℕ) → HasCol h c → Nonzero A r c → Reaches A h r c
  reaches_support h r c has n = (c, [], has, n, refl)

  pub reaches_step : (h : List Pair) (r c d : ℕ) → Reaches A h r c → Step A h c d → Reaches A h r d
  reaches_step h r c d t s = (t.0, t.1 ++ d ∷ [], t.2, t.3, path_snoc h t.0 t.1 c d t.4 s)

  -- whether an entry is alive, whether a row is dead, and whether a list is maximal
  abbrev pub decide_row : (h : List Pair) (r : ℕ) → Decided (HasRow h r)
  decide_row h r = decide_in (λ (q : Pair). q.row ≡ r) (λ q. decide_equal q.row r) h

  abbrev pub decide_col : (h : List Pair) (c : ℕ) → Decided (HasCol h c)
  decide_col h c = decide_in (λ (q : Pair). q.col ≡ c) (λ q. decide_equal q.col c) h

  abbrev pub decide_alive : (h : List Pair) (r j : ℕ) → Decided (Alive A h r j)
  decide_alive h r j = ⊎_elim
      (λ t. inl (record { entry = t.0; fresh_row = t.1.0; fresh_col = t.1.1; unreached = t.1.2 }))
      (λ n. inr (λ a. n (a.entry, (a.fresh_row, a.fresh_col, a.unreached))))
      (decide_both (decide_nonzero r j) (decide_three (decide_not (decide_row h r)) (decide_not (decide_col h j)) (decide_not (decide_reach h r j))))

  abbrev pub decide_dead : (h : List Pair) (r : ℕ) → Decided (Dead A h r)
  decide_dead h r = ⊎_elim
      (λ t. inr (λ dead. dead t.0 t.2))
      (λ none. inl (λ j a. none (j, a.entry.1, a)))
      (decide_below (Alive A h r) (decide_alive h r) A.width)

  abbrev pub decide_maximal : (h : List Pair) → Decided (Maximal A h)
  decide_maximal h = ⊎_elim
      (λ t. inr (λ maximal. t.2 (maximal t.0)))
      (λ none. inl (λ r j a. ⊎_elim (λ dead. dead j a) (λ alive. none (r, a.entry.0, alive)) (decide_dead h r)))
      (decide_below (λ r. ¬ Dead A h r) (λ r. decide_not (decide_dead h r)) A.height)
