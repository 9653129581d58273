-- Columns renamed: where a matrix has the columns of another under rising names, and that one has no entry elsewhere, the same is
-- alive in both.
use Rattle.std.proofs.Common.{ℕ, zero, suc, ◌≡◌, ◌+◌, ◌<◌, ◌≤◌, List, [], ◌∷◌, ◌++◌, map, length, slice_index, slice_index_or, take, inl, inr, ⊎_elim, sym, refl, ap, subst, ◌∙◌, arith}
use Rattle.std.specs.List.{Contains}
use Rattle.std.proofs.lemmas.Bool.{cases_eq, cases_lt}
use Rattle.std.proofs.lemmas.List.{length-append, length-map, map_push, take-map, take_more}
use Rattle.std.proofs.Math.Seq.{take-append_seam}
use Rattle.std.proofs.lemmas.List.Elements.{Contains-push_cases}
use Rattle.residue_words.specs.Matrix.{Matrix, entry}
use Rattle.residue_words.specs.declared.plain.Pair.{Pair}
use Rattle.residue_words.proofs.Lists.{not_in_nil, in_head, in_tail, in_cases, place_in}
use Rattle.residue_words.proofs.Vectors.{entry_matrix_of}
use Rattle.sparse_rows.specs.Rows.{AreEnough, narrowed}
use Rattle.pivot_table.specs.History.{pair, Alive, Dead, HasCol, HasRow, Grown, LeastAlive, Nonzero, Path, Reaches, StartsWith, Step}
use Rattle.pivot_table.specs.Greedy.{IsTried, IsGreedy, IsGreedyBelow}
use Rattle.pivot_table.specs.Greedy.IsTried.{dead, taken}
use Rattle.pivot_table.proofs.Growth.{pair_nonzero}
use Rattle.optimistic_search.specs.Renamed.{AreInside, renamed}
use Rattle.optimistic_search.proofs.Searching.{grown_at, grown_front}

-- B has the columns f of A, which rise, and A has no entry elsewhere
pub record IsNarrow (A B : Matrix) (f : ℕ → ℕ) : Type 0 where
  pub height : B.height ≡ A.height
  pub below : (c : ℕ) → c < B.width → f c < A.width
  pub same : (i c : ℕ) → i < B.height → c < B.width → entry B i c ≡ entry A i (f c)
  pub rising : (c d : ℕ) → c < d → d < B.width → f c < f d
  pub all : (i j : ℕ) → Nonzero A i j → (c : ℕ) × (c < B.width) × (f c ≡ j)

-- a renamed pair comes of a pair
pub in_renamed : (f : ℕ → ℕ) (h : List Pair) (q : Pair) → Contains (renamed f h) q → (p : Pair) × Contains h p × (p.row ≡ q.row) × (f p.col ≡ q.col)
in_renamed f [] q m = absurd (not_in_nil q m)
in_renamed f (x ∷ h) q m = ⊎_elim
    (λ e. (x, in_head x h, ap (λ (y : Pair). y.row) e, ap (λ (y : Pair). y.col) e))
    (λ t. let p = in_renamed f h q t in (p.0, in_tail x h p.0 p.1, p.2, p.3))
    (in_cases (pair x.row (f x.col)) (renamed f h) q m)

pub renamed_in : (f : ℕ → ℕ) (h : List Pair) (p : Pair) → Contains h p → Contains (renamed f h) (pair p.row (f p.col))
renamed_in f [] p m = absurd (not_in_nil p m)
renamed_in f (x ∷ h) p m = ⊎_elim
    (λ e. subst (λ (y : Pair). Contains (renamed f (x ∷ h)) (pair y.row (f y.col))) e (in_head (pair x.row (f x.col)) (renamed f h)))
    (λ t. in_tail (pair x.row (f x.col)) (renamed f h) (pair p.row (f p.col)) (renamed_in f h p t))
    (in_cases x h p m)

module _ {A B : Matrix} {f : ℕ → ℕ} (w : IsNarrow A B f) where
  one_name : (c d : ℕ) → c < B.width → d < B.width → f c ≡ f d → c ≡ d
  one_name c d lc ld e = elim (cases_eq c d) [
    | inl s ↦ s
    | inr ne ↦ elim (cases_lt c d) [
      | inl lt ↦ absurd (omega (arith, w.rising c d lt ld))
      | inr ge ↦ absurd (omega (arith, w.rising d c (omega arith) lc))
    ]
  ]

  pub there : (r c : ℕ) → Nonzero B r c → Nonzero A r (f c)
  there r c n = (omega (arith, n.0, w.height), w.below c n.1, (λ z. n.2 (w.same r c n.0 n.1 ∙ z)))

  pub here : (r c : ℕ) → c < B.width → Nonzero A r (f c) → Nonzero B r c
  here r c l n = let lr : r < B.height = omega (arith, n.0, w.height) in (lr, l, (λ z. n.2 (sym (w.same r c lr l) ∙ z)))

  module _ (h : List Pair) (inside : AreInside B.width h) where
    -- the pair of a renamed column
    pair_here : (s c : ℕ) → c < B.width → Contains (renamed f h) (pair s (f c)) → Contains h (pair s c)
    pair_here s c l m =
        let p = in_renamed f h (pair s (f c)) m in
        let col : p.0.col ≡ c = one_name p.0.col c (inside p.0 p.1) l p.3 in
        subst (λ x. Contains h (pair s x)) col (subst (λ x. Contains h (pair x p.0.col)) p.2 p.1)

    row_there : (r : ℕ) → HasRow h r → HasRow (renamed f h) r
    row_there r t = (pair t.0.row (f t.0.col), renamed_in f h t.0 t.1, t.2)

    row_here : (r : ℕ) → HasRow (renamed f h) r → HasRow h r
    row_here r t = let p = in_renamed f h t.0 t.1 in (p.0, p.1, p.2 ∙ t.2)

    col_there : (c : ℕ) → HasCol h c → HasCol (renamed f h) (f c)
    col_there c t = (pair t.0.row (f t.0.col), renamed_in f h t.0 t.1, ap f t.2)

    col_here : (j : ℕ) → HasCol (renamed f h) j → (c : ℕ) × (c < B.width) × (f c ≡ j) × HasCol h c
    col_here j t = let p = in_renamed f h t.0 t.1 in (p.0.col, inside p.0 p.1, p.3 ∙ t.2, (p.0, p.1, refl))

    path_there : (c : ℕ) (ds : List ℕ) (e : ℕ) → c < B.width → Path B h c ds e → Path A (renamed f h) (f c) (map f ds) (f e)
    path_there c [] e l p = ap f p
    path_there c (d ∷ ds) e l p =
        let s = p.0 in
        ((s.0, renamed_in f h (pair s.0 c) s.1, there s.0 d s.2, (λ z. s.3 (one_name d c s.2.1 l z))), path_there d ds e s.2.1 p.1)

    path_here : (c : ℕ) (ds : List ℕ) (j : ℕ) → c < B.width → Path A (renamed f h) (f c) ds j →
        (e : ℕ) × (es : List ℕ) × (e < B.width) × (f e ≡ j) × Path B h c es e
    path_here c [] j l p = (c, [], l, p, refl)
    path_here c (d ∷ ds) j l p =
        let s = p.0 in
        let to = w.all s.0 d s.2 in
        let rest = path_here to.0 ds j to.1 (subst (λ x. Path A (renamed f h) x ds j) (sym to.2) p.1) in
        let step : Step B h c to.0 = (s.0, pair_here s.0 c l s.1, here s.0 to.0 to.1 (subst (Nonzero A s.0) (sym to.2) s.2), (λ z. s.3 (sym to.2 ∙ ap f z))) in
        (rest.0, to.0 ∷ rest.1, rest.2, rest.3, (step, rest.4))

    reaches_there : (r e : ℕ) → Reaches B h r e → Reaches A (renamed f h) r (f e)
    reaches_there r e t = (f t.0, map f t.1, col_there t.0 t.2, there r t.0 t.3, path_there t.0 t.1 e t.3.1 t.4)

    reaches_here : (r e : ℕ) → e < B.width → Reaches A (renamed f h) r (f e) → Reaches B h r e
    reaches_here r e l t =
        let c = col_here t.0 t.2 in
        let p = path_here c.0 t.1 (f e) c.1 (subst (λ x. Path A (renamed f h) x t.1 (f e)) (sym c.2) t.4) in
        let same : p.0 ≡ e = one_name p.0 e p.2 l p.3 in
        subst (Reaches B h r) same (c.0, p.1, c.3, here r c.0 c.1 (subst (Nonzero A r) (sym c.2) t.3), p.4)

    pub alive_there : (r c : ℕ) → Alive B h r c → Alive A (renamed f h) r (f c)
    alive_there r c a = record {
      entry = there r c a.entry;
      fresh_row = λ t. a.fresh_row (row_here r t);
      fresh_col = λ t. let d = col_here (f c) t in a.fresh_col (subst (HasCol h) (one_name d.0 c d.1 a.entry.1 d.2) d.3);
      unreached = λ t. a.unreached (reaches_here r c a.entry.1 t);
    }

    pub alive_here : (r c : ℕ) → c < B.width → Alive A (renamed f h) r (f c) → Alive B h r c
    alive_here r c l a = record {
      entry = here r c l a.entry;
      fresh_row = λ t. a.fresh_row (row_there r t);
      fresh_col = λ t. a.fresh_col (col_there c t);
      unreached = λ t. a.unreached (reaches_there r c t);
    }

    least_there : (r c : ℕ) → LeastAlive B h r c → LeastAlive A (renamed f h) r (f c)
    least_there r c l = (
      alive_there r c l.0,
      (λ k less a.
          let d = w.all r k a.entry in
          elim (cases_lt d.0 c) [
            | inl lt ↦ l.1 d.0 lt (alive_here r d.0 d.1 (subst (Alive A (renamed f h) r) (sym d.2) a))
            | inr ge ↦ elim (cases_eq d.0 c) [
              | inl e ↦ absurd (omega (arith, d.2, ap f e))
              | inr ne ↦ absurd (omega (arith, d.2, w.rising c d.0 (omega arith) d.1))
            ]
          ]),
    )

    dead_there : (r : ℕ) → Dead B h r → Dead A (renamed f h) r
    dead_there r d j a = let c = w.all r j a.entry in d c.0 (alive_here r c.0 c.1 (subst (Alive A (renamed f h) r) (sym c.2) a))

  pub inside_more : (h : List Pair) (q : Pair) → AreInside B.width h → q.col < B.width → AreInside B.width (h ++ q ∷ [])
  inside_more h q inside l p m = ⊎_elim (inside p) (λ e. subst (λ (y : Pair). y.col < B.width) e l) (Contains-push_cases h q p m)

  tried_there : (r : ℕ) (h g : List Pair) → AreInside B.width h → IsTried B r h g → AreInside B.width g × IsTried A r (renamed f h) (renamed f g)
  tried_there r h g inside (dead d) = (inside, dead (dead_there h inside r d))
  tried_there r h g inside (taken j l) = (
    inside_more h (pair r j) inside l.0.entry.1,
    subst (IsTried A r (renamed f h)) (sym (map_push (λ (q : Pair). pair q.row (f q.col)) h (pair r j))) (taken (f j) (least_there h inside r j l)),
  )

  greedy_below : (start h : List Pair) (n : ℕ) → AreInside B.width start → IsGreedyBelow B start n h → AreInside B.width h × IsGreedyBelow A (renamed f start) n (renamed f h)
  unfolding IsGreedyBelow
  greedy_below start h zero inside g = (subst (AreInside B.width) (sym g) inside, ap (renamed f) g)
  greedy_below start h (suc n) inside g =
      let before = greedy_below start g.0 n inside g.1 in
      let last = tried_there n g.0 h before.0 g.2 in
      (last.0, (renamed f g.0, before.1, last.1))

  pub greedy_there : (start h : List Pair) → AreInside B.width start → IsGreedyBelow B start B.height h → IsGreedyBelow A (renamed f start) A.height (renamed f h)
  greedy_there start h inside g = subst (λ n. IsGreedyBelow A (renamed f start) n (renamed f h)) w.height (greedy_below start h B.height inside g).1

-- a matrix and the one of enough of its columns
pub narrow_of : {A N : Matrix} {columns : List ℕ} → AreEnough A columns → N ≡ narrowed A columns → IsNarrow A N (slice_index columns)
narrow_of {A} {N} {columns} enough e = subst (λ M. IsNarrow A M (slice_index columns)) (sym e) (record {
  height = refl;
  below = enough.below;
  same = λ i c l b. entry_matrix_of A.height (length columns) (λ i k. entry A i (slice_index columns k)) i c l b;
  rising = enough.rising;
  all = λ i j n. place_in columns j (enough.all i j n.0 n.1 n.2);
})

module _ (f : ℕ → ℕ) where
  -- what the narrow pairs begin with
  pub start_widened : (found start : List Pair) → StartsWith (renamed f found) start → start ≡ renamed f (take (length start) found)
  start_widened found start s =
      sym (take-append_seam start s.0) ∙ ap (take (length start)) (sym s.1) ∙ take-map (λ (q : Pair). pair q.row (f q.col)) (length start) found

  pub start_short : (found start : List Pair) → StartsWith (renamed f found) start → length start ≤ length found
  start_short found start s = omega (arith, ap length s.1, length-append start s.0, length-map found (λ (q : Pair). pair q.row (f q.col)))

  -- one pair more
  pub more_widened : (found : List Pair) (k : ℕ) (d : Pair) → k < length found →
      renamed f (take (k + 1) found) ≡ renamed f (take k found) ++ pair (slice_index_or found k d).row (f (slice_index_or found k d).col) ∷ []
  more_widened found k d l = ap (renamed f) (take_more found k d l) ∙ map_push (λ (q : Pair). pair q.row (f q.col)) (take k found) (slice_index_or found k d)

  pub more_narrowed : (h pairs : List Pair) (k c : ℕ) (d : Pair) → renamed f h ≡ take k pairs → k < length pairs → f c ≡ (slice_index_or pairs k d).col →
      renamed f (h ++ pair (slice_index_or pairs k d).row c ∷ []) ≡ take (k + 1) pairs
  more_narrowed h pairs k c d same l e =
      let q : Pair = slice_index_or pairs k d in
      map_push (λ (q : Pair). pair q.row (f q.col)) h (pair q.row c) ∙ ap (λ (x : List Pair). x ++ pair q.row (f c) ∷ []) same
      ∙ ap (λ x. take k pairs ++ pair q.row x ∷ []) e ∙ sym (take_more pairs k d l)

-- the columns of a grown list are inside
pub grown_inside : (B : Matrix) (h : List Pair) → Grown B h → AreInside B.width h
grown_inside B h g q m = (pair_nonzero B h g q m).1

-- the column of a pair is one of enough columns
pub column_among : {A : Matrix} {columns : List ℕ} (pairs : List Pair) (k : ℕ) (d : Pair) → AreEnough A columns → Grown A pairs → k < length pairs → Contains columns (slice_index_or pairs k d).col
column_among {A} {columns} pairs k d enough g l =
    let n = (grown_at A pairs k d g l).entry in
    enough.all (slice_index_or pairs k d).row (slice_index_or pairs k d).col n.0 n.1 n.2

module _ {A B : Matrix} {f : ℕ → ℕ} (w : IsNarrow A B f) where
  -- the next pair is alive in the narrow matrix
  pub next_narrowed : (h pairs : List Pair) (k c : ℕ) (d : Pair) → AreInside B.width h → renamed f h ≡ take k pairs → Grown A pairs → k < length pairs →
      c < B.width → f c ≡ (slice_index_or pairs k d).col → Alive B h (slice_index_or pairs k d).row c
  next_narrowed h pairs k c d inside same g l b e =
      let q : Pair = slice_index_or pairs k d in
      alive_here w h inside q.row c b (subst (λ x. Alive A (renamed f h) q.row x) (sym e) (subst (λ (x : List Pair). Alive A x q.row q.col) (sym same) (grown_at A pairs k d g l)))

  -- and in the wide one
  pub next_widened : (found : List Pair) (k : ℕ) (d : Pair) → Grown B found → k < length found →
      Alive A (renamed f (take k found)) (slice_index_or found k d).row (f (slice_index_or found k d).col)
  next_widened found k d g l =
      alive_there w (take k found) (grown_inside B (take k found) (grown_front B found k g)) (slice_index_or found k d).row (slice_index_or found k d).col (grown_at B found k d g l)

-- what a search over enough columns finds is what one over all does
pub narrow_greedy : {A N : Matrix} {C c1 c2 : List ℕ} (start found given : List Pair) → AreEnough A C → c1 ≡ C → c2 ≡ C → N ≡ narrowed A c1 → AreInside N.width start → renamed (slice_index c2) start ≡ given →
    IsGreedy N start found → IsGreedy A given (renamed (slice_index C) found)
narrow_greedy {A} {N} {C} {c1} {c2} start found given enough e1 e2 is inside same g =
    subst (λ (x : List Pair). IsGreedy A x (renamed (slice_index C) found)) (ap (λ (cs : List ℕ). renamed (slice_index cs) start) (sym e2) ∙ same)
    (greedy_there (narrow_of enough (is ∙ ap (narrowed A) e1)) start found inside g)
