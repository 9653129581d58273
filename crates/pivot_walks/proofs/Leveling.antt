-- Levels: that there are some, what a walk below them finds, how they are raised.
use Rattle.std.proofs.Common.{ℕ, zero, suc, ◌≡◌, ◌≢◌, ◌+◌, ◌-◌, ◌<◌, ◌≤◌, ◌⊎◌, cond, eqb, eq-eqb, ne_eqb, List, [], ◌∷◌, ◌++◌, length, replicate, slice_index, slice_set, inl, inr, ⊎_elim, sym, refl, ap, subst, ◌∙◌, arith}
use Rattle.std.specs.List.{Contains}
use Rattle.std.proofs.lemmas.Bool.{cases_eq, cases_lt, cond-true, cond-false}
use Rattle.std.proofs.lemmas.List.{length_push, length-append, get_or-replicate, get_or_past, length-replicate}
use Rattle.std.proofs.lemmas.List.Elements.{Contains-push_cases, Contains-append_left}
use Rattle.residue_words.specs.Matrix.{Matrix, IsMatrix, row, entry}
use Rattle.residue_words.specs.declared.plain.Pair.{Pair}
use Rattle.sparse_rows.specs.Rows.{support}
use Rattle.sparse_rows.proofs.Supports.{row_sparse}
use Rattle.pivot_table.specs.History.{pair, Nonzero, HasRow, HasCol, Path, Reaches, Alive, Dead, LeastAlive, Grown}
use Rattle.pivot_table.specs.Order.{IsParted, IsOrderFrom}
use Rattle.pivot_table.specs.Order.IsParted.{nothing, left, right}
use Rattle.residue_words.proofs.Lists.{contains_at, in_cases, not_in_nil, place_in}
use Rattle.pivot_table.proofs.Orders.{IsChain, order_from, order_chain, order_covers, within_none}
use Rattle.pivot_table.proofs.Reaching.{reaches_step}
use Rattle.pivot_walks.specs.Raising.{below_top, work_left}
use Rattle.pivot_walks.specs.Levels.{IsLevel, AreLevels, IsBoundedWalk, AreRaised, ArePartlyRaised, limits, raised}
use Rattle.pivot_walks.specs.Reached.{progress}
use Rattle.pivot_walks.specs.MarkedColumns.{Grows}
use Rattle.pivot_walks.proofs.Growing.{kept, came, at_kept, longer}
use Rattle.pivot_walks.proofs.Walking.{in_support, at_support}

-- the place of a column in a list of pairs, or the list's length
abbrev place : List Pair → ℕ → ℕ
place [] c = 0
place (q ∷ qs) c = cond (eqb q.col c) 0 (suc (place qs c))

place_here : (q : Pair) (qs : List Pair) (c : ℕ) → q.col ≡ c → place (q ∷ qs) c ≡ 0
place_here q qs c e = cond-true (eqb q.col c) 0 (suc (place qs c)) (eq-eqb q.col c e)

place_later : (q : Pair) (qs : List Pair) (c : ℕ) → q.col ≢ c → place (q ∷ qs) c ≡ suc (place qs c)
place_later q qs c d = cond-false (eqb q.col c) 0 (suc (place qs c)) (ne_eqb q.col c d)

place_small : (qs : List Pair) (c : ℕ) → place qs c ≤ length qs
place_small [] c = omega arith
place_small (q ∷ qs) c = let rest = place_small qs c in elim (cases_eq q.col c) [
  | inl e ↦ (let here = place_here q qs c e in omega arith)
  | inr d ↦ (let later = place_later q qs c d in omega arith)
]

place_less : (qs : List Pair) (q : Pair) → Contains qs q → place qs q.col < length qs
place_less [] q m = absurd (not_in_nil q m)
place_less (x ∷ qs) q m = elim (cases_eq x.col q.col) [
  | inl e ↦ (let here = place_here x qs q.col e in omega arith)
  | inr d ↦ (let later = place_later x qs q.col d in ⊎_elim
      (λ e. absurd (d (ap (λ (y : Pair). y.col) e)))
      (λ t. let rest = place_less qs q t in omega arith)
      (in_cases x qs q m))
]

module _ (A : Matrix) where
  chain_nonzero : (o : List Pair) → IsChain A o → (q : Pair) → Contains o q → Nonzero A q.row q.col
  chain_nonzero [] c q m = absurd (not_in_nil q m)
  chain_nonzero (x ∷ o) c q m = ⊎_elim (λ e. subst (λ (y : Pair). Nonzero A y.row y.col) e c.0) (λ t. chain_nonzero o c.2 q t) (in_cases x o q m)

  -- in a triangular list places rise along steps
  place_rises : (o : List Pair) → IsChain A o → (s c d : ℕ) → Contains o (pair s c) → Nonzero A s d → d ≢ c → place o c < place o d
  place_rises [] chain s c d m n ne = absurd (not_in_nil (pair s c) m)
  place_rises (q ∷ o) chain s c d m n ne = ⊎_elim
      (λ e.
      let col : q.col ≡ c = ap (λ (y : Pair). y.col) e in
      let here = place_here q o c col in
      let later = place_later q o d (λ same. ne (sym same ∙ col)) in
      omega arith)
      (λ t.
      let zero_at : entry A s q.col ≡ 0 = chain.1 (pair s c) t in
      let nz : Nonzero A s c = chain_nonzero o chain.2 (pair s c) t in
      let first = place_later q o c (λ e. nz.2 (sym (ap (entry A s) e) ∙ zero_at)) in
      let second = place_later q o d (λ e. n.2 (sym (ap (entry A s) e) ∙ zero_at)) in
      let rest = place_rises o chain.2 s c d t n ne in
      omega arith)
      (in_cases q o (pair s c) m)

  parted_length : {P : Pair → Type 0} {xs us vs : List Pair} → IsParted P xs us vs → length us + length vs ≡ length xs
  parted_length nothing = refl
  parted_length (left n p) = let rest = parted_length p in omega arith
  parted_length (right y p) = let rest = parted_length p in omega arith

  order_length : (h o qs result : List Pair) → IsOrderFrom A h o qs result → length result ≡ length o + length qs
  order_length h o [] result e = sym (ap length e) ∙ (let z : length o ≡ length o + 0 = omega arith in z)
  order_length h o (q ∷ qs) result t = omega (arith, order_length (h ++ q ∷ []) (t.0 ++ q ∷ t.1) qs result t.3, parted_length t.2, length-append t.0 (q ∷ t.1))

  -- a grown list has numbers that rise along its steps, up to its length, and below it at pivotal columns
  pub grown_level : (h : List Pair) → Grown A h → (f : ℕ → ℕ) × IsLevel A h f × ((c : ℕ) → f c ≤ length h) × ((q : Pair) → Contains h q → f q.col < length h)
  grown_level h g =
      let r = order_from A [] [] h in
      let chain = order_chain A [] [] h r.0 g tt (within_none A) r.1 in
      let covers = order_covers A [] [] h r.0 g tt (within_none A) (within_none A) r.1 in
      let long = order_length [] [] h r.0 r.1 in (
        place r.0,
        (λ c d t. place_rises r.0 chain t.0 c d (covers (pair t.0 c) t.1) t.2 t.3),
        (λ c. omega (arith, place_small r.0 c, long)),
        (λ q m. omega (arith, place_less r.0 q (covers q m), long)),
      )

  -- numbers along a path
  module _ (h : List Pair) (f : ℕ → ℕ) (rises : IsLevel A h f) where
    path_up : (c : ℕ) (ds : List ℕ) (e : ℕ) → Path A h c ds e → f c ≤ f e
    path_up c [] e p = let same = ap f p in omega arith
    path_up c (d ∷ ds) e p = omega (arith, rises c d p.0, path_up d ds e p.1)

    -- a column that no number is below is reached only where it is pivotal
    lowest_unreached : (r e : ℕ) → ¬ HasCol h e → f e ≡ 0 → ¬ Reaches A h r e
    lowest_unreached r e free low t = lowest_path t.0 t.1 t.2 t.4
      where
        lowest_path : (c : ℕ) (ds : List ℕ) → HasCol h c → Path A h c ds e → ⊥
        lowest_path c [] has p = free (subst (HasCol h) p has)
        lowest_path c (d ∷ ds) has p = absurd (omega (arith, rises c d p.0, path_up d ds e p.1))

-- a walk up to a level has all that is reached up to there
module _ {A : Matrix} {h : List Pair} {r : ℕ} {levels : List ℕ} {b sure : ℕ} {marked : List ℕ} {passed : ℕ} (rises : IsLevel A h (slice_index levels)) (w : IsBoundedWalk A h r (limits levels b sure) (progress marked (length marked) passed)) where
  bounded_path : (c : ℕ) (ds : List ℕ) (e : ℕ) → Contains marked c → Path A h c ds e → slice_index levels e ≤ b → Contains marked e
  bounded_path c [] e m p l = subst (Contains marked) p m
  bounded_path c (d ∷ ds) e m p l =
      let t = place_in marked c m in
      bounded_path d ds e (w.goes t.0 p.0.0 d t.1 (subst (λ x. Contains h (pair p.0.0 x)) (sym t.2) p.0.1) p.0.2 (omega (arith, path_up A h (slice_index levels) rises d ds e p.1))) p.1 l

  bounded : (e : ℕ) → Reaches A h r e → slice_index levels e ≤ b → Contains marked e
  bounded e t l = bounded_path t.0 t.1 e (w.begun t.0 t.2 t.3 (omega (arith, path_up A h (slice_index levels) rises t.0 t.1 e t.4))) t.4 l

  pub bounded_alive : {p : ℕ} → IsMatrix p A → r < A.height → ¬ HasRow h r → passed < sure → sure ≤ length (support (row A r)) →
      ((k : ℕ) → k < sure → (¬ HasCol h (slice_index (support (row A r)) k)) → slice_index levels (slice_index (support (row A r)) k) ≤ b) → Alive A h r (slice_index (support (row A r)) passed)
  bounded_alive m l fresh less high low = record {
    entry = at_support m r l passed (omega arith);
    fresh_row = fresh;
    fresh_col = (w.next less).1;
    unreached = λ t. (w.next less).0 (bounded _ t (low passed less (w.next less).1));
  }

pub sure_alive : {p : ℕ} {A : Matrix} {h : List Pair} {r : ℕ} (levels : List ℕ) → IsMatrix p A → IsLevel A h (slice_index levels) → r < A.height → ¬ HasRow h r → (k : ℕ) → k < length (support (row A r)) →
    ¬ HasCol h (slice_index (support (row A r)) k) → slice_index levels (slice_index (support (row A r)) k) ≡ 0 → Alive A h r (slice_index (support (row A r)) k)
sure_alive {p} {A} {h} {r} levels m rises l fresh k less free low = record {
  entry = at_support m r l k less;
  fresh_row = fresh;
  fresh_col = free;
  unreached = lowest_unreached A h (slice_index levels) rises r _ free low;
}

-- what was passed is not alive
pub passed_dead : {A : Matrix} {h : List Pair} {r : ℕ} {levels : List ℕ} {b sure taken passed : ℕ} {marked : List ℕ} → IsBoundedWalk A h r (limits levels b sure) (progress marked taken passed) → (k : ℕ) → k < passed → ¬ Alive A h r (slice_index (support (row A r)) k)
passed_dead w k l a = ⊎_elim (λ m. a.unreached (w.reached _ m)) a.fresh_col (w.passes k l)

-- the first alive place is the least column
module _ {p : ℕ} {A : Matrix} (m : IsMatrix p A) {h : List Pair} {r : ℕ} (l : r < A.height) (at : ℕ) (before : (k : ℕ) → k < at → ¬ Alive A h r (slice_index (support (row A r)) k)) where
  pub first_least : Alive A h r (slice_index (support (row A r)) at) → at < length (support (row A r)) → LeastAlive A h r (slice_index (support (row A r)) at)
  first_least a inside = (
    a,
    (λ i less b.
        let t = place_in (support (row A r)) i (in_support m r l i b.entry) in
        elim (cases_lt t.0 at) [
          | inl lt ↦ before t.0 lt (subst (Alive A h r) (sym t.2) b)
          | inr ge ↦ elim (cases_eq t.0 at) [
            | inl e ↦ absurd (omega (arith, t.2, ap (slice_index (support (row A r))) e))
            | inr ne ↦ absurd (omega (arith, t.2, (row_sparse m r l).rising at t.0 (omega arith) t.1))
          ]
        ]),
  )

  pub first_none : length (support (row A r)) ≤ at → Dead A h r
  first_none le j a = let t = place_in (support (row A r)) j (in_support m r l j a.entry) in before t.0 (omega (arith, t.1)) (subst (Alive A h r) (sym t.2) a)

-- one marked column more was taken up
pub bounded_more : {A : Matrix} {h : List Pair} {r : ℕ} {levels : List ℕ} {b sure : ℕ} {old new : List ℕ} {taken passed : ℕ} → IsBoundedWalk A h r (limits levels b sure) (progress old taken passed) → taken < length old → (c : ℕ) → c ≡ slice_index old taken →
    Grows (λ d. (s : ℕ) × Contains h (pair s c) × Nonzero A s d) old new → ((s d : ℕ) → Contains h (pair s c) → Nonzero A s d → slice_index levels d ≤ b → Contains new d) → (next : ℕ) → next ≤ sure →
    ((k : ℕ) → passed ≤ k → k < next → Contains new (slice_index (support (row A r)) k) ⊎ HasCol h (slice_index (support (row A r)) k)) → (next < sure → (¬ Contains new (slice_index (support (row A r)) next)) × (¬ HasCol h (slice_index (support (row A r)) next))) →
    IsBoundedWalk A h r (limits levels b sure) (progress new (taken + 1) next)
bounded_more {A} {h} {r} {levels} {b} {sure} {old} {new} {taken} {passed} w l c e grows all next high passes stop = record {
  reached = λ j m. ⊎_elim
      (w.reached j)
      (λ t. elim (cases_eq j c) [
        | inl same ↦ w.reached j (subst (Contains old) (sym e ∙ sym same) (contains_at old taken (slice_index old taken) l refl))
        | inr d ↦ reaches_step A h r c j (w.reached c (subst (Contains old) (sym e) (contains_at old taken (slice_index old taken) l refl))) (t.0, t.1, t.2, d)
      ])
      (came j grows m);
  begun = λ c has n low. kept c grows (w.begun c has n low);
  goes = λ k s d lk here n low. elim (cases_lt k taken) [
    | inl lt ↦ kept d grows (w.goes k s d lt (subst (λ x. Contains h (pair s x)) (at_kept k grows (omega arith)) here) n low)
    | inr ge ↦
        let is : k ≡ taken = omega arith in
        all s d (subst (λ x. Contains h (pair s x)) (at_kept k grows (omega arith) ∙ ap (slice_index old) is ∙ sym e) here) n low
  ];
  listed = omega (arith, longer grows);
  passes = λ k lk. elim (cases_lt k passed) [ inl lt ↦ ⊎_elim (λ m. inl (kept _ grows m)) (λ has. inr has) (w.passes k lt) | inr ge ↦ passes k ge lk ];
  within = high;
  next = stop;
}

-- raising
pub popped : {A : Matrix} {h : List Pair} {levels old new : List ℕ} (c : ℕ) → AreRaised A h levels old → old ≡ new ++ c ∷ [] → ArePartlyRaised A h c (raised levels new [] 0)
popped {A} {h} {levels} {old} {new} c r e = record {
  long = r.long;
  others = λ x d s ne. ⊎_elim
      (λ m. ⊎_elim (λ k. inl k) (λ same. absurd (ne (sym same))) (Contains-push_cases new c x (subst (λ l. Contains l x) e m)))
      (λ l. inr l)
      (r.rises x d s);
  own = λ t l. absurd (omega arith);
  least = r.least;
}

pub partly_none : {A : Matrix} {h : List Pair} {c : ℕ} {levels marked : List ℕ} → ArePartlyRaised A h c (raised levels marked [] 0) → ¬ HasCol h c → AreRaised A h levels marked
partly_none {A} {h} {c} {levels} {marked} w free = record {
  long = w.long;
  rises = λ e d s. elim (cases_eq e c) [ inl same ↦ absurd (free (pair s.0 e, s.1, same)) | inr ne ↦ w.others e d s ne ];
  least = w.least;
}

pub partly_start : {A : Matrix} {h : List Pair} {c : ℕ} {levels marked : List ℕ} (cols : List ℕ) → ArePartlyRaised A h c (raised levels marked [] 0) → ArePartlyRaised A h c (raised levels marked cols 0)
partly_start cols w = record { long = w.long; others = w.others; own = λ t l. absurd (omega arith); least = w.least }

pub partly_all : {A : Matrix} {h : List Pair} {c : ℕ} {cols : List ℕ} {k : ℕ} {levels marked : List ℕ} (s : ℕ) → ArePartlyRaised A h c (raised levels marked cols k) → length cols ≤ k → ((t : ℕ) → Contains h (pair t c) → t ≡ s) → ((d : ℕ) → Nonzero A s d → Contains cols d) →
    AreRaised A h levels marked
partly_all {A} {h} {c} {cols} {k} {levels} {marked} s w le one all = record {
  long = w.long;
  rises = λ e d t. elim (cases_eq e c) [
    | inl same ↦
        let is : t.0 ≡ s = one t.0 (subst (λ x. Contains h (pair t.0 x)) same t.1) in
        let at = place_in cols d (all d (subst (λ x. Nonzero A x d) is t.2)) in
        let less = w.own at.0 (omega (arith, at.1)) (λ z. t.3 (sym at.2 ∙ z ∙ sym same)) in
        inr (omega (arith, less, ap (slice_index levels) same, ap (slice_index levels) at.2))
    | inr ne ↦ w.others e d t ne
  ];
  least = w.least;
}

module _ (A : Matrix) (h : List Pair) (c : ℕ) (cols : List ℕ) (k : ℕ) (old new om nm : List ℕ) (w : ArePartlyRaised A h c (raised old om cols k)) (d : ℕ) (at : d ≡ slice_index cols k) (level : ℕ) (is : slice_index old c ≡ level)
    (others : (e : ℕ) → e ≢ d → slice_index new e ≡ slice_index old e) (higher_there : slice_index old d ≤ slice_index new d) (same : d ≡ c → slice_index new d ≡ slice_index old d) where
  higher : (e : ℕ) → slice_index old e ≤ slice_index new e
  higher e = elim (cases_eq e d) [ inl z ↦ omega (arith, ap (slice_index old) z, ap (slice_index new) z, higher_there) | inr ne ↦ omega (arith, others e ne) ]

  partly_own : slice_index new c ≡ level
  partly_own = elim (cases_eq d c) [
    | inl z ↦ omega (arith, ap (slice_index old) z, ap (slice_index new) z, same z, is)
    | inr ne ↦ others c (λ z. ne (sym z)) ∙ is
  ]

  pub partly_more : (s : ℕ) → Contains h (pair s c) → Nonzero A s d → length new ≡ length old → ((e : ℕ) → Contains om e → Contains nm e) → (d ≢ c → level < slice_index new d) → (slice_index new d ≡ slice_index old d) ⊎ (slice_index new d ≡ level + 1) →
      (slice_index new d ≡ slice_index old d) ⊎ (HasCol h d → Contains nm d) → ArePartlyRaised A h c (raised new nm cols (k + 1))
  partly_more s here n long kept own by_one marked = record {
    long = long ∙ w.long;
    others = λ e x t ne. ⊎_elim
        (λ m. inl (kept e m))
        (λ less. elim (cases_eq e d) [
          | inl z ↦ ⊎_elim
              (λ stays. inr (omega (arith, less, higher x, stays, ap (slice_index old) z, ap (slice_index new) z)))
              (λ mark. inl (subst (Contains nm) (sym z) (mark (pair t.0 e, t.1, z))))
              marked
          | inr other ↦ inr (omega (arith, less, higher x, others e other))
        ])
        (w.others e x t ne);
    own = λ t l apart. elim (cases_lt t k) [
      | inl lt ↦ omega (arith, w.own t lt apart, higher (slice_index cols t), partly_own, is)
      | inr ge ↦
          let last : k ≡ t = omega arith in
          let col : d ≡ slice_index cols t = at ∙ ap (slice_index cols) last in
          omega (arith, own (λ z. apart (sym col ∙ z)), ap (slice_index new) col, partly_own)
    ];
    least = λ f rises e. elim (cases_eq e d) [
      | inl z ↦ ⊎_elim
          (λ stays. omega (arith, w.least f rises e, stays, ap (slice_index old) z, ap (slice_index new) z))
          (λ one. elim (cases_eq d c) [
            | inl self ↦ omega (arith, w.least f rises e, same self, ap (slice_index old) z, ap (slice_index new) z)
            | inr ne ↦ omega (arith, one, ap (slice_index new) z, ap f z, w.least f rises c, is, rises c d (s, here, n, ne))
          ])
          by_one
      | inr ne ↦ omega (arith, w.least f rises e, others e ne)
    ];
  }

pub raised_none : {A : Matrix} {h : List Pair} {levels marked : List ℕ} → AreRaised A h levels marked → marked ≡ [] → AreLevels A h levels
raised_none {A} {h} {levels} {marked} r e = record {
  long = r.long;
  rises = λ c d s. ⊎_elim (λ m. absurd (not_in_nil c (subst (λ l. Contains l c) e m))) (λ l. l) (r.rises c d s);
  least = r.least;
}

-- a pair more: only its own column is to be taken up
pub raised_push : {A : Matrix} {h : List Pair} {levels marked : List ℕ} (q : Pair) → AreLevels A h levels → Contains marked q.col → AreRaised A (h ++ q ∷ []) levels marked
raised_push {A} {h} {levels} {marked} q w has = record {
  long = w.long;
  rises = λ c d s. ⊎_elim
      (λ old. inr (w.rises c d (s.0, old, s.2, s.3)))
      (λ e. inl (subst (Contains marked) (ap (λ (y : Pair). y.col) e) has))
      (Contains-push_cases h q (pair s.0 c) s.1);
  least = λ f rises c. w.least f (λ x d s. rises x d (s.0, Contains-append_left h (q ∷ []) (pair s.0 x) s.1, s.2, s.3)) c;
}

at_zeros : (n c : ℕ) → slice_index (replicate n 0) c ≡ 0
at_zeros n c = elim (cases_lt c n) [ inl l ↦ get_or-replicate n c 0 0 l | inr g ↦ get_or_past (replicate n 0) c 0 (omega (arith, length-replicate n (let z : ℕ = 0 in z))) ]

pub levels_none : (A : Matrix) (n : ℕ) → n ≡ A.width → AreLevels A [] (replicate n 0)
levels_none A n e = record {
  long = length-replicate n 0 ∙ e;
  rises = λ c d s. absurd (not_in_nil (pair s.0 c) s.1);
  least = λ f rises c. omega (arith, at_zeros n c);
}

-- what is left to raise
below_set : (n : ℕ) (vs : List ℕ) (j v : ℕ) → j < length vs → below_top n (slice_set vs j v) + (n - slice_index vs j) ≡ below_top n vs + (n - v)
below_set n [] j v l = absurd (omega arith)
below_set n (x ∷ vs) zero v l = omega arith
below_set n (x ∷ vs) (suc j) v l = let rest = below_set n vs j v (omega arith) in omega arith

pub work_falls : (n : ℕ) (vs : List ℕ) (j v : ℕ) (old new : List ℕ) → j < length vs → slice_index vs j ≤ v → v < n → length new ≤ length old + 1 → work_left n (slice_set vs j (v + 1)) new ≤ work_left n vs old
work_falls n vs j v old new l low less many = omega (arith, below_set n vs j (v + 1) l)

pub work_pops : (n : ℕ) (vs old new : List ℕ) (c : ℕ) → old ≡ new ++ c ∷ [] → work_left n vs new < work_left n vs old
work_pops n vs old new c e = omega (arith, ap length e, length_push new c)
