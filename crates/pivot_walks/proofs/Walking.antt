-- What is marked when a walk ends: what the row reaches.
use Rattle.std.proofs.Common.{Bool, true, false, not, IsTrue, ◌↔◌, ℕ, Option, Some, ◌≡◌, ◌≢◌, ◌+◌, ◌<◌, ◌≤◌, ◌⊎◌, List, [], ◌∷◌, ◌++◌, length, slice_index, inl, inr, ⊎_elim, sym, refl, ap, subst, ◌∙◌, arith}
use Rattle.std.specs.List.{Contains}
use Rattle.std.proofs.lemmas.Bool.{cases_eq, cases_lt, false≢true}
use Rattle.std.proofs.lemmas.List.{length_push}
use Rattle.std.proofs.lemmas.List.Elements.{Contains-push, Contains-push_cases}
use Rattle.residue_words.specs.Matrix.{Matrix, IsMatrix, row}
use Rattle.residue_words.specs.declared.plain.Pair.{Pair}
use Rattle.sparse_rows.specs.Rows.{support}
use Rattle.sparse_rows.proofs.Supports.{row_sparse, in_support as has_entry, at_support as entry_at}
use Rattle.pivot_table.specs.History.{pair, Nonzero, HasRow, HasCol, Path, Reaches, Alive, Dead, LeastAlive}
use Rattle.pivot_table.proofs.Growth.{reaches_more, row_cases}
use Rattle.pivot_table.proofs.Reaching.{reaches_step, reaches_support}
use Rattle.pivot_walks.specs.Reached.{AreReached, PivotalAreMarked, AreFollowed, IsUnderWay, IsWalking, HasWalked, IsWalk, progress}
use Rattle.pivot_walks.specs.Indexed.{Indexed}
use Rattle.pivot_walks.specs.MarkedColumns.{Grows}
use Rattle.pivot_walks.proofs.Growing.{kept, came, at_kept, longer, grows_none, grows_one, grows_trans, grows_weaker}
use Rattle.pivot_walks.proofs.Marking.{at_new}
use Rattle.residue_words.proofs.Lists.{contains_at, place_in}

-- the support of a row of a matrix
module _ {p : ℕ} {A : Matrix} (m : IsMatrix p A) (r : ℕ) (l : r < A.height) where
  pub in_support : (j : ℕ) → Nonzero A r j → Contains (support (row A r)) j
  in_support j n = has_entry m r l j n.2

  pub at_support : (k : ℕ) → k < length (support (row A r)) → Nonzero A r (slice_index (support (row A r)) k)
  at_support k lk = (l, (row_sparse m r l).below k lk, entry_at m r l k lk)

  pub of_support : (j : ℕ) → Contains (support (row A r)) j → Nonzero A r j
  of_support j c = let t = place_in (support (row A r)) j c in subst (Nonzero A r) t.2 (at_support t.0 t.1)

-- marks that are closed under steps have all that a path leads to
module _ (A : Matrix) (h : List Pair) (r : ℕ) (marked : List ℕ) (goes : AreFollowed A h (length marked) marked) where
  path_marked : (c : ℕ) (ds : List ℕ) (e : ℕ) → Contains marked c → Path A h c ds e → Contains marked e
  path_marked c [] e m p = subst (Contains marked) p m
  path_marked c (d ∷ ds) e m p =
      let t = place_in marked c m in
      path_marked d ds e (goes t.0 p.0.0 d t.1 (subst (λ x. Contains h (pair p.0.0 x)) (sym t.2) p.0.1) p.0.2) p.1

  pub reaches_marked : PivotalAreMarked A h r marked → (e : ℕ) → Reaches A h r e → Contains marked e
  reaches_marked begun e t = path_marked t.0 t.1 e (begun t.0 t.2 t.3) t.4

-- what a settled walk says of the columns
module _ {p : ℕ} {A : Matrix} (m : IsMatrix p A) {h : List Pair} {r : ℕ} {marked : List ℕ} {passed : ℕ} (s : HasWalked A h r marked passed) where
  sup : List ℕ
  sup = support (row A r)

  not_all : (j : ℕ) → Contains (support (row A r)) j → ¬ Contains marked j → passed < length (support (row A r))
  not_all j c fresh = let t = place_in (support (row A r)) j c in elim (cases_lt passed (length (support (row A r)))) [
    | inl l ↦ l
    | inr g ↦ absurd (fresh (subst (Contains marked) t.2 (s.passes t.0 (omega (arith, t.1)))))
  ]

  pub alive_unmarked : (j : ℕ) → Contains (support (row A r)) j → ¬ Contains marked j → Alive A h r j
  alive_unmarked j c fresh = let l = not_all j c fresh in record {
    entry = of_support m r s.inside j c;
    fresh_row = s.fresh;
    fresh_col = λ t. fresh (s.begun l j t (of_support m r s.inside j c));
    unreached = λ t. fresh (reaches_marked A h r marked (s.goes l) (s.begun l) j t);
  }

  pub unmarked_alive : (j : ℕ) → Alive A h r j → Contains (support (row A r)) j × ¬ Contains marked j
  unmarked_alive j a = (in_support m r s.inside j a.entry, λ c. a.unreached (s.reached j c))

  pub least_passed : passed < length (support (row A r)) → LeastAlive A h r (slice_index (support (row A r)) passed)
  least_passed l = (
    alive_unmarked _ (contains_at (support (row A r)) passed _ l refl) (s.next l),
    (λ i less a. let t = place_in (support (row A r)) i (unmarked_alive i a).0 in
        let sp = row_sparse m r s.inside in
        elim (cases_lt t.0 passed) [
          | inl lt ↦ (unmarked_alive i a).1 (subst (Contains marked) t.2 (s.passes t.0 lt))
          | inr ge ↦ elim (cases_eq t.0 passed) [
            | inl e ↦ absurd (omega (arith, t.2, ap (slice_index (support (row A r))) e))
            | inr ne ↦ absurd (omega (arith, t.2, sp.rising passed t.0 (omega arith) t.1))
          ]
        ]),
  )

  pub dead_passed : length (support (row A r)) ≤ passed → Dead A h r
  dead_passed le j a = let u = unmarked_alive j a in let t = place_in (support (row A r)) j u.0 in
      u.1 (subst (Contains marked) t.2 (s.passes t.0 (omega (arith, t.1))))

-- tests of the column
module _ {p : ℕ} {A : Matrix} (m : IsMatrix p A) {h : List Pair} {r : ℕ} {marked : List ℕ} {passed : ℕ} (s : HasWalked A h r marked passed) where
  pub told_in : (j : ℕ) (b : Bool) → IsTrue b ↔ Contains marked j → Contains (support (row A r)) j → IsTrue (not b) ↔ Alive A h r j
  told_in j true t c = ((λ e. absurd (false≢true e)), (λ a. absurd ((unmarked_alive m s j a).1 (t.0 refl))))
  told_in j false t c = ((λ e. alive_unmarked m s j c (λ k. false≢true (t.1 k))), (λ a. refl))

  pub told_out : (j : ℕ) (b : Bool) → b ≡ false → IsTrue b ↔ Contains (support (row A r)) j → IsTrue b ↔ Alive A h r j
  told_out j b e t = ((λ y. absurd (false≢true (sym e ∙ y))), (λ a. t.1 (unmarked_alive m s j a).0))

pub some_one : {o : Option ℕ} (r t : ℕ) → o ≡ Some r → o ≡ Some t → r ≡ t
some_one {o} r t e f = cc

-- a claim of each number below the next one
pub below_next : (P : ℕ → Type 0) (k : ℕ) → ((t : ℕ) → t < k → P t) → P k → (t : ℕ) → t < k + 1 → P t
below_next P k old new t l = elim (cases_lt t k) [ inl lt ↦ old t lt | inr ge ↦ (let e : k ≡ t = omega arith in subst P e new) ]

-- one marked column more was taken up
pub walked : {A : Matrix} {h : List Pair} {r : ℕ} {old new : List ℕ} {taken passed : ℕ} → IsWalking A h r (progress old taken passed) → taken < length old → (c : ℕ) → c ≡ slice_index old taken → c < A.width →
    Grows (λ d. (s : ℕ) × Contains h (pair s c) × Nonzero A s d) old new → ((s d : ℕ) → Contains h (pair s c) → Nonzero A s d → Contains new d) → (next : ℕ) → passed ≤ next → next ≤ length (support (row A r)) →
    ((k : ℕ) → passed ≤ k → k < next → Contains new (slice_index (support (row A r)) k)) → (next < length (support (row A r)) → ¬ Contains new (slice_index (support (row A r)) next)) →
    IsWalking A h r (progress new (taken + 1) next)
walked {A} {h} {r} {old} {new} {taken} {passed} w l c e lc grows all next low high passes stop = record {
  reached = λ j m. ⊎_elim
      (w.reached j)
      (λ t. elim (cases_eq j c) [
        | inl same ↦ w.reached j (subst (Contains old) (sym e ∙ sym same) (contains_at old taken (slice_index old taken) l refl))
        | inr d ↦ reaches_step A h r c j (w.reached c (subst (Contains old) (sym e) (contains_at old taken (slice_index old taken) l refl))) (t.0, t.1, t.2, d)
      ])
      (came j grows m);
  begun = λ c has n. kept c grows (w.begun c has n);
  goes = λ k s d lk here n. elim (cases_lt k taken) [
    | inl lt ↦ kept d grows (w.goes k s d lt (subst (λ x. Contains h (pair s x)) (at_kept k grows (omega arith)) here) n)
    | inr ge ↦
        let is : k ≡ taken = omega arith in
        all s d (subst (λ x. Contains h (pair s x)) (at_kept k grows (omega arith) ∙ ap (slice_index old) is ∙ sym e) here) n
  ];
  listed = omega (arith, longer grows);
  passes = λ k lk. elim (cases_lt k passed) [ inl lt ↦ kept _ grows (w.passes k lt) | inr ge ↦ passes k ge lk ];
  within = high;
  next = stop;
}

-- the walk ends
pub ended : {A : Matrix} {h : List Pair} {r : ℕ} {marked : List ℕ} {taken passed : ℕ} → r < A.height → ¬ HasRow h r → IsWalking A h r (progress marked taken passed) →
    (length (support (row A r)) ≤ passed) ⊎ (length marked ≤ taken) → HasWalked A h r marked passed
ended {A} {h} {r} {marked} {taken} {passed} inside fresh w why = record {
  inside = inside;
  fresh = fresh;
  reached = w.reached;
  passes = w.passes;
  within = w.within;
  next = w.next;
  begun = λ l. w.begun;
  goes = λ l. elim why [
    | inl all ↦ absurd (omega arith)
    | inr none ↦ (let e : taken ≡ length marked = omega (arith, w.listed) in subst (λ n. AreFollowed A h n marked) e w.goes)
  ];
}

-- a new pair: what is marked then, where P holds of the columns that come
module _ (A : Matrix) (h : List Pair) (r : ℕ) (marked new : List ℕ) (q : Pair) {P : ℕ → Type 0} (grows : Grows P marked new) where
  met_reached : AreReached A h r marked → ((j : ℕ) → P j → Reaches A (h ++ q ∷ []) r j) → AreReached A (h ++ q ∷ []) r new
  met_reached reached here j m = ⊎_elim (λ o. reaches_more A h (q ∷ []) r j (reached j o)) (here j) (came j grows m)

  met_begun : PivotalAreMarked A h r marked → (Nonzero A r q.col → Contains new q.col) → PivotalAreMarked A (h ++ q ∷ []) r new
  met_begun begun mine c has n = ⊎_elim
      (λ old. kept c grows (begun c (has.0, old, has.2) n))
      (λ e. let is : q.col ≡ c = ap (λ (x : Pair). x.col) e ∙ has.2 in subst (Contains new) is (mine (subst (Nonzero A r) (sym is) n)))
      (Contains-push_cases h q has.0 has.1)

  met_goes : AreFollowed A h (length marked) marked → (Contains marked q.col → (d : ℕ) → Nonzero A q.row d → Contains new d) → AreFollowed A (h ++ q ∷ []) (length marked) new
  met_goes goes mine k s d l here n =
      let same = at_kept k grows l in
      ⊎_elim
      (λ old. kept d grows (goes k s d l (subst (λ x. Contains h (pair s x)) same old) n))
      (λ e. mine (contains_at marked k q.col l (sym same ∙ sym (ap (λ (x : Pair). x.col) e))) d (subst (λ x. Nonzero A x d) (sym (ap (λ (x : Pair). x.row) e)) n))
      (Contains-push_cases h q (pair s (slice_index new k)) here)

  -- the pair's own column is marked next, and what it leads to
  met_taken : AreFollowed A h (length marked) marked → ¬ Contains marked q.col → ¬ HasCol h q.col → slice_index new (length marked) ≡ q.col → ((d : ℕ) → Nonzero A q.row d → Contains new d) → AreFollowed A (h ++ q ∷ []) (length marked + 1) new
  met_taken goes fresh free at mine k s d l here n = elim (cases_lt k (length marked)) [
    | inl lt ↦ met_goes goes (λ has. absurd (fresh has)) k s d lt here n
    | inr ge ↦
        let is : k ≡ length marked = omega arith in
        let own : slice_index new k ≡ q.col = ap (slice_index new) is ∙ at in
        ⊎_elim
        (λ old. absurd (free (pair s q.col, subst (λ x. Contains h (pair s x)) own old, refl)))
        (λ e. mine d (subst (λ x. Nonzero A x d) (sym (ap (λ (x : Pair). x.row) e)) n))
        (Contains-push_cases h q (pair s (slice_index new k)) here)
  ]

-- the pair's own column is reached, and so what it leads to
met_on : (A : Matrix) (h : List Pair) (r : ℕ) (q : Pair) → Reaches A (h ++ q ∷ []) r q.col → (j : ℕ) → Nonzero A q.row j → Reaches A (h ++ q ∷ []) r j
met_on A h r q at j n = elim (cases_eq j q.col) [
  | inl e ↦ subst (Reaches A (h ++ q ∷ []) r) (sym e) at
  | inr d ↦ reaches_step A (h ++ q ∷ []) r q.col j at (q.row, Contains-push h q, n, d)
]

-- the pair's own column is marked already: what it leads to is reached
met_step : (A : Matrix) (h : List Pair) (r : ℕ) (marked : List ℕ) (q : Pair) → AreReached A h r marked → Contains marked q.col → (j : ℕ) → Nonzero A q.row j → Reaches A (h ++ q ∷ []) r j
met_step A h r marked q reached has j n = met_on A h r q (reaches_more A h (q ∷ []) r q.col (reached q.col has)) j n

met_support : (A : Matrix) (h : List Pair) (r : ℕ) (q : Pair) → Nonzero A r q.col → Reaches A (h ++ q ∷ []) r q.col
met_support A h r q n = reaches_support A (h ++ q ∷ []) r q.col (q, Contains-push h q, refl) n

-- a new pair: the walk goes on from what it has marked
module _ {p : ℕ} {A : Matrix} (sound : IsMatrix p A) {h : List Pair} {r : ℕ} {old : List ℕ} (q : Pair) (entry : Nonzero A q.row q.col) (w : IsUnderWay A h r (length old) old) where
  -- if the pair's column was marked, what it leads to is marked at once
  pub met_marked : {new cols : List ℕ} → Contains old q.col → cols ≡ support (row A q.row) → Grows (Contains cols) old new → ((j : ℕ) → Contains cols j → Contains new j) → (taken : ℕ) → taken ≡ length old → IsUnderWay A (h ++ q ∷ []) r taken new
  met_marked {new} {cols} has are grows all taken e = record {
    reached = met_reached A h r old new q grows w.reached (λ j m. met_step A h r old q w.reached has j (of_support sound q.row entry.0 j (subst (λ xs. Contains xs j) are m)));
    begun = met_begun A h r old new q grows w.begun (λ n. kept q.col grows has);
    goes = subst (λ n. AreFollowed A (h ++ q ∷ []) n new) (sym e)
        (met_goes A h r old new q grows w.goes (λ has d n. all d (subst (λ xs. Contains xs d) (sym are) (in_support sound q.row entry.0 d n))));
    listed = omega (arith, e, longer grows);
  }

  -- if it is in the row's support, it is marked, and what it leads to
  pub met_own : {met new cols own : List ℕ} → ¬ Contains old q.col → ¬ HasCol h q.col → r < A.height → own ≡ support (row A r) → Contains own q.col → met ≡ old ++ q.col ∷ [] → cols ≡ support (row A q.row) → Grows (Contains cols) met new →
      ((j : ℕ) → Contains cols j → Contains new j) → (taken : ℕ) → taken ≡ length met → IsUnderWay A (h ++ q ∷ []) r taken new
  met_own {met} {new} {cols} {own} unmarked free inside mine has is are more all taken e =
      let grows : Grows (λ i. (i ≡ q.col) ⊎ Contains cols i) old new = grows_trans (grows_weaker (grows_one q.col is) (λ i s. inl s)) more (λ i m. inr m) in
      let here : Reaches A (h ++ q ∷ []) r q.col = met_support A h r q (of_support sound r inside q.col (subst (λ xs. Contains xs q.col) mine has)) in
      let many : length met ≡ length old + 1 = ap length is ∙ length_push old q.col in
      let at : slice_index new (length old) ≡ q.col = at_kept (length old) more (omega (arith, many)) ∙ ap (λ xs. slice_index xs (length old)) is ∙ at_new old q.col (length old) refl in record {
        reached = met_reached A h r old new q grows w.reached (λ j t. ⊎_elim
            (λ same. subst (Reaches A (h ++ q ∷ []) r) (sym same) here)
            (λ m. met_on A h r q here j (of_support sound q.row entry.0 j (subst (λ xs. Contains xs j) are m)))
            t);
        begun = met_begun A h r old new q grows w.begun (λ n. kept q.col more (subst (λ xs. Contains xs q.col) (sym is) (Contains-push old q.col)));
        goes = subst (λ n. AreFollowed A (h ++ q ∷ []) n new) (sym (e ∙ many))
            (met_taken A h r old new q grows w.goes unmarked free at (λ d n. all d (subst (λ xs. Contains xs d) (sym are) (in_support sound q.row entry.0 d n))));
        listed = omega (arith, e, longer more);
      }

  -- else the row doesn't reach it
  pub met_apart : {own : List ℕ} → ¬ Contains old q.col → r < A.height → own ≡ support (row A r) → ¬ Contains own q.col → (taken : ℕ) → taken ≡ length old → IsUnderWay A (h ++ q ∷ []) r taken old
  met_apart {own} unmarked inside mine apart taken e = record {
    reached = met_reached A h r old old q {P = λ j. ⊥} (grows_none _ old) w.reached (λ j none. absurd none);
    begun = met_begun A h r old old q {P = λ j. ⊥} (grows_none _ old) w.begun (λ n. absurd (apart (subst (λ xs. Contains xs q.col) (sym mine) (in_support sound r inside q.col n))));
    goes = subst (λ n. AreFollowed A (h ++ q ∷ []) n old) (sym e) (met_goes A h r old old q {P = λ j. ⊥} (grows_none _ old) w.goes (λ has d n. absurd (unmarked has)));
    listed = omega (arith, e);
  }

-- a row that is settled with its whole support marked stays so
pub all_marked : {A : Matrix} {h : List Pair} {r : ℕ} {marked : List ℕ} {passed : ℕ} (q : Pair) → q.row ≢ r → HasWalked A h r marked passed → length (support (row A r)) ≤ passed → HasWalked A (h ++ q ∷ []) r marked passed
all_marked {A} {h} {r} {marked} {passed} q other s le = record {
  inside = s.inside;
  fresh = still_fresh q other s.fresh;
  reached = λ j m. reaches_more A h (q ∷ []) r j (s.reached j m);
  passes = s.passes;
  within = s.within;
  next = s.next;
  begun = λ l. absurd (omega arith);
  goes = λ l. absurd (omega arith);
}
  where
    still_fresh : (q : Pair) → q.row ≢ r → ¬ HasRow h r → ¬ HasRow (h ++ q ∷ []) r
    still_fresh q other fresh has = ⊎_elim fresh other (row_cases h q r has)

pub still_fresh : (h : List Pair) (q : Pair) (r : ℕ) → q.row ≢ r → ¬ HasRow h r → ¬ HasRow (h ++ q ∷ []) r
still_fresh h q r other fresh has = ⊎_elim fresh other (row_cases h q r has)

pub settled_of : (i : Indexed) {marked : List ℕ} {passed : ℕ} {current : Option ℕ} → IsWalk i marked passed current → (r : ℕ) → current ≡ Some r →
    HasWalked i.rows.matrix i.pairs r marked passed
settled_of i {marked} {passed} {current} w r e = subst (IsWalk i marked passed) e w
