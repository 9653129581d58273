-- Pairs that are listed in triangular order, by counts at the places of their columns.
use Rattle.std.proofs.Common.{ℕ, suc, ◌≡◌, ◌≢◌, ◌+◌, ◌<◌, ◌≤◌, ◌⊎◌, eqb, List, [], ◌∷◌, ◌++◌, length, map, slice_index, get_or, inl, inr, ⊎_elim, sym, refl, ap, subst, ◌∙◌, arith, eq-eqb, true}
use Rattle.std.specs.List.{Contains, IsDistinct}
use Rattle.std.specs.List.Sorted.{IsNonDecreasingBy, IsPermutation}
use Rattle.std.proofs.lemmas.Bool.{cases_eq, cases_lt}
use Rattle.std.proofs.lemmas.Bool.Decides.{nat_tests}
use Rattle.std.proofs.lemmas.List.{append-nil, get_or-map, get_or_default, length-append, length-map, length_push}
use Rattle.std.proofs.lemmas.List.Elements.{Contains-append_left, Contains-append_right, Contains-append_cases, Contains-get_or, Contains-push, Contains-push_cases}
use Rattle.std.proofs.lemmas.List.Sorted.{Contains-permutation, IsPermutation-map, IsPermutation-sym, length_permutation}
use Rattle.std.proofs.lemmas.Map.Keys.{IsDistinct-IsPermutation, apart_from_distinct}
use Rattle.residue_words.specs.Matrix.{Matrix, entry}
use Rattle.residue_words.specs.declared.plain.Pair.{Pair}
use Rattle.residue_words.proofs.Lists.{not_in_nil, in_head, in_tail, in_cases, cut_at, middle_more, middle_cases}
use Rattle.row_space.specs.Factors.{col_at}
use Rattle.sparse_rows.specs.Rows.{AreRising}
use Rattle.pivot_table.specs.History.{Grown, Nonzero}
use Rattle.pivot_table.proofs.Growth.{pair_nonzero}
use Rattle.pivot_table.proofs.Orders.{IsChain, chain_append, chain_triangular, grown_chain}
use Rattle.pivot_table.proofs.Short.{columns_distinct}
use Rattle.triangular_solve.specs.Listing.{AreSortedPivots, AreWaits, HasReady, Queued, TakesReady, column_count, entry_flag}
use Rattle.pivot_table.specs.Order.{AreInOrder, IsNext, IsReady, IsTriangularOrder}
use Rattle.triangular_solve.specs.Triangle.{TriangularOrderIsOne}
use Rattle.triangular_solve.proofs.Marked.{marked_inside}
use Rattle.triangular_solve.proofs.Counting.{AreApart, apart_less, count_middle, counted_ready, flag_one, flag_zero, none_counted, ready_counted, some_ready}

abbrev pub no_pair : Pair
no_pair = record { row = 0; col = 0 }

-- the pair at a place, and the place of a pair
pub col_is : (pairs : List Pair) (k : ℕ) → k < length pairs → (get_or pairs k no_pair).col ≡ col_at pairs k
col_is pairs k l = sym (get_or-map (λ (q : Pair). q.col) pairs k no_pair 0 l)

pub place_of : (pairs : List Pair) (p : Pair) → Contains pairs p → (k : ℕ) × (k < length pairs) × (get_or pairs k no_pair ≡ p) × (col_at pairs k ≡ p.col)
place_of pairs p m =
    let is : get_or pairs m.0 no_pair ≡ p = get_or_default pairs m.0 no_pair p m.1 ∙ m.2 in
    (m.0, m.1, is, sym (col_is pairs m.0 m.1) ∙ ap (λ (x : Pair). x.col) is)

-- pairs by ascending columns are apart
rising_apart : (pairs : List Pair) → AreRising (map (λ (p : Pair). p.col) pairs) → AreApart pairs
rising_apart [] rising = tt
rising_apart (q ∷ qs) rising = (
  (λ p m e.
      let t = place_of qs p m in
      let less : q.col < col_at qs t.0 = rising 0 (suc t.0) (omega arith) (omega (arith, t.1, length-map qs (λ (p : Pair). p.col))) in
      absurd (omega (arith, t.3))),
  rising_apart qs (λ k t less l. rising (suc k) (suc t) (omega arith) (omega arith)),
)

eqb_flips : (x y : ℕ) → eqb x y ≡ eqb y x
eqb_flips x y = grind (arith, nat_tests)

-- a grown history, sorted by columns
module _ {A : Matrix} {h pairs : List Pair} (g : Grown A h) (moved : IsPermutation h pairs) (sorted : IsNonDecreasingBy (λ (p : Pair). p.col) pairs) where
  sorted_rising : AreRising (map (λ (p : Pair). p.col) pairs)
  sorted_rising k t less l =
      let cols = map (λ (p : Pair). p.col) pairs in
      let lt : t < length pairs = omega (arith, length-map pairs (λ (p : Pair). p.col)) in
      let lk : k < length pairs = omega arith in
      let distinct : IsDistinct eqb cols = IsDistinct-IsPermutation eqb eqb_flips (map (λ (p : Pair). p.col) h) cols (IsPermutation-map (λ (p : Pair). p.col) h pairs moved) (columns_distinct A h g) in
      let apart = apart_from_distinct eqb cols k t 0 distinct less l in
      let le : col_at pairs k ≤ col_at pairs t = omega (arith, sorted k t no_pair (omega arith) lt, col_is pairs k lk, col_is pairs t lt) in
      elim (cases_eq (col_at pairs k) (col_at pairs t)) [
        | inl e ↦ absurd (let same : eqb (col_at pairs k) (col_at pairs t) ≡ true = eq-eqb _ _ e in cc)
        | inr n ↦ omega arith
      ]

  pub sorted_pivots : AreSortedPivots A pairs
  sorted_pivots = let c = grown_chain A h g in record {
    nonzero = λ p m. pair_nonzero A h g p (Contains-permutation pairs h p (IsPermutation-sym h pairs moved) m);
    rising = sorted_rising;
    ready = λ left w within m. some_ready A c.0 left c.1 (λ p k. c.2 p (Contains-permutation pairs h p (IsPermutation-sym h pairs moved) (within p k))) w m;
  }

pub next_same : {A : Matrix} {q : Pair} {xs ys : List Pair} → ((p : Pair) → Contains xs p → Contains ys p) → ((p : Pair) → Contains ys p → Contains xs p) → IsNext A q xs → IsNext A q ys
next_same {A} {q} {xs} {ys} to from n = record {
  ready = λ p m d. n.ready p (over ys xs from p m) d;
  least = λ p m r. n.least p (from p m) (λ o k d. r o (over xs ys to o k) d);
}
  where
    over : (us vs : List Pair) → ((p : Pair) → Contains us p → Contains vs p) → (p : Pair) → Contains (q ∷ us) p → Contains (q ∷ vs) p
    over us vs f p m = ⊎_elim (λ e. subst (Contains (q ∷ vs)) e (in_head q vs)) (λ t. in_tail q vs p (f p t)) (in_cases q us p m)

-- what is listed, and then what is left
abbrev pub AreNext : Matrix → List Pair → List Pair → Type 0
AreNext A [] left = Unit {0}
AreNext A (q ∷ qs) left = IsNext A q (qs ++ left) × AreNext A qs left

next_push : (A : Matrix) (qs : List Pair) (q : Pair) (us vs : List Pair) → AreNext A qs (us ++ q ∷ vs) → IsNext A q (us ++ vs) → AreNext A (qs ++ q ∷ []) (us ++ vs)
next_push A [] q us vs a n = (n, tt)
next_push A (x ∷ qs) q us vs a n = (next_same to from a.0, next_push A qs q us vs a.1 n)
  where
    to : (p : Pair) → Contains (qs ++ (us ++ q ∷ vs)) p → Contains ((qs ++ q ∷ []) ++ (us ++ vs)) p
    to p m = ⊎_elim
        (λ k. Contains-append_left (qs ++ q ∷ []) (us ++ vs) p (Contains-append_left qs (q ∷ []) p k))
        (λ k. ⊎_elim
        (λ e. Contains-append_left (qs ++ q ∷ []) (us ++ vs) p (subst (Contains (qs ++ q ∷ [])) e (Contains-push qs q)))
        (λ t. Contains-append_right (qs ++ q ∷ []) (us ++ vs) p t)
        (middle_cases us q vs p k))
        (Contains-append_cases qs (us ++ q ∷ vs) p m)

    from : (p : Pair) → Contains ((qs ++ q ∷ []) ++ (us ++ vs)) p → Contains (qs ++ (us ++ q ∷ vs)) p
    from p m = ⊎_elim
        (λ k. ⊎_elim
        (λ o. Contains-append_left qs (us ++ q ∷ vs) p o)
        (λ e. Contains-append_right qs (us ++ q ∷ vs) p (subst (Contains (us ++ q ∷ vs)) e (Contains-append_right us (q ∷ vs) q (in_head q vs))))
        (Contains-push_cases qs q p k))
        (λ k. Contains-append_right qs (us ++ q ∷ vs) p (middle_more us q vs p k))
        (Contains-append_cases (qs ++ q ∷ []) (us ++ vs) p m)

next_all : (A : Matrix) (qs : List Pair) → AreNext A qs [] → AreInOrder A qs
next_all A [] a = tt
next_all A (q ∷ qs) a = (subst (IsNext A q) (append-nil qs) a.0, next_all A qs a.1)

-- `listed` has the first of the pairs in triangular order; `waits` has the counts of those that are left, and the queue each place
-- of a ready one
pub record IsListing (A : Matrix) (pairs listed : List Pair) (waits queue : List ℕ) : Type 0 where
  pub left : List Pair
  pub many : length listed + length left ≡ length pairs
  pub old : (p : Pair) → Contains listed p → Contains pairs p
  pub others : (p : Pair) → Contains left p → Contains pairs p
  pub every : (p : Pair) → Contains pairs p → Contains listed p ⊎ Contains left p
  pub apart : AreApart left
  pub long : length waits ≡ length pairs
  pub counts : (k : ℕ) → k < length pairs → slice_index waits k ≡ column_count A left (col_at pairs k)
  pub gone : (p : Pair) → Contains listed p → column_count A left p.col ≡ 0
  pub room : length queue ≡ length pairs
  pub covers : (k : ℕ) → k < length pairs → Contains left (get_or pairs k no_pair) → slice_index waits k ≡ 1 → Queued queue k
  pub next : AreNext A listed left
  pub chain : IsChain A listed

pub listing_begins : {A : Matrix} {pairs : List Pair} {waits queue : List ℕ} → AreSortedPivots A pairs → AreWaits A pairs waits → HasReady waits queue → IsListing A pairs [] waits queue
listing_begins {A} {pairs} {waits} {queue} pivots are ready = record {
  left = pairs;
  many = omega arith;
  old = λ p m. absurd (not_in_nil p m);
  others = λ p m. m;
  every = λ p m. inr m;
  apart = rising_apart pairs pivots.rising;
  long = are.many;
  counts = are.counts;
  gone = λ p m. absurd (not_in_nil p m);
  room = ready.room ∙ are.many;
  covers = λ k l m one. ready.covers k (omega (arith, are.many)) one;
  next = tt;
  chain = tt;
}

module _ {A : Matrix} {pairs listed : List Pair} {waits queue : List ℕ} (pivots : AreSortedPivots A pairs) (s : IsListing A pairs listed waits queue) where
  -- what is queued is a place
  pub queued_inside : (k : ℕ) → Queued queue k → k < length pairs
  queued_inside k m = omega (arith, marked_inside queue k m, s.room)

  -- a place at which one pair waits is that of a pair that is left
  pub waits_left : (k : ℕ) → k < length pairs → slice_index waits k ≡ 1 → Contains s.left (get_or pairs k no_pair)
  waits_left k l one = ⊎_elim
      (λ old. absurd (omega (arith, s.gone (get_or pairs k no_pair) old, s.counts k l, ap (column_count A s.left) (col_is pairs k l))))
      (λ m. m)
      (s.every (get_or pairs k no_pair) (Contains-get_or pairs k no_pair l))

  -- while some are left, one waits at a place of the queue
  pub some_waits : length listed < length pairs → (k : ℕ) × Queued queue k × (slice_index waits k ≡ 1)
  some_waits less = go s.left refl
    where
      go : (left : List Pair) → left ≡ s.left → (k : ℕ) × Queued queue k × (slice_index waits k ≡ 1)
      go [] e = absurd (let n : length {A = Pair} [] ≡ length s.left = ap length e in omega (arith, s.many))
      go (w ∷ ws) e =
          let r = pivots.ready s.left w s.others (subst (λ (x : List Pair). Contains x w) e (in_head w ws)) in
          let n = pivots.nonzero r.0 (s.others r.0 r.1) in
          let one = ready_counted A s.left s.apart r.0 r.1 n.2 r.2 in
          let t = place_of pairs r.0 (s.others r.0 r.1) in
          let waits_one : slice_index waits t.0 ≡ 1 = s.counts t.0 t.1 ∙ ap (column_count A s.left) t.3 ∙ one in
          (t.0, s.covers t.0 t.1 (subst (Contains s.left) (sym t.2) r.1) waits_one, waits_one)

  -- the pair at place k is listed next
  module _ (k : ℕ) (mid waits2 queue2 : List ℕ) (taken : TakesReady waits queue mid k)
      (long2 : length waits2 ≡ length waits)
      (lowered : (d : ℕ) → d < length pairs → entry A (get_or pairs k no_pair).row (col_at pairs d) ≢ 0 → slice_index waits2 d + 1 ≡ slice_index waits d)
      (kept : (d : ℕ) → d < length pairs → entry A (get_or pairs k no_pair).row (col_at pairs d) ≡ 0 → slice_index waits2 d ≡ slice_index waits d)
      (queued : (d : ℕ) → Queued mid d → Queued queue2 d)
      (room2 : length queue2 ≡ length mid)
      (pushed : (d : ℕ) → d < length pairs → entry A (get_or pairs k no_pair).row (col_at pairs d) ≢ 0 → slice_index waits2 d ≡ 1 → Queued queue2 d) where
    l : k < length pairs
    l = queued_inside k taken.here

    abbrev q : Pair
    q = get_or pairs k no_pair

    m : Contains s.left (get_or pairs k no_pair)
    m = waits_left k l taken.ready

    nonzero : Nonzero A (get_or pairs k no_pair).row (get_or pairs k no_pair).col
    nonzero = pivots.nonzero (get_or pairs k no_pair) (s.others (get_or pairs k no_pair) m)

    cut : (us : List Pair) × (vs : List Pair) × (s.left ≡ us ++ get_or pairs k no_pair ∷ vs)
    cut = cut_at s.left (get_or pairs k no_pair) m

    off : AreApart (cut.0 ++ cut.1) × ((p : Pair) → Contains (cut.0 ++ cut.1) p → p.col ≢ (get_or pairs k no_pair).col)
    off = apart_less cut.0 q cut.1 (subst AreApart cut.2 s.apart)

    in_left : (p : Pair) → Contains (cut.0 ++ cut.1) p → Contains s.left p
    in_left p i = subst (λ (x : List Pair). Contains x p) (sym cut.2) (middle_more cut.0 q cut.1 p i)

    from_left : (p : Pair) → Contains s.left p → (get_or pairs k no_pair ≡ p) ⊎ Contains (cut.0 ++ cut.1) p
    from_left p i = middle_cases cut.0 q cut.1 p (subst (λ (x : List Pair). Contains x p) cut.2 i)

    less : (d : ℕ) → column_count A s.left d ≡ entry_flag A (get_or pairs k no_pair).row d + column_count A (cut.0 ++ cut.1) d
    less d = ap (λ (x : List Pair). column_count A x d) cut.2 ∙ count_middle A cut.0 q cut.1 d

    count_here : column_count A s.left (get_or pairs k no_pair).col ≡ 1
    count_here = ap (column_count A s.left) (col_is pairs k l) ∙ sym (s.counts k l) ∙ taken.ready

    next_here : IsNext A (get_or pairs k no_pair) (cut.0 ++ cut.1)
    next_here = record {
      ready = λ p i d. ⊎_elim
          (λ e. absurd (d (sym (ap (λ (x : Pair). x.col) e))))
          (λ t. counted_ready A s.left s.apart q m nonzero.2 count_here p (in_left p t) d)
          (in_cases q (cut.0 ++ cut.1) p i);
      least = λ p i r.
          let mp = in_left p i in
          let np = pivots.nonzero p (s.others p mp) in
          let ready : IsReady A s.left p = λ o io d. r o (⊎_elim (λ e. subst (Contains (q ∷ (cut.0 ++ cut.1))) e (in_head q (cut.0 ++ cut.1))) (λ t. in_tail q (cut.0 ++ cut.1) o t) (from_left o io)) d in
          let t = place_of pairs p (s.others p mp) in
          let one_p : slice_index waits t.0 ≡ 1 = s.counts t.0 t.1 ∙ ap (column_count A s.left) t.3 ∙ ready_counted A s.left s.apart p mp np.2 ready in
          let le = taken.least t.0 (s.covers t.0 t.1 (subst (Contains s.left) (sym t.2) mp) one_p) one_p in
          elim (cases_eq k t.0) [
            | inl e ↦ absurd (off.1 p i (sym (ap (λ (x : Pair). x.col) (ap (λ j. get_or pairs j no_pair) e ∙ t.2))))
            | inr ne ↦ omega (arith, pivots.rising k t.0 (omega arith) (omega (arith, t.1, length-map pairs (λ (p : Pair). p.col))), col_is pairs k l, t.3)
          ];
    }

    covers_next : (d : ℕ) → d < length pairs → Contains (cut.0 ++ cut.1) (get_or pairs d no_pair) → slice_index waits2 d ≡ 1 → Queued queue2 d
    covers_next d ld i one_d = elim (cases_eq (entry A (get_or pairs k no_pair).row (col_at pairs d)) 0) [
      | inl z ↦ ⊎_elim
          (λ e. absurd (off.1 (get_or pairs d no_pair) i (ap (λ j. (get_or pairs j no_pair).col) e)))
          (λ t. queued d t)
          (taken.others d (s.covers d ld (in_left _ i) (sym (kept d ld z) ∙ one_d)) (sym (kept d ld z) ∙ one_d))
      | inr n ↦ pushed d ld n one_d
    ]

    pub listing_goes : IsListing A pairs (listed ++ get_or pairs k no_pair ∷ []) waits2 queue2
    listing_goes = record {
      left = cut.0 ++ cut.1;
      many = omega (arith, s.many, ap length cut.2, length-append cut.0 (q ∷ cut.1), length-append cut.0 cut.1, length_push listed q);
      old = λ p i. ⊎_elim (s.old p) (λ e. subst (Contains pairs) e (s.others q m)) (Contains-push_cases listed q p i);
      others = λ p i. s.others p (in_left p i);
      every = λ p i. ⊎_elim
          (λ o. inl (Contains-append_left listed (q ∷ []) p o))
          (λ t. ⊎_elim (λ e. inl (subst (Contains (listed ++ q ∷ [])) e (Contains-push listed q))) (λ u. inr u) (from_left p t))
          (s.every p i);
      apart = off.0;
      long = long2 ∙ s.long;
      counts = λ d ld. elim (cases_eq (entry A (get_or pairs k no_pair).row (col_at pairs d)) 0) [
        | inl z ↦ omega (arith, kept d ld z, s.counts d ld, less (col_at pairs d), flag_zero A q.row (col_at pairs d) z)
        | inr n ↦ omega (arith, lowered d ld n, s.counts d ld, less (col_at pairs d), flag_one A q.row (col_at pairs d) n)
      ];
      gone = λ p i. ⊎_elim
          (λ o. omega (arith, s.gone p o, less p.col))
          (λ e. ap (λ (x : Pair). column_count A (cut.0 ++ cut.1) x.col) (sym e) ∙ omega (arith, count_here, less q.col, flag_one A q.row q.col nonzero.2))
          (Contains-push_cases listed q p i);
      room = room2 ∙ taken.room ∙ s.room;
      covers = covers_next;
      next = next_push A listed q cut.0 cut.1 (subst (AreNext A listed) cut.2 s.next) next_here;
      chain = chain_append A listed (q ∷ []) s.chain (nonzero, (λ p i. absurd (not_in_nil p i)), tt)
          (λ a b ia ib. ⊎_elim
          (λ e. subst (λ (x : Pair). entry A x.row a.col ≡ 0) e (none_counted A s.left a.col (s.gone a ia) q m))
          (λ t. absurd (not_in_nil b t))
          (in_cases q [] b ib));
    }

    -- and fewer are left
    pub listing_shorter : length listed < length pairs
    listing_shorter = omega (arith, s.many, ap length cut.2, length-append cut.0 (q ∷ cut.1))

-- all are listed
pub listing_ends : {A : Matrix} {pairs listed : List Pair} {waits queue : List ℕ} → AreSortedPivots A pairs → IsListing A pairs listed waits queue →
    ((k : ℕ) → Queued queue k → slice_index waits k ≢ 1) → IsTriangularOrder A pairs listed
listing_ends {A} {pairs} {listed} {waits} {queue} pivots s none = elim (cases_lt (length listed) (length pairs)) [
  | inl less ↦ absurd (let t = some_waits pivots s less in none t.0 t.1 t.2)
  | inr ge ↦
      let nothing : s.left ≡ [] = empty s.left (omega (arith, s.many)) in
      record {
        long = omega (arith, s.many);
        members = λ p. (s.old p, (λ k. ⊎_elim (λ o. o) (λ t. absurd (not_in_nil p (subst (λ (x : List Pair). Contains x p) nothing t))) (s.every p k)));
        next = next_all A listed (subst (AreNext A listed) nothing s.next);
        triangular = chain_triangular A listed s.chain;
      }
]
  where
    empty : (xs : List Pair) → length xs ≡ 0 → xs ≡ []
    empty [] z = refl
    empty (x ∷ xs) z = absurd (omega arith)

-- the order of the sorted pairs is that of the pairs
pub order_of_sorted : {A : Matrix} {h pairs o : List Pair} → IsPermutation h pairs → IsTriangularOrder A pairs o → IsTriangularOrder A h o
order_of_sorted {A} {h} {pairs} {o} moved t = record {
  long = t.long ∙ length_permutation h pairs moved;
  members = λ p. (
    (λ m. Contains-permutation pairs h p (IsPermutation-sym h pairs moved) ((t.members p).0 m)),
    (λ m. (t.members p).1 (Contains-permutation h pairs p moved m)),
  );
  next = t.next;
  triangular = t.triangular;
}

-- there is one triangular order: its first pair is determined, and doesn't stand in the rest
not_again : {A : Matrix} {q : Pair} {qs : List Pair} → IsNext A q qs → ¬ Contains qs q
not_again {A} {q} {qs} n m = let less : q.col < q.col = n.least q m n.ready in absurd (omega arith)

heads_one : {A : Matrix} {q v : Pair} {qs vs : List Pair} → ((p : Pair) → Contains (q ∷ qs) p → Contains (v ∷ vs) p) → ((p : Pair) → Contains (v ∷ vs) p → Contains (q ∷ qs) p) →
    IsNext A q qs → IsNext A v vs → q ≡ v
heads_one {A} {q} {v} {qs} {vs} to from n k = ⊎_elim
    (λ e. sym e)
    (λ later. ⊎_elim
    (λ e. e)
    (λ behind.
    let one : v.col < q.col = k.least q later (λ p m d. n.ready p (from p m) d) in
    let other : q.col < v.col = n.least v behind (λ p m d. k.ready p (to p m) d) in
    absurd (omega arith))
    (in_cases q qs v (from v (in_head v vs))))
    (in_cases v vs q (to q (in_head q qs)))

order_one : (A : Matrix) (o u : List Pair) → ((p : Pair) → Contains o p → Contains u p) → ((p : Pair) → Contains u p → Contains o p) → AreInOrder A o → AreInOrder A u → o ≡ u
order_one A [] [] to from a b = refl
order_one A [] (v ∷ vs) to from a b = absurd (not_in_nil v (from v (in_head v vs)))
order_one A (q ∷ qs) [] to from a b = absurd (not_in_nil q (to q (in_head q qs)))
order_one A (q ∷ qs) (v ∷ vs) to from a b =
    let same : q ≡ v = heads_one to from a.0 b.0 in
    let rest : qs ≡ vs = order_one A qs vs
    (λ p m. ⊎_elim (λ e. absurd (not_again a.0 (subst (Contains qs) (sym e ∙ sym same) m))) (λ t. t) (in_cases v vs p (to p (in_tail q qs p m))))
    (λ p m. ⊎_elim (λ e. absurd (not_again b.0 (subst (Contains vs) (sym e ∙ same) m))) (λ t. t) (in_cases q qs p (from p (in_tail v vs p m))))
    a.1 b.1 in
    ap (λ (x : Pair). x ∷ qs) same ∙ ap (λ (l : List Pair). v ∷ l) rest

pub triangular_order_one : TriangularOrderIsOne
triangular_order_one A h o u x y = order_one A o u (λ p m. (y.members p).1 ((x.members p).0 m)) (λ p m. (x.members p).1 ((y.members p).0 m)) x.next y.next
