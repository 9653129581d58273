-- What a walk has spent against what it may cost.
use Rattle.std.proofs.Common.{ℕ, suc, ◌≡◌, ◌≢◌, ◌+◌, ◌<◌, ◌≤◌, cond, eqb, List, [], ◌∷◌, ◌++◌, length, take, drop, slice_index, inl, inr, ⊎_elim, sym, refl, ap, subst, ◌∙◌, arith}
use Rattle.std.specs.List.{Contains}
use Rattle.std.proofs.lemmas.Bool.{cases_eq, cond-true, cond-false, eq-eqb, ne_eqb}
use Rattle.std.proofs.lemmas.List.{take_more, take-append-drop, take-append-le}
use Rattle.residue_words.specs.Matrix.{Matrix}
use Rattle.residue_words.specs.declared.plain.Pair.{Pair}
use Rattle.sparse_rows.specs.Rows.{AreDistinct}
use Rattle.pivot_table.specs.History.{pair, row_weight, Reaches}
use Rattle.pivot_table.specs.Order.{IsParted}
use Rattle.pivot_table.specs.Order.IsParted.{nothing, left, right}
use Rattle.pivot_table.proofs.Growth.{reaches_more}
use Rattle.residue_words.proofs.Lists.{in_cases, in_head, in_tail, not_in_nil, place_in}
use Rattle.pivot_table.proofs.Orders.{part, parted_one}
use Rattle.pivot_table.proofs.Reaching.{decide_reach}
use Rattle.pivot_walks.specs.Cost.{total_weight, IsCost, CostIsOne, CostRises}
use Rattle.pivot_walks.specs.MarkedColumns.{Grows}
use Rattle.pivot_walks.specs.Spent.{weight_at, spent}
use Rattle.pivot_walks.specs.Reached.{AreReached, PivotalAreMarked, AreFollowed}
use Rattle.pivot_walks.proofs.Walking.{reaches_marked}

-- w where the columns are the same
abbrev hit : ℕ → ℕ → ℕ → ℕ
hit w j c = cond (eqb j c) w 0

hit_yes : (w j c : ℕ) → j ≡ c → hit w j c ≡ w
hit_yes w j c e = cond-true (eqb j c) w 0 (eq-eqb j c e)

hit_no : (w j c : ℕ) → j ≢ c → hit w j c ≡ 0
hit_no w j c d = cond-false (eqb j c) w 0 (ne_eqb j c d)

-- at how many of the columns
abbrev hits : ℕ → ℕ → List ℕ → ℕ
hits w j [] = 0
hits w j (c ∷ cs) = hit w j c + hits w j cs

hits_none : (w j : ℕ) (cs : List ℕ) → ¬ Contains cs j → hits w j cs ≡ 0
hits_none w j [] n = refl
hits_none w j (c ∷ cs) n =
    let here : hit w j c ≡ 0 = hit_no w j c (λ e. n (subst (Contains (c ∷ cs)) (sym e) (in_head c cs))) in
    let rest : hits w j cs ≡ 0 = hits_none w j cs (λ m. n (in_tail c cs j m)) in
    omega arith

hits_some : (w j : ℕ) (cs : List ℕ) → Contains cs j → w ≤ hits w j cs
hits_some w j [] m = absurd (not_in_nil j m)
hits_some w j (c ∷ cs) m = ⊎_elim
    (λ e. let here : hit w j c ≡ w = hit_yes w j c (sym e) in omega arith)
    (λ t. let rest : w ≤ hits w j cs = hits_some w j cs t in omega arith)
    (in_cases c cs j m)

tail_distinct : (c : ℕ) (cs : List ℕ) → AreDistinct (c ∷ cs) → AreDistinct cs
tail_distinct c cs d k t less l = d (suc k) (suc t) (omega arith) (omega arith)

head_distinct : (c : ℕ) (cs : List ℕ) → AreDistinct (c ∷ cs) → ¬ Contains cs c
head_distinct c cs d m = let p = place_in cs c m in d 0 (suc p.0) (omega arith) (omega (arith, p.1)) (sym p.2)

hits_once : (w j : ℕ) (cs : List ℕ) → AreDistinct cs → hits w j cs ≤ w
hits_once w j [] d = omega arith
hits_once w j (c ∷ cs) d = elim (cases_eq j c) [
  | inl e ↦
      let here : hit w j c ≡ w = hit_yes w j c e in
      let rest : hits w j cs ≡ 0 = hits_none w j cs (subst (λ x. ¬ Contains cs x) (sym e) (head_distinct c cs d)) in
      omega arith
  | inr ne ↦
      let here : hit w j c ≡ 0 = hit_no w j c ne in
      let rest : hits w j cs ≤ w = hits_once w j cs (tail_distinct c cs d) in
      omega arith
]

module _ (A : Matrix) where
  spent_nil : (cs : List ℕ) → spent A [] cs ≡ 0
  spent_nil [] = refl
  spent_nil (c ∷ cs) = let rest : spent A [] cs ≡ 0 = spent_nil cs in omega arith

  spent_cons : (q : Pair) (h : List Pair) (cs : List ℕ) → spent A (q ∷ h) cs ≡ hits (row_weight A q.row) q.col cs + spent A h cs
  spent_cons q h [] = refl
  spent_cons q h (c ∷ cs) = let rest : spent A (q ∷ h) cs ≡ hits (row_weight A q.row) q.col cs + spent A h cs = spent_cons q h cs in omega arith

  -- a pair more
  spent_push : (h : List Pair) (q : Pair) (cs : List ℕ) → spent A (h ++ q ∷ []) cs ≡ spent A h cs + hits (row_weight A q.row) q.col cs
  spent_push [] q cs = spent_cons q [] cs ∙ (let none = spent_nil cs in omega arith)
  spent_push (x ∷ h) q cs =
      let rest : spent A (h ++ q ∷ []) cs ≡ spent A h cs + hits (row_weight A q.row) q.col cs = spent_push h q cs in
      let front : spent A (x ∷ (h ++ q ∷ [])) cs ≡ hits (row_weight A x.row) x.col cs + spent A (h ++ q ∷ []) cs = spent_cons x (h ++ q ∷ []) cs in
      let back : spent A (x ∷ h) cs ≡ hits (row_weight A x.row) x.col cs + spent A h cs = spent_cons x h cs in
      omega arith

  pub spent_keeps : (h : List Pair) (q : Pair) (cs : List ℕ) → spent A h cs ≤ spent A (h ++ q ∷ []) cs
  spent_keeps h q cs = omega (arith, spent_push h q cs)

  pub spent_takes : (h : List Pair) (q : Pair) (cs : List ℕ) → Contains cs q.col → row_weight A q.row + spent A h cs ≤ spent A (h ++ q ∷ []) cs
  spent_takes h q cs m = omega (arith, spent_push h q cs, hits_some (row_weight A q.row) q.col cs m)

  -- columns more
  spent_append : (h : List Pair) (cs ds : List ℕ) → spent A h (cs ++ ds) ≡ spent A h cs + spent A h ds
  spent_append h [] ds = omega arith
  spent_append h (c ∷ cs) ds = let rest : spent A h (cs ++ ds) ≡ spent A h cs + spent A h ds = spent_append h cs ds in omega arith

  -- one column more is taken up
  pub spent_more : (h : List Pair) (cs : List ℕ) (k : ℕ) → k < length cs → spent A h (take (k + 1) cs) ≡ spent A h (take k cs) + weight_at A h (slice_index cs k)
  spent_more h cs k l =
      ap (spent A h) (take_more cs k 0 l) ∙ spent_append h (take k cs) (slice_index cs k ∷ []) ∙ (let none : spent A h [] ≡ 0 = refl in omega arith)

  pub spent_front : (h : List Pair) (k : ℕ) (cs : List ℕ) → spent A h (take k cs) ≤ spent A h cs
  spent_front h k cs = let whole : spent A h (take k cs ++ drop k cs) ≡ spent A h cs = ap (spent A h) (take-append-drop k cs) in omega (arith, spent_append h (take k cs) (drop k cs))

  pub spent_step : {P : ℕ → Type 0} {old new : List ℕ} (h : List Pair) (k : ℕ) → Grows P old new → k < length old → spent A h (take (k + 1) new) ≡ spent A h (take k old) + weight_at A h (slice_index old k)
  spent_step {P} {old} {new} h k g l =
      let front : take (k + 1) new ≡ take (k + 1) old = ap (take (k + 1)) g.is ∙ take-append-le (k + 1) old g.more (omega arith) in
      ap (spent A h) front ∙ spent_more h old k l

  -- the row of a pair at its column
  pub weight_in : (h : List Pair) (s c : ℕ) → Contains h (pair s c) → row_weight A s ≤ weight_at A h c
  weight_in [] s c m = absurd (not_in_nil (pair s c) m)
  weight_in (q ∷ h) s c m = ⊎_elim
      (λ e.
      let row : q.row ≡ s = ap (λ (x : Pair). x.row) e in
      let col : q.col ≡ c = ap (λ (x : Pair). x.col) e in
      let here : hit (row_weight A q.row) q.col c ≡ row_weight A q.row = hit_yes (row_weight A q.row) q.col c col in
      let same : row_weight A q.row ≡ row_weight A s = ap (row_weight A) row in
      omega arith)
      (λ t. let rest : row_weight A s ≤ weight_at A h c = weight_in h s c t in omega arith)
      (in_cases q h (pair s c) m)

  -- what distinct columns with P cost, against the pairs with P
  module _ (P : ℕ → Type 0) (cs : List ℕ) where
    at_most : {h us vs : List Pair} → AreDistinct cs → ((c : ℕ) → Contains cs c → P c) → IsParted (λ (q : Pair). P q.col) h us vs → spent A h cs ≤ total_weight A vs
    at_most d each nothing = let none = spent_nil cs in omega arith
    at_most d each (left {x = x} {xs = xs} {us = us} {vs = vs} n p) =
        let rest : spent A xs cs ≤ total_weight A vs = at_most d each p in
        let none : hits (row_weight A x.row) x.col cs ≡ 0 = hits_none (row_weight A x.row) x.col cs (λ m. n (each x.col m)) in
        omega (arith, spent_cons x xs cs)
    at_most d each (right {x = x} {xs = xs} {us = us} {vs = vs} y p) =
        let rest : spent A xs cs ≤ total_weight A vs = at_most d each p in
        let once : hits (row_weight A x.row) x.col cs ≤ row_weight A x.row = hits_once (row_weight A x.row) x.col cs d in
        omega (arith, spent_cons x xs cs)

    at_least : {h us vs : List Pair} → ((c : ℕ) → P c → Contains cs c) → IsParted (λ (q : Pair). P q.col) h us vs → total_weight A vs ≤ spent A h cs
    at_least each nothing = omega arith
    at_least each (left {x = x} {xs = xs} {us = us} {vs = vs} n p) =
        let rest : total_weight A vs ≤ spent A xs cs = at_least each p in
        omega (arith, spent_cons x xs cs)
    at_least each (right {x = x} {xs = xs} {us = us} {vs = vs} y p) =
        let rest : total_weight A vs ≤ spent A xs cs = at_least each p in
        let some : row_weight A x.row ≤ hits (row_weight A x.row) x.col cs = hits_some (row_weight A x.row) x.col cs (each x.col y) in
        omega (arith, spent_cons x xs cs)

  -- more pairs, more of which have P
  rises : {P Q : Pair → Type 0} {h us vs us2 vs2 : List Pair} (more : List Pair) → ((q : Pair) → P q → Q q) → IsParted P h us vs → IsParted Q (h ++ more) us2 vs2 → total_weight A vs ≤ total_weight A vs2
  rises more w nothing p2 = omega arith
  rises more w (left n p) (left n2 p2) = rises more w p p2
  rises more w (left n p) (right {vs = vs2} y2 p2) = let rest = rises more w p p2 in omega arith
  rises more w (right {x = x} y p) (left n2 p2) = absurd (n2 (w x y))
  rises more w (right y p) (right y2 p2) = let rest = rises more w p p2 in omega arith

module _ {A : Matrix} {h : List Pair} {r n : ℕ} (c : IsCost A h r n) where
  pub cost_spent : (marked : List ℕ) → AreDistinct marked → AreReached A h r marked → row_weight A r + spent A h marked ≤ n
  cost_spent marked d reached = omega (arith, c.is, at_most A (Reaches A h r) marked d reached c.parted)

  pub cost_covered : (marked : List ℕ) → ((e : ℕ) → Reaches A h r e → Contains marked e) → n ≤ row_weight A r + spent A h marked
  cost_covered marked each = omega (arith, c.is, at_least A (Reaches A h r) marked each c.parted)

pub cost_is_one : CostIsOne
cost_is_one A h r =
    let t = part (λ (q : Pair). Reaches A h r q.col) (λ q. decide_reach A h r q.col) h in
    let c : IsCost A h r (row_weight A r + total_weight A t.1) = record { others = t.0; reached = t.1; parted = t.2; is = refl } in
    (row_weight A r + total_weight A t.1, c, λ m d. d.is ∙ ap (λ l. row_weight A r + total_weight A l) (parted_one (λ (q : Pair). Reaches A h r q.col) d.parted t.2).1)

pub cost_rises : CostRises
cost_rises A h more r m n a b = omega (arith, a.is, b.is, rises A more (λ (q : Pair). reaches_more A h more r q.col) a.parted b.parted)

-- a pair was met and the walk carried on: from s0 to s1 by the columns in front, to s2 by what is marked since
pub carried : (A : Matrix) (h : List Pair) (r : ℕ) (q : Pair) (old front new : List ℕ) (s0 s1 s2 m n : ℕ) → AreFollowed A h (length old) old → PivotalAreMarked A h r old → AreReached A (h ++ q ∷ []) r new → AreDistinct new →
    s1 + spent A h old ≤ s0 + spent A (h ++ q ∷ []) front → s2 + spent A (h ++ q ∷ []) front ≤ s1 + spent A (h ++ q ∷ []) new →
    IsCost A h r m → IsCost A (h ++ q ∷ []) r n → s2 + m ≤ s0 + n
carried A h r q old front new s0 s1 s2 m n goes begun reached distinct one two a b =
    omega (arith, one, two, cost_covered a old (reaches_marked A h r old goes begun), cost_spent b new distinct reached)
