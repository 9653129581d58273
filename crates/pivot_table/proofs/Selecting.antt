-- From a search and its order to the selection; and that there is just one selection of one worker.
use Rattle.std.proofs.Common.{◌≡◌, ℕ, zero, suc, ◌≤◌, List, [], ◌∷◌, ◌++◌, sym, refl, ap, ap₂, ◌∙◌, inl, inr, subst, arith}
use Rattle.std.specs.List.{Contains}
use Rattle.std.proofs.lemmas.List.Elements.{Contains-append_left}
use Rattle.std.proofs.lemmas.Bool.{cases_lt}
use Rattle.residue_words.specs.Matrix.{Matrix}
use Rattle.residue_words.specs.declared.plain.Pair.{Pair}
use Rattle.pivot_table.specs.History.{pair, Alive, LeastAlive, Maximal, Path, Reaches, StartsWith}
use Rattle.pivot_table.specs.Greedy.{IsGreedy, IsGreedyBelow, IsTried}
use Rattle.pivot_table.specs.Leftmost.{IsLeftmost, IsSparsest}
use Rattle.pivot_table.specs.Order.{IsTriangularOrder}
use Rattle.pivot_table.specs.Selected.{Selected}

-- ---- what is alive in a list depends on its members alone

module _ (A : Matrix) (g h : List Pair) (inside : (q : Pair) → Contains g q → Contains h q) where
  path_within : (c : ℕ) (ds : List ℕ) (e : ℕ) → Path A g c ds e → Path A h c ds e
  path_within c [] e p = p
  path_within c (d ∷ ds) e p = ((p.0.0, inside (pair p.0.0 c) p.0.1, p.0.2, p.0.3), path_within d ds e p.1)

  reaches_within : (r j : ℕ) → Reaches A g r j → Reaches A h r j
  reaches_within r j t = (t.0, t.1, (t.2.0, inside t.2.0 t.2.1, t.2.2), t.3, path_within t.0 t.1 j t.4)

  pub alive_within : (r j : ℕ) → Alive A h r j → Alive A g r j
  alive_within r j t = record {
    entry = t.entry;
    fresh_row = λ x. t.fresh_row (x.0, inside x.0 x.1, x.2);
    fresh_col = λ x. t.fresh_col (x.0, inside x.0 x.1, x.2);
    unreached = λ x. t.unreached (reaches_within r j x);
  }

-- ---- the sparsest row of a column is one

pub sparsest_one : (A : Matrix) (r s c : ℕ) → IsSparsest A r c → IsSparsest A s c → r ≡ s
sparsest_one A r s c a b =
    let low : r ≤ s = a.lowest s b.begins (b.fewest r a.begins) in
    let high : s ≤ r = b.lowest r a.begins (a.fewest s b.begins) in
    omega arith

pub selected : (A : Matrix) (workers : ℕ) (first all qs : List Pair) → IsLeftmost A first → StartsWith all first → Maximal A all → IsTriangularOrder A all qs
    → (workers ≡ 1 → IsGreedy A first all) → Selected A workers qs
selected A workers first all qs leftmost begins maximal order greedy = record {
  triangular = order.triangular;
  maximal = λ r j t. maximal r j (alive_within A all qs (λ q c. (order.members q).1 c) r j t);
  leftmost = λ r c s.
      let found = leftmost.every r c s.begins in
      let sparsest : IsSparsest A found.0.row c = subst (IsSparsest A found.0.row) found.2 (leftmost.sparsest found.0 found.1) in
      let row : found.0.row ≡ r = sparsest_one A found.0.row r c sparsest s in
      let same : found.0 ≡ pair r c = ap₂ pair row found.2 in
      let member : Contains all found.0 = subst (λ (x : List Pair). Contains x found.0) (sym begins.1) (Contains-append_left first begins.0 found.0 found.1) in
      subst (Contains qs) same ((order.members found.0).1 member);
  one_worker = λ one. (first, all, leftmost, greedy one, order);
}

-- ---- rows that are tried in order leave one list

least_one : (A : Matrix) (h : List Pair) (r j k : ℕ) → LeastAlive A h r j → LeastAlive A h r k → j ≡ k
least_one A h r j k a b = elim (cases_lt j k) [
  | inl below ↦ absurd (b.1 j below a.0)
  | inr up ↦ elim (cases_lt k j) [
    | inl below ↦ absurd (a.1 k below b.0)
    | inr down ↦ omega arith
  ]
]

tried_one : {A : Matrix} {r : ℕ} {h g k : List Pair} → IsTried A r h g → IsTried A r h k → g ≡ k
tried_one (IsTried.dead d) (IsTried.dead e) = refl
tried_one (IsTried.dead d) (IsTried.taken j l) = absurd (d j l.0)
tried_one (IsTried.taken j l) (IsTried.dead d) = absurd (d j l.0)
tried_one {A} {r} {h} (IsTried.taken j l) (IsTried.taken k m) = ap (λ c. h ++ pair r c ∷ []) (least_one A h r j k l m)

greedy_below_one : (A : Matrix) (first : List Pair) (n : ℕ) (g k : List Pair) → IsGreedyBelow A first n g → IsGreedyBelow A first n k → g ≡ k
unfolding IsGreedyBelow
greedy_below_one A first zero g k a b = a ∙ sym b
greedy_below_one A first (suc n) g k (u, a, x) (v, b, y) =
    let same : v ≡ u = greedy_below_one A first n v u b a in
    tried_one x (subst (λ h. IsTried A n h k) same y)

pub greedy_one : (A : Matrix) (first g k : List Pair) → IsGreedy A first g → IsGreedy A first k → g ≡ k
greedy_one A first g k a b = greedy_below_one A first A.height g k a b
