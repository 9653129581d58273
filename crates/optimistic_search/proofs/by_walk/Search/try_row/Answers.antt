use Rattle.std.proofs.Common.{ℕ, ◌≡◌, ◌+◌, ◌++◌, ◌∷◌, [], length, Some, None, subst, sym, ap, ◌∙◌, refl, arith}
use Rattle.std.proofs.lemmas.List.{length_push}
use Rattle.residue_words.specs.declared.plain.Pair.{Pair}
use Rattle.sparse_rows.specs.Rows.{ResidueMatrix}
use Rattle.pivot_table.specs.Book.{BookState, HasRoom}
use Rattle.pivot_table.specs.Greedy.{IsTried}
use Rattle.pivot_table.specs.Greedy.IsTried.{dead, taken}
use Rattle.pivot_table.specs.History.{pair, Alive, Dead, Grown, LeastAlive}
use Rattle.pivot_table.proofs.Growth.{grown_push}
use Rattle.pivot_walks.specs.Cost.{IsCost}
use Rattle.pivot_walks.specs.Indexed.{Indexed}
use Rattle.optimistic_search.specs.Search.{IsBetweenRows, IsOverBook}
use Rattle.pivot_walks.specs.Walked.{Walked, extended}
use Rattle.optimistic_search.proofs.Searching.{room_left, closed_own}
use Rattle.optimistic_search.proofs.by_walk.Search.try_row.Goals as goal

-- the walk after the row was opened
began : (b : BookState) (w v : Walked) (r : ℕ) → IsOverBook b w → v ≡ record w { current = Some r } → v ≡ record { rows = b.rows; pairs = b.pairs; current = Some r }
began b w v r over e = e ∙ ap (λ (x : Walked). record x { current = Some r }) over

least : (b : BookState) (w v : Walked) (r j : ℕ) → IsOverBook b w → v ≡ record w { current = Some r } → ((t : ℕ) → v.current ≡ Some t → LeastAlive v.rows.matrix v.pairs t j) → LeastAlive b.rows.matrix b.pairs r j
least b w v r j over e l =
    let same = began b w v r over e in
    subst (λ (x : Walked). LeastAlive x.rows.matrix x.pairs r j) same (l r (ap (λ (x : Walked). x.current) same))

-- after the row's own pair
over_more : (b n : BookState) (w v x : Walked) (q : Pair) → IsOverBook b w → v ≡ record w { current = Some q.row } → x ≡ extended v q → n.rows ≡ b.rows → n.pairs ≡ b.pairs ++ q ∷ [] → IsOverBook n x
over_more b n w v x q over e f rows pairs =
    let same = began b w v q.row over e in
    let r : x.rows ≡ n.rows = ap (λ (y : Walked). y.rows) f ∙ ap (λ (y : Walked). y.rows) same ∙ sym rows in
    let p : x.pairs ≡ n.pairs = ap (λ (y : Walked). y.pairs) f ∙ ap (λ (y : Walked). y.pairs ++ q ∷ []) same ∙ sym pairs in
    let c : x.current ≡ None = ap (λ (y : Walked). y.current) f ∙ closed_own v q (ap (λ (y : Walked). y.current) same) in
    λ i. record { rows = r i; pairs = p i; current = c i }

between_more : (b n : BookState) (w x : Walked) (q : Pair) → IsBetweenRows b w → IsOverBook n x → Alive b.rows.matrix b.pairs q.row q.col → n.rows ≡ b.rows → n.pairs ≡ b.pairs ++ q ∷ [] → n.spare + 1 ≡ b.spare → IsBetweenRows n x
between_more b n w x q s over alive rows pairs spare = record {
  walk = over;
  room = subst (λ (m : ResidueMatrix). HasRoom m.matrix n) (sym rows) (omega (arith, s.room, ap length pairs, length_push b.pairs q, spare));
  grown = subst (λ (m : ResidueMatrix). Grown m.matrix n.pairs) (sym rows) (subst (Grown b.rows.matrix) (sym pairs) (grown_push b.rows.matrix b.pairs q s.grown alive));
}

pub push-requires-clause-alive : goal.push-requires-clause-alive
push-requires-clause-alive g c = (least c.self.inside.book c.self.inside.walk c.begin.new.self c.args.row c.in-Some.col c.self.invariant.walk c.begin.ensures.walk c.in-Some.ensures).0

pub push-requires-clause-room : goal.push-requires-clause-room
push-requires-clause-room g c =
    let b = c.self.inside.book in
    room_left b.rows.matrix b.pairs (pair c.args.row c.in-Some.col) b.spare c.self.invariant.grown
    (least b c.self.inside.walk c.begin.new.self c.args.row c.in-Some.col c.self.invariant.walk c.begin.ensures.walk c.in-Some.ensures).0
    c.self.invariant.room

pub invariant_of-self : goal.invariant_of-self
invariant_of-self g c =
    let b = c.self.inside.book in
    let w = c.self.inside.walk in
    let q = pair c.args.row c.in-Some.col in
    between_more b c.push.new.self w c.extend.new.self q c.self.invariant
    (over_more b c.push.new.self w c.begin.new.self c.extend.new.self q c.self.invariant.walk c.begin.ensures.walk c.extend.ensures.walk c.push.ensures.rows c.push.ensures.pairs)
    (least b w c.begin.new.self c.args.row c.in-Some.col c.self.invariant.walk c.begin.ensures.walk c.in-Some.ensures).0
    c.push.ensures.rows c.push.ensures.pairs c.push.ensures.spare

pub returns-in-Some-clause-tried : goal.returns-in-Some-clause-tried
returns-in-Some-clause-tried g c =
    let b = c.self.inside.book in
    subst (λ (i : Indexed). IsTried i.rows.matrix c.args.row i.pairs c.push.new.self.pairs) c.self.view_is
    (subst (IsTried b.rows.matrix c.args.row b.pairs) (sym c.push.ensures.pairs)
    (taken c.in-Some.col (least b c.self.inside.walk c.begin.new.self c.args.row c.in-Some.col c.self.invariant.walk c.begin.ensures.walk c.in-Some.ensures)))

pub returns-in-None-clause-tried : goal.returns-in-None-clause-tried
returns-in-None-clause-tried g c =
    let b = c.self.inside.book in
    let same = began b c.self.inside.walk c.begin.new.self c.args.row c.self.invariant.walk c.begin.ensures.walk in
    subst (λ (i : Indexed). IsTried i.rows.matrix c.args.row i.pairs b.pairs) c.self.view_is
    (dead (subst (λ (x : Walked). Dead x.rows.matrix x.pairs c.args.row) same (c.in-None.ensures c.args.row (ap (λ (x : Walked). x.current) same))))

pub returns-then-not-has_candidate-clause-tried : goal.returns-then-not-has_candidate-clause-tried
returns-then-not-has_candidate-clause-tried g c =
    dead (subst (λ (i : Indexed). Dead i.rows.matrix i.pairs c.args.row) c.self.view_is
    (subst (λ (x : Walked). Dead x.rows.matrix x.pairs c.args.row) c.self.invariant.walk (c.if-not-has_candidate.ensures.no refl)))

pub returns-in-Some-clause-cost : goal.returns-in-Some-clause-cost
returns-in-Some-clause-cost g c = λ n cost.
    let here : IsCost c.self.inside.walk.rows.matrix c.self.inside.walk.pairs c.args.row n =
    subst (λ (x : Walked). IsCost x.rows.matrix x.pairs c.args.row n) (sym c.self.invariant.walk) (subst (λ (i : Indexed). IsCost i.rows.matrix i.pairs c.args.row n) (sym c.self.view_is) cost) in
    let closed : c.extend.new.self.current ≡ None = ap (λ (x : Walked). x.current) c.extend.ensures.walk ∙ closed_own c.begin.new.self (pair c.args.row c.in-Some.col) (ap (λ (x : Walked). x.current) c.begin.ensures.walk) in
    omega (arith, c.extend.ensures.none closed, c.begin.ensures.cost n here)

pub returns-in-None-clause-cost : goal.returns-in-None-clause-cost
returns-in-None-clause-cost g c = λ n cost.
    c.begin.ensures.cost n (subst (λ (x : Walked). IsCost x.rows.matrix x.pairs c.args.row n) (sym c.self.invariant.walk) (subst (λ (i : Indexed). IsCost i.rows.matrix i.pairs c.args.row n) (sym c.self.view_is) cost))
