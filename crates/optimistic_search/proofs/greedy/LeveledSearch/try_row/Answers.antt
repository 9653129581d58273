use Rattle.std.proofs.Common.{ℕ, List, ◌≡◌, ◌+◌, ◌++◌, ◌∷◌, [], length, subst, sym, ap, ◌∙◌, arith}
use Rattle.std.proofs.lemmas.List.{length_push}
use Rattle.residue_words.specs.declared.plain.Pair.{Pair}
use Rattle.sparse_rows.specs.Rows.{ResidueMatrix}
use Rattle.pivot_table.specs.Book.{BookState, HasRoom}
use Rattle.pivot_table.specs.Greedy.{IsTried}
use Rattle.pivot_table.specs.Greedy.IsTried.{dead, taken}
use Rattle.pivot_table.specs.History.{pair, Alive, Dead, Grown, LeastAlive}
use Rattle.pivot_table.proofs.Growth.{grown_push}
use Rattle.pivot_walks.specs.Levels.{Leveled}
use Rattle.optimistic_search.specs.Search.{IsLeveled}
use Rattle.optimistic_search.proofs.Searching.{room_left}
use Rattle.optimistic_search.proofs.greedy.LeveledSearch.try_row.Goals as goal

-- one list under two names
both : (b : BookState) (w : Leveled) → IsLeveled b w → w ≡ record { rows = b.rows; pairs = b.pairs; left = w.left }
both b w s = λ i. record { rows = s.rows i; pairs = s.pairs i; left = w.left }

least : (b : BookState) (w : Leveled) (r j : ℕ) → IsLeveled b w → LeastAlive w.rows.matrix w.pairs r j → LeastAlive b.rows.matrix b.pairs r j
least b w r j s l = subst (λ (x : Leveled). LeastAlive x.rows.matrix x.pairs r j) (both b w s) l

-- after a pair
leveled_more : (b n : BookState) (w v x : Leveled) (q : Pair) → IsLeveled b w → Alive b.rows.matrix b.pairs q.row q.col → n.rows ≡ b.rows → n.pairs ≡ b.pairs ++ q ∷ [] → n.spare + 1 ≡ b.spare → v.rows ≡ w.rows → v.pairs ≡ w.pairs → x.rows ≡ v.rows → x.pairs ≡ v.pairs ++ q ∷ [] →
    IsLeveled n x
leveled_more b n w v x q s alive rows pairs spare same_rows same_pairs new_rows new_pairs = record {
  rows = new_rows ∙ same_rows ∙ s.rows ∙ sym rows;
  pairs = new_pairs ∙ ap (λ (h : List Pair). h ++ q ∷ []) (same_pairs ∙ s.pairs) ∙ sym pairs;
  room = subst (λ (m : ResidueMatrix). HasRoom m.matrix n) (sym rows) (omega (arith, s.room, ap length pairs, length_push b.pairs q, spare));
  grown = subst (λ (m : ResidueMatrix). Grown m.matrix n.pairs) (sym rows) (subst (Grown b.rows.matrix) (sym pairs) (grown_push b.rows.matrix b.pairs q s.grown alive));
}

pub push-requires-clause-alive : goal.push-requires-clause-alive
push-requires-clause-alive c = (least c.self.inside.book c.self.inside.walk c.args.row c.in-Some.col c.self.invariant c.in-Some.ensures.some).0

pub push-requires-clause-room : goal.push-requires-clause-room
push-requires-clause-room c =
    let b = c.self.inside.book in
    room_left b.rows.matrix b.pairs (pair c.args.row c.in-Some.col) b.spare c.self.invariant.grown
    (least b c.self.inside.walk c.args.row c.in-Some.col c.self.invariant c.in-Some.ensures.some).0 c.self.invariant.room

pub returns-in-Some-clause-tried : goal.returns-in-Some-clause-tried
returns-in-Some-clause-tried c = λ left.
    let b = c.self.inside.book in
    subst (λ (v : Leveled). IsTried v.rows.matrix c.args.row v.pairs c.push.new.self.pairs) c.self.view_is
    (subst (IsTried b.rows.matrix c.args.row b.pairs) (sym c.push.ensures.pairs)
    (taken c.in-Some.col (least b c.self.inside.walk c.args.row c.in-Some.col c.self.invariant c.in-Some.ensures.some)))

pub returns-in-None-clause-tried : goal.returns-in-None-clause-tried
returns-in-None-clause-tried c = λ left.
    let b = c.self.inside.book in
    subst (λ (v : Leveled). IsTried v.rows.matrix c.args.row v.pairs b.pairs) c.self.view_is
    (dead (subst (λ (w : Leveled). Dead w.rows.matrix w.pairs c.args.row) (both b c.self.inside.walk c.self.invariant) (c.in-None.ensures.none left)))

pub invariant_of-self : goal.invariant_of-self
invariant_of-self c =
    let b = c.self.inside.book in
    let w = c.self.inside.walk in
    leveled_more b c.push.new.self w c.least_alive.new.self c.push-in-Some.new.self (pair c.args.row c.in-Some.col) c.self.invariant
    (least b w c.args.row c.in-Some.col c.self.invariant c.in-Some.ensures.some).0
    c.push.ensures.rows c.push.ensures.pairs c.push.ensures.spare c.least_alive.ensures.rows c.least_alive.ensures.pairs c.push-in-Some.ensures.rows c.push-in-Some.ensures.pairs
