use Rattle.std.proofs.Common.{subst, sym, arith}
use Rattle.pivot_table.specs.History.{HasCol, HasRow, Nonzero}
use Rattle.pivot_walks.specs.Indexed.{Indexed}
use Rattle.pivot_walks.proofs.Indexing.{has_room, indexed}
use Rattle.pivot_walks.proofs.indexed_pairs.IndexedPairs.push.Goals as goal

pub push_reserved-requires : goal.push_reserved-requires
push_reserved-requires c =
    let q = c.args.pair in
    omega (
      arith,
      c.self.inside.pairs.ok.0,
      has_room c.self.invariant q
          (subst (λ (w : Indexed). Nonzero w.rows.matrix q.row q.col) (sym c.self.view_is) c.requires.inside)
          (subst (λ (w : Indexed). ¬ HasRow w.pairs q.row) (sym c.self.view_is) c.requires.fresh_row)
          (subst (λ (w : Indexed). ¬ HasCol w.pairs q.col) (sym c.self.view_is) c.requires.fresh_col),
    )

pub invariant_of-self : goal.invariant_of-self
invariant_of-self c =
    let q = c.args.pair in
    rw (c.push_reserved.ensures.items, c.push_reserved.ensures.capacity) (indexed c.self.invariant q
    (subst (λ (w : Indexed). Nonzero w.rows.matrix q.row q.col) (sym c.self.view_is) c.requires.inside)
    (subst (λ (w : Indexed). ¬ HasRow w.pairs q.row) (sym c.self.view_is) c.requires.fresh_row)
    (subst (λ (w : Indexed). ¬ HasCol w.pairs q.col) (sym c.self.view_is) c.requires.fresh_col))
