use Rattle.std.proofs.Common.{◌<◌, length, subst, sym, arith}
use Rattle.std.specs.List.{Contains}
use Rattle.pivot_walks.specs.MarkedColumns.{Marked}
use Rattle.pivot_walks.proofs.Marking.{fewer, marked}
use Rattle.pivot_walks.proofs.marked_columns.MarkedColumns.mark.Goals as goal

pub push_reserved-requires : goal.push_reserved-requires
push_reserved-requires c =
    let m = c.self.invariant in
    let l : c.args.j < length c.self.inside.flags.items = subst (λ (w : Marked). c.args.j < w.width) (sym c.self.view_is) c.requires.column in
    let fresh : ¬ Contains c.self.inside.list.items c.args.j = subst (λ (w : Marked). ¬ Contains w.list c.args.j) (sym c.self.view_is) c.requires.fresh in
    omega (arith, fewer c.self.inside.list.items c.args.j m.distinct fresh (length c.self.inside.flags.items) m.inside l, m.enough, c.self.inside.list.ok.0)

pub invariant_of-self : goal.invariant_of-self
invariant_of-self c =
    let l : c.args.j < length c.self.inside.flags.items = subst (λ (w : Marked). c.args.j < w.width) (sym c.self.view_is) c.requires.column in
    let fresh : ¬ Contains c.self.inside.list.items c.args.j = subst (λ (w : Marked). ¬ Contains w.list c.args.j) (sym c.self.view_is) c.requires.fresh in
    rw (c.push_reserved.ensures.items, c.push_reserved.ensures.capacity) (marked c.self.invariant c.args.j l fresh)
