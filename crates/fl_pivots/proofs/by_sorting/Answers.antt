use Rattle.std.proofs.Common.{List, sym, subst}
use Rattle.sparse_rows.specs.Rows.{ResidueMatrix}
use Rattle.fl_pivots.specs.declared.beginning.Beginning.{Beginning}
use Rattle.fl_pivots.specs.Beginnings.{AreBeginnings, AreSorted}
use Rattle.fl_pivots.proofs.Listing.{listed_moved, sorted_of}
use Rattle.fl_pivots.proofs.by_sorting.Goals as goal

pub take_first-requires-clause-beginnings : goal.take_first-requires-clause-beginnings
take_first-requires-clause-beginnings c =
    subst (λ (m : ResidueMatrix). AreBeginnings m.matrix m.matrix.height c.deref.result.now) (sym c.in_ok-book.ensures.rows)
    (subst (λ (l : List Beginning). AreBeginnings c.args.rows.now.matrix c.args.rows.now.matrix.height l) (sym c.deref.ensures.value)
    (listed_moved c.in_ok-beginnings.ensures c.sort_unstable.ensures.permutation))

pub take_first-requires-clause-sorted : goal.take_first-requires-clause-sorted
take_first-requires-clause-sorted c = subst AreSorted (sym c.deref.ensures.value) (sorted_of c.sort_unstable.new.self.items c.sort_unstable.ensures.sorted)
