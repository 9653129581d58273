use Rattle.std.proofs.Common.{length, slice_set, subst, sym, ◌∙◌, arith}
use Rattle.triangular_solve.specs.PivotRows.{IsOrdering}
use Rattle.triangular_solve.proofs.OrderingColumns.{ordering_more, ordering_short}
use Rattle.triangular_solve.proofs.column_order.append.Goals as goal

pub overflow_cast-places : goal.overflow_cast-places
overflow_cast-places c = record { fits = omega (arith, ordering_short c.requires.ordering, c.requires.few) }

pub returns-clause-ordering : goal.returns-clause-ordering
returns-clause-ordering c =
    subst (λ n. IsOrdering c.args.sorted.now (slice_set c.args.places.now c.args.at n) c.push.new.self.items) (sym (c.len.ensures ∙ omega arith))
    (subst (IsOrdering c.args.sorted.now (slice_set c.args.places.now c.args.at (length c.args.columns.now.items))) (sym c.in_ok-push.ensures.items)
    (ordering_more c.requires.few c.requires.ordering c.args.at c.requires.at c.requires.new))
