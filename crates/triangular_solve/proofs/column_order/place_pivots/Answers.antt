use Rattle.std.proofs.Common.{[], ◌++◌, ◌∷◌, ap, arith, length, sym, subst, slice_index, ◌∙◌}
use Rattle.std.specs.List.{Contains}
use Rattle.triangular_solve.specs.PivotRows.{IsOrdering}
use Rattle.triangular_solve.proofs.Listing.{col_is}
use Rattle.triangular_solve.proofs.OrderingColumns.{pivot_is_new, pivots_more, pivots_none}
use Rattle.triangular_solve.proofs.column_order.place_pivots.Goals as goal
use Rattle.triangular_solve.proofs.column_order.place_pivots.Goals.{in-Some+in_ok-append, in_default}

pub append-requires-clause-new : goal.append-requires-clause-new
append-requires-clause-new c =
    pivot_is_new c.requires.distinct c.loop-k.invariant c.loop-k-test.true c.in-Some.at c.in-Some.ensures.0 (c.in-Some.ensures.1 ∙ col_is c.args.pairs.now c.loop-k.k c.loop-k-test.true)

pub loop-k-preserved : goal.loop-k-preserved
loop-k-preserved c = elim c.match-find.branch [
  | in-Some+in_ok-append w ↦ rw w.places-is (rw w.columns-is (pivots_more w.in-Some.at c.loop-k.invariant (w.in-Some.ensures.1 ∙ col_is c.args.pairs.now c.loop-k.k c.loop-k-test.true)
      (subst (λ xs. IsOrdering xs w.append.new.places w.append.new.columns.items) w.columns.ensures.columns w.in_ok-append.ensures.ordering)
      (w.in_ok-append.ensures.columns ∙ ap (λ xs. c.loop-k.columns.items ++ slice_index xs w.in-Some.at ∷ []) w.columns.ensures.columns)))
  | in_default w ↦ absurd (w.in_default.ensures (subst (Contains c.args.sorted.now) (sym (col_is c.args.pairs.now c.loop-k.k c.loop-k-test.true)) (c.requires.pivotal c.loop-k.k c.loop-k-test.true)))
]

pub append-requires-clause-at : goal.append-requires-clause-at
append-requires-clause-at c = omega (arith, c.in-Some.ensures.0, ap length c.columns.ensures.columns)

pub append-requires-clause-few : goal.append-requires-clause-few
append-requires-clause-few c = omega (arith, ap length c.columns.ensures.columns, c.columns.ensures.few)

pub append-requires-clause-rising : goal.append-requires-clause-rising
append-requires-clause-rising c = rw c.columns.ensures.columns c.columns.ensures.rising

pub append-requires-clause-ordering : goal.append-requires-clause-ordering
append-requires-clause-ordering c = rw c.columns.ensures.columns c.loop-k.invariant.ordering

pub loop-k-init : goal.loop-k-init
loop-k-init c = pivots_none c.requires.ordering c.requires.none

pub returns-clause-ordering : goal.returns-clause-ordering
returns-clause-ordering c = c.loop-k.invariant.ordering

pub returns-clause-many : goal.returns-clause-many
returns-clause-many c = c.loop-k.invariant.many ∙ omega arith
