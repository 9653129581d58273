use Rattle.std.proofs.Common.{ℕ, ◌≡◌, List, ap, arith, length, replicate, subst, sym, ◌∙◌}
use Rattle.std.specs.List.{Contains}
use Rattle.std.specs.Vec.{with_items}
use Rattle.std.proofs.lemmas.List.{with_items_is}
use Rattle.row_space.specs.Factors.{col_at}
use Rattle.triangular_solve.specs.PivotRows.{IsOrderOf}
use Rattle.triangular_solve.proofs.OrderingColumns.{order_below, order_has, ordering_none}
use Rattle.triangular_solve.proofs.column_order.ColumnOrder.of.Goals as goal

pub place_pivots-requires-clause-pivotal : goal.place_pivots-requires-clause-pivotal
place_pivots-requires-clause-pivotal c = λ k l. subst (λ (xs : List ℕ). Contains xs (col_at c.args.pairs.now k)) (sym c.in_ok-sorted.ensures) (c.requires.pivotal k l)

pub by_places-requires : goal.by_places-requires
by_places-requires c =
    let kept : (with_items (with_items c.in_ok-places.places c.place_pivots.new.places) c.place_others.new.places).items ≡ c.place_others.new.places =
    with_items_is (with_items c.in_ok-places.places c.place_pivots.new.places) c.place_others.new.places (omega (arith, c.place_others.auto.places, c.deref_mut-2.ensures.len)) in
    record { order = subst (λ (ps : List ℕ). IsOrderOf c.in_ok-sorted.sorted ps c.place_others.new.columns.items) (sym kept) (subst (λ xs. IsOrderOf xs c.place_others.new.places c.place_others.new.columns.items) c.columns-3.ensures.columns c.in_ok-place_others.ensures.order) }

pub returns-clause-below : goal.returns-clause-below
returns-clause-below c =
    let order = subst (λ xs. IsOrderOf xs c.place_others.new.places c.place_others.new.columns.items) (c.columns-3.ensures.columns ∙ c.in_ok-sorted.ensures) c.in_ok-place_others.ensures.order in
    rw c.by_places.ensures (order_below order c.requires.below)

pub returns-clause-all : goal.returns-clause-all
returns-clause-all c =
    let order = subst (λ xs. IsOrderOf xs c.place_others.new.places c.place_others.new.columns.items) (c.columns-3.ensures.columns ∙ c.in_ok-sorted.ensures) c.in_ok-place_others.ensures.order in
    rw c.by_places.ensures (order_has order)

pub place_pivots-requires-clause-ordering : goal.place_pivots-requires-clause-ordering
place_pivots-requires-clause-ordering c =
    let taken : c.in_ok-places.places.items ≡ replicate (length c.columns.result.now) 4294967295 = c.in_ok-places.ensures.items_if_clones_equal (λ y e. e) in
    let made : c.deref_mut.result.now ≡ replicate (length c.in_ok-sorted.sorted) 4294967295 =
    c.deref_mut.ensures.value ∙ taken ∙ ap (λ (xs : List ℕ). replicate (length xs) 4294967295) c.columns.ensures.columns in
    rw (made, c.in_ok-columns.ensures.items) (ordering_none c.in_ok-sorted.sorted)

pub place_pivots-requires-clause-none : goal.place_pivots-requires-clause-none
place_pivots-requires-clause-none c = c.in_ok-columns.ensures.items

pub place_pivots-requires-clause-distinct : goal.place_pivots-requires-clause-distinct
place_pivots-requires-clause-distinct c = c.requires.distinct

pub place_others-requires-clause-few : goal.place_others-requires-clause-few
place_others-requires-clause-few c = omega (arith, ap length c.columns-3.ensures.columns, c.columns-3.ensures.few)

pub place_others-requires-clause-rising : goal.place_others-requires-clause-rising
place_others-requires-clause-rising c = rw c.columns-3.ensures.columns c.columns-3.ensures.rising

pub returns-clause-first : goal.returns-clause-first
returns-clause-first c = rw c.by_places.ensures (c.in_ok-place_others.ensures.first c.args.pairs.now c.in_ok-place_pivots.ensures.first c.in_ok-place_pivots.ensures.many)

pub of-requires-clause-rising : goal.of-requires-clause-rising
of-requires-clause-rising c = c.requires.rising

pub of-requires-clause-below : goal.of-requires-clause-below
of-requires-clause-below c = c.requires.below
