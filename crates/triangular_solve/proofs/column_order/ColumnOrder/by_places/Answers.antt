use Rattle.std.proofs.Common.{ℕ, ◌≡◌, List, IfSome, sym, subst, arith}
use Rattle.std.specs.Vec.{with_items}
use Rattle.std.proofs.lemmas.List.{with_items_is}
use Rattle.triangular_solve.specs.AscendingColumns.{IsTable}
use Rattle.triangular_solve.specs.PivotRows.{IsOrderOf}
use Rattle.triangular_solve.proofs.OrderingColumns.{ordering_distinct, ordering_short}
use Rattle.triangular_solve.proofs.Placing.{sorted_alone, sorted_below}
use Rattle.triangular_solve.proofs.column_order.ColumnOrder.by_places.Goals as goal

pub number-requires : goal.number-requires
number-requires c =
    let t = subst (λ o. IfSome o (λ t. IsTable c.into_parts-sorted.result.0.items t.items)) c.in-Some.is c.into_parts-sorted.ensures.table.right in
    let o = subst (λ (xs : List ℕ). IsOrderOf xs c.args.places.items c.args.columns.items) (sym c.into_parts-sorted.ensures.columns) c.requires.order in
    rw (c.deref.ensures.value, c.deref_mut.ensures.value) (record {
      few = omega (arith, ordering_short o.so_far, o.few);
      distinct = ordering_distinct c.into_parts-sorted.ensures.table.rising o.few o.so_far;
      below = sorted_below o t;
      others = sorted_alone o t;
    })

pub invariant_of-result : goal.invariant_of-result
invariant_of-result c =
    let kept : (with_items c.in-Some.table c.number.new.table).items ≡ c.number.new.table = with_items_is c.in-Some.table c.number.new.table (omega (arith, c.number.auto.table, c.deref_mut.ensures.len)) in
    record {
      few = omega (arith, ordering_short c.requires.order.so_far, c.requires.order.few);
      right = subst (IsTable c.args.columns.items) (sym kept) (subst (λ xs. IsTable xs c.number.new.table) c.deref.ensures.value c.number.ensures);
      order = tt;
    }

pub invariant_of-result-2 : goal.invariant_of-result-2
invariant_of-result-2 c = record {
  few = omega (arith, ordering_short c.requires.order.so_far, c.requires.order.few);
  right = tt;
  order = (c.into_parts-sorted.ensures.table.rising, subst (λ (xs : List ℕ). IsOrderOf xs c.args.places.items c.args.columns.items) (sym c.into_parts-sorted.ensures.columns) c.requires.order);
}
