use Rattle.std.proofs.Common.{ℕ, ◌≡◌, List, IfNone, IfSome, MatchOption, slice_index, subst}
use Rattle.std.specs.List.{Contains}
use Rattle.sparse_rows.specs.Rows.{AreRising}
use Rattle.triangular_solve.specs.AscendingColumns.{IsPlaceOf}
use Rattle.triangular_solve.specs.PivotRows.{IsOrderOf}
use Rattle.triangular_solve.proofs.OrderingColumns.{order_match}
use Rattle.triangular_solve.proofs.column_order.ColumnOrder.find.Goals as goal

pub returns-in-None : goal.returns-in-None
returns-in-None c =
    let columns = c.self.inside.columns.items in
    let sorted = c.self.inside.sorted.items in
    let places = c.self.inside.places.items in
    let order = subst (λ o. IfNone o (AreRising sorted × IsOrderOf sorted places columns)) c.in-None.is c.self.invariant.order in
    let none = subst (λ (xs : List ℕ). IfNone c.place_of.result (¬ Contains xs c.args.column)) c.deref-in-None.ensures.value c.place_of.ensures.none in
    let some = subst (λ (xs : List ℕ). IfSome c.place_of.result (λ k. (at : ℕ) × IsPlaceOf xs c.args.column at × (k ≡ slice_index places at))) c.deref-in-None.ensures.value
    (subst (λ (ys : List ℕ). IfSome c.place_of.result (λ k. (at : ℕ) × IsPlaceOf c.deref-in-None.result.now c.args.column at × (k ≡ slice_index ys at))) c.deref-in-None-2.ensures.value c.place_of.ensures.some) in
    subst (λ (xs : List ℕ). MatchOption c.place_of.result (¬ Contains xs c.args.column) (IsPlaceOf xs c.args.column)) c.self.view_is (order_match order.1 c.args.column c.place_of.result none some)
