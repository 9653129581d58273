use Rattle.std.proofs.Common.{ℕ, List, ◌≤◌, ◌≡◌, ◌<◌, ◌∙◌, length, map, slice_index, subst, sym, ap, arith}
use Rattle.std.proofs.lemmas.List.{length-map}
use Rattle.std.proofs.lemmas.List.Elements.{Contains-get_or}
use Rattle.residue_words.specs.declared.plain.Pair.{Pair}
use Rattle.sparse_rows.specs.Rows.{AreRising, ResidueMatrix, LARGEST_SIZE}
use Rattle.triangular_solve.specs.Listing.{AreSortedPivots, AreWaits, HasReady}
use Rattle.pivot_table.specs.Order.{IsTriangularOrder}
use Rattle.triangular_solve.proofs.Listing.{col_is, no_pair, order_of_sorted}
use Rattle.triangular_solve.proofs.triangle.in_order.Goals as goal

pub of-requires-clause-rising : goal.of-requires-clause-rising
of-requires-clause-rising c = subst AreRising (sym (c.in_ok-columns_of.ensures ∙ ap (map (λ (p : Pair). p.col)) c.deref.ensures.value)) c.in_ok-pairs.ensures.pivots.rising

pub of-requires-clause-below : goal.of-requires-clause-below
of-requires-clause-below c =
    let qs : List Pair = c.in_ok-pairs.pairs.items in
    let e : c.in_ok-columns_of.field-0.items ≡ map (λ (p : Pair). p.col) qs = c.in_ok-columns_of.ensures ∙ ap (map (λ (p : Pair). p.col)) c.deref.ensures.value in
    λ k l.
    let lk : k < length qs = omega (arith, ap length e, length-map qs (λ (p : Pair). p.col)) in
    let n = (c.in_ok-pairs.ensures.pivots.nonzero _ (Contains-get_or qs k no_pair lk)).1 in
    omega (arith, n, col_is qs k lk, ap (λ xs. slice_index xs k) e, c.width.ensures.value, ap (λ (m : ResidueMatrix). m.matrix.width) c.rows-rows.ensures)

pivots_here : {m n : ResidueMatrix} {ps qs : List Pair} → m ≡ n → ps ≡ qs → AreSortedPivots n.matrix qs → AreSortedPivots m.matrix ps
pivots_here {m} {n} {ps} {qs} e f p = subst (λ (x : ResidueMatrix). AreSortedPivots x.matrix ps) (sym e) (subst (AreSortedPivots n.matrix) (sym f) p)

pub count_waits-requires-clause-pivots : goal.count_waits-requires-clause-pivots
count_waits-requires-clause-pivots c = pivots_here c.rows-rows.ensures c.deref-2.ensures.value c.in_ok-pairs.ensures.pivots

pub list_all-requires-clause-pivots : goal.list_all-requires-clause-pivots
list_all-requires-clause-pivots c = pivots_here c.rows-rows.ensures c.deref-4.ensures.value c.in_ok-pairs.ensures.pivots

pub returns : goal.returns
returns c = order_of_sorted c.in_ok-pairs.ensures.permutation
    (subst (λ (m : ResidueMatrix). IsTriangularOrder m.matrix c.in_ok-pairs.pairs.items c.in_ok-order.order.items) c.rows-rows.ensures
    (subst (λ (qs : List Pair). IsTriangularOrder c.rows-rows.result.now.matrix qs c.in_ok-order.order.items) c.deref-4.ensures.value c.in_ok-order.ensures))

pub of-requires-clause-width : goal.of-requires-clause-width
of-requires-clause-width c = c.width.ensures.bound

few : (pairs : List Pair) (columns : List ℕ) → columns ≡ map (λ (p : Pair). p.col) pairs → length columns ≤ LARGEST_SIZE → length pairs ≤ LARGEST_SIZE
few pairs columns e l = subst (λ n. n ≤ LARGEST_SIZE) (ap length e ∙ length-map pairs (λ (p : Pair). p.col)) l

pub count_waits-requires-clause-few : goal.count_waits-requires-clause-few
count_waits-requires-clause-few c = few c.deref-2.result.now c.in_ok-columns.columns (c.in_ok-columns.ensures ∙ c.in_ok-columns_of.ensures ∙ ap (map (λ (p : Pair). p.col)) (c.deref.ensures.value ∙ sym c.deref-2.ensures.value)) (subst (λ (xs : List ℕ). length xs ≤ LARGEST_SIZE) c.columns.view_is c.columns.invariant.few)

pub count_waits-requires-clause-columns : goal.count_waits-requires-clause-columns
count_waits-requires-clause-columns c = c.in_ok-columns.ensures ∙ c.in_ok-columns_of.ensures ∙ ap (map (λ (p : Pair). p.col)) (c.deref.ensures.value ∙ sym c.deref-2.ensures.value)

pub list_all-requires-clause-columns : goal.list_all-requires-clause-columns
list_all-requires-clause-columns c = c.in_ok-columns.ensures ∙ c.in_ok-columns_of.ensures ∙ ap (map (λ (p : Pair). p.col)) (c.deref.ensures.value ∙ sym c.deref-4.ensures.value)

pub list_all-requires-clause-waits : goal.list_all-requires-clause-waits
list_all-requires-clause-waits c = subst (λ (qs : List Pair). AreWaits c.rows-rows.result.now.matrix qs c.deref_mut.result.now) (c.deref-2.ensures.value ∙ sym c.deref-4.ensures.value)
    (subst (AreWaits c.rows-rows.result.now.matrix c.deref-2.result.now) (sym c.deref_mut.ensures.value) c.in_ok-waits.ensures)

pub list_all-requires-clause-ready : goal.list_all-requires-clause-ready
list_all-requires-clause-ready c = subst (λ (ws : List ℕ). HasReady ws c.in_ok-queue.queue) (c.deref-3.ensures.value ∙ sym c.deref_mut.ensures.value) c.in_ok-queue.ensures
