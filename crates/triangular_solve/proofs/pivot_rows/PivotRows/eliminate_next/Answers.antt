use Rattle.std.proofs.Common.{ℕ, ◌≡◌, ◌*◌, ◌%◌, ◌-◌, ◌∙◌, length, sym, ap, ap₂, subst, arith}
use Rattle.std.proofs.lemmas.List.{get_or_default, length-set}
use Rattle.sparse_rows.specs.Rows.{ResidueRow}
use Rattle.triangular_solve.specs.PivotRows.{AreColumnSums, Eliminates, IsEliminated, PlacedRows, placed_rows}
use Rattle.triangular_solve.proofs.Eliminating.{eliminated, eliminated_sums, put_back, tail_some, tail_sparse}
use Rattle.triangular_solve.proofs.pivot_rows.PivotRows.eliminate_next.Goals as goal

same_modulus : {a : ResidueRow} {p : ℕ} → a.modulus ≡ p → a ≡ record { modulus = p; row = a.row }
same_modulus {a} e = λ i. record { modulus = e i; row = a.row }

pub returns-then-place-height-clause-none : goal.returns-then-place-height-clause-none
returns-then-place-height-clause-none c =
    let b = put_back c.requires.sums c.in-Some.ensures.some c.in-Some.ensures.modulus
    (omega (arith, ap (λ (Q : PlacedRows). Q.rows.matrix.height) c.self.view_is, c.height.ensures.value, c.if-place-height.true)) c.add.ensures in
    (subst (λ (r : ResidueRow). IsEliminated c.args.self.now r.row) (sym b.0) b.1, ap (λ (r : ResidueRow). r.row) b.0)

pub slice_bounds-add_multiple-count : goal.slice_bounds-add_multiple-count
slice_bounds-add_multiple-count c = (tail_some (placed_rows c.self.inside.rows c.self.inside.order) (omega (arith, c.modulus-modulus.ensures.value, c.modulus-modulus.ensures.two_or_more)) c.modulus-modulus.ensures.sound c.self.invariant.0 c.self.invariant.1 (subst (λ (Q : PlacedRows). AreColumnSums Q c.args.sums.now) (sym c.self.view_is) c.requires.sums).vector c.in-Some.ensures.some
    (omega (arith, c.if-place-height.false, c.height.ensures.value)) c.cols-cols.ensures.support c.vals-vals.ensures.values).0

pub slice_bounds-add_multiple-start : goal.slice_bounds-add_multiple-start
slice_bounds-add_multiple-start c = omega (
  arith,
  (tail_some (placed_rows c.self.inside.rows c.self.inside.order) (omega (arith, c.modulus-modulus.ensures.value, c.modulus-modulus.ensures.two_or_more)) c.modulus-modulus.ensures.sound c.self.invariant.0 c.self.invariant.1 (subst (λ (Q : PlacedRows). AreColumnSums Q c.args.sums.now) (sym c.self.view_is) c.requires.sums).vector c.in-Some.ensures.some
      (omega (arith, c.if-place-height.false, c.height.ensures.value)) c.cols-cols.ensures.support c.vals-vals.ensures.values).0,
)

pub slice_bounds-add_multiple-count-2 : goal.slice_bounds-add_multiple-count-2
slice_bounds-add_multiple-count-2 c = (tail_some (placed_rows c.self.inside.rows c.self.inside.order) (omega (arith, c.modulus-modulus.ensures.value, c.modulus-modulus.ensures.two_or_more)) c.modulus-modulus.ensures.sound c.self.invariant.0 c.self.invariant.1 (subst (λ (Q : PlacedRows). AreColumnSums Q c.args.sums.now) (sym c.self.view_is) c.requires.sums).vector c.in-Some.ensures.some
    (omega (arith, c.if-place-height.false, c.height.ensures.value)) c.cols-cols.ensures.support c.vals-vals.ensures.values).1

pub slice_bounds-add_multiple-start-2 : goal.slice_bounds-add_multiple-start-2
slice_bounds-add_multiple-start-2 c = omega (
  arith,
  (tail_some (placed_rows c.self.inside.rows c.self.inside.order) (omega (arith, c.modulus-modulus.ensures.value, c.modulus-modulus.ensures.two_or_more)) c.modulus-modulus.ensures.sound c.self.invariant.0 c.self.invariant.1 (subst (λ (Q : PlacedRows). AreColumnSums Q c.args.sums.now) (sym c.self.view_is) c.requires.sums).vector c.in-Some.ensures.some
      (omega (arith, c.if-place-height.false, c.height.ensures.value)) c.cols-cols.ensures.support c.vals-vals.ensures.values).1,
)

pub add_multiple-requires-clause-sparse : goal.add_multiple-requires-clause-sparse
add_multiple-requires-clause-sparse c = tail_sparse (placed_rows c.self.inside.rows c.self.inside.order) (omega (arith, c.modulus-modulus.ensures.value, c.modulus-modulus.ensures.two_or_more)) c.modulus-modulus.ensures.sound c.self.invariant.0 c.self.invariant.1 (subst (λ (Q : PlacedRows). AreColumnSums Q c.args.sums.now) (sym c.self.view_is) c.requires.sums).vector c.in-Some.ensures.some
    (omega (arith, c.if-place-height.false, c.height.ensures.value)) c.cols-cols.ensures.support c.vals-vals.ensures.values
    c.pop.new.self.modulus (length c.pop.new.self.row) (c.in-Some.ensures.modulus ∙ (subst (λ (Q : PlacedRows). AreColumnSums Q c.args.sums.now) (sym c.self.view_is) c.requires.sums).modulus) (ap length c.in-Some.ensures.some.after ∙ length-set c.args.sums.now.row c.in-Some.place 0)

pub returns-clause-some : goal.returns-clause-some
returns-clause-some c = subst (λ (Q : PlacedRows). Eliminates Q c.args.sums.now.row c.add_multiple.new.self.row c.in-Some.place c.mul-factor.result) c.self.view_is
    (eliminated (placed_rows c.self.inside.rows c.self.inside.order) (omega (arith, c.modulus-modulus.ensures.value, c.modulus-modulus.ensures.two_or_more)) c.modulus-modulus.ensures.sound c.self.invariant.0 c.self.invariant.1 (subst (λ (Q : PlacedRows). AreColumnSums Q c.args.sums.now) (sym c.self.view_is) c.requires.sums).vector c.in-Some.ensures.some
    (omega (arith, c.if-place-height.false, c.height.ensures.value)) c.cols-cols.ensures.support c.vals-vals.ensures.values c.mul-factor.result c.neg.result
    (c.mul-factor.ensures.value ∙ ap₂ (λ m x. (c.in-Some.value * x) % m) c.modulus-modulus.ensures.value (c.index.ensures ∙ get_or_default c.self.inside.inverses.items c.in-Some.place _ 0 (omega (arith, c.self.invariant.1.many, c.if-place-height.false, c.height.ensures.value))))
    (omega (arith, c.mul-factor.ensures.residue, c.modulus-modulus.ensures.value)) (c.neg.ensures.value ∙ ap (λ m. (m - c.mul-factor.result) % m) c.modulus-modulus.ensures.value)
    (same_modulus (c.in-Some.ensures.modulus ∙ (subst (λ (Q : PlacedRows). AreColumnSums Q c.args.sums.now) (sym c.self.view_is) c.requires.sums).modulus)) c.add_multiple.ensures)

pub returns-clause-sums : goal.returns-clause-sums
returns-clause-sums c = subst (λ (Q : PlacedRows). AreColumnSums Q c.add_multiple.new.self) c.self.view_is
    (eliminated_sums (placed_rows c.self.inside.rows c.self.inside.order) (omega (arith, c.modulus-modulus.ensures.value, c.modulus-modulus.ensures.two_or_more)) c.modulus-modulus.ensures.sound c.self.invariant.0 c.self.invariant.1 (subst (λ (Q : PlacedRows). AreColumnSums Q c.args.sums.now) (sym c.self.view_is) c.requires.sums).vector c.in-Some.ensures.some
    (omega (arith, c.if-place-height.false, c.height.ensures.value)) c.cols-cols.ensures.support c.vals-vals.ensures.values c.mul-factor.result c.neg.result
    (c.mul-factor.ensures.value ∙ ap₂ (λ m x. (c.in-Some.value * x) % m) c.modulus-modulus.ensures.value (c.index.ensures ∙ get_or_default c.self.inside.inverses.items c.in-Some.place _ 0 (omega (arith, c.self.invariant.1.many, c.if-place-height.false, c.height.ensures.value))))
    (omega (arith, c.mul-factor.ensures.residue, c.modulus-modulus.ensures.value)) (c.neg.ensures.value ∙ ap (λ m. (m - c.mul-factor.result) % m) c.modulus-modulus.ensures.value)
    (same_modulus (c.in-Some.ensures.modulus ∙ (subst (λ (Q : PlacedRows). AreColumnSums Q c.args.sums.now) (sym c.self.view_is) c.requires.sums).modulus)) c.add_multiple.ensures)
