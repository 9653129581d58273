use Rattle.std.proofs.Common.{ℕ, ◌≢◌, ◌<◌, ◌∙◌, arith, below_more, length, slice_index, subst, sym}
use Rattle.grow_form.specs.Numbering.{NumberedColumns, arrival}
use Rattle.grow_form.proofs.Numbers.{any_come, at_arrival, long_arrivals}
use Rattle.grow_form.proofs.numbering.Numbering.have_come.Goals as goal

pub loop-k-preserved : goal.loop-k-preserved
loop-k-preserved c =
    let j : ℕ = slice_index c.args.cols.now c.loop-k.k in
    let below : j < length c.args.self.now.arrivals = c.requires c.loop-k.k c.loop-k-test.true in
    let low : j < c.self.inside.width = omega (arith, subst (λ (N : NumberedColumns). j < length N.arrivals) (sym c.self.view_is) below, long_arrivals c.self.inside.width c.self.inside.columns.keys) in
    let some : arrival c.self.inside.columns.keys j ≢ 0 = (any_come c.self.inside.columns.keys j).0 (sym c.contains.ensures ∙ c.if-not-contains.false) in
    below_more (λ t. slice_index c.args.self.now.arrivals (slice_index c.args.cols.now t) ≢ 0) c.loop-k.k c.loop-k.invariant
    (subst (λ (N : NumberedColumns). slice_index N.arrivals j ≢ 0) c.self.view_is (λ z. some (sym (at_arrival c.self.inside.width c.self.inside.columns.keys j low) ∙ z)))
