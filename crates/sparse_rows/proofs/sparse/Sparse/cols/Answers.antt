use Rattle.std.proofs.Common.{◌≡◌, ◌<◌, ◌∙◌, ap, arith, length, sym}
use Rattle.sparse_rows.specs.Rows.{nonzeros, support}
use Rattle.sparse_rows.proofs.Spread.{length_spread, nonzeros_spread, support_spread}
use Rattle.sparse_rows.proofs.sparse.Sparse.cols.Goals as goal

pub returns-clause-support : goal.returns-clause-support
returns-clause-support c = c.as_slice.ensures.value ∙ sym (support_spread c.self.invariant.0) ∙ ap (λ r. support r.row) c.self.view_is

pub returns-clause-same_length : goal.returns-clause-same_length
returns-clause-same_length c =
    ap length c.as_slice.ensures.value ∙ c.self.invariant.0.long ∙ ap length (sym (nonzeros_spread c.self.invariant.0)) ∙ ap (λ r. length (nonzeros r.row)) c.self.view_is

pub returns-clause-below_width : goal.returns-clause-below_width
returns-clause-below_width c = λ k l.
    let width : length c.args.self.now.row ≡ c.self.inside.width = sym (ap (λ r. length r.row) c.self.view_is) ∙ length_spread _ _ _ in
    let within : k < length c.self.inside.cols.items = omega (arith, ap length c.as_slice.ensures.value) in
    rw (c.as_slice.ensures.value, width) (c.self.invariant.0.below k within)
