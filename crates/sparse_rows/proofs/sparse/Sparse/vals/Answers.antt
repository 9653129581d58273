use Rattle.std.proofs.Common.{◌∙◌, ap, length, sym}
use Rattle.sparse_rows.specs.Rows.{nonzeros, support}
use Rattle.sparse_rows.proofs.Spread.{nonzeros_spread, support_spread}
use Rattle.sparse_rows.proofs.sparse.Sparse.vals.Goals as goal

pub returns-clause-values : goal.returns-clause-values
returns-clause-values c = c.as_slice.ensures.value ∙ sym (nonzeros_spread c.self.invariant.0) ∙ ap (λ r. nonzeros r.row) c.self.view_is

pub returns-clause-same_length : goal.returns-clause-same_length
returns-clause-same_length c =
    ap length c.as_slice.ensures.value ∙ sym c.self.invariant.0.long ∙ ap length (sym (support_spread c.self.invariant.0)) ∙ ap (λ r. length (support r.row)) c.self.view_is
