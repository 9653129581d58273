use Rattle.std.proofs.Common.{◌∙◌, ap, ap₂, length, sym}
use Rattle.residue_words.specs.Matrix.{zeros}
use Rattle.sparse_rows.specs.Stored.{spread}
use Rattle.sparse_rows.proofs.Spread.{length_spread, spread_none}
use Rattle.sparse_rows.proofs.sparse.Sparse.clear.Goals as goal

pub returns-clause-row : goal.returns-clause-row
returns-clause-row c =
    ap₂ (spread c.self.inside.width) c.clear.ensures.items c.clear-2.ensures.items ∙ spread_none _ _
    ∙ ap zeros (sym (length_spread _ _ _) ∙ ap (λ r. length r.row) c.self.view_is)
