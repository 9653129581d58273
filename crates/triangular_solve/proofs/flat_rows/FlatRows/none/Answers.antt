use Rattle.std.proofs.Common.{◌∙◌, ap}
use Rattle.residue_words.specs.Matrix.{Matrix}
use Rattle.sparse_rows.specs.Rows.{ResidueMatrix}
use Rattle.triangular_solve.proofs.Flattening.{flat_none}
use Rattle.triangular_solve.proofs.flat_rows.FlatRows.none.Goals as goal

pub returns-clause-flat : goal.returns-clause-flat
returns-clause-flat c = flat_none (c.height-count.ensures.value ∙ ap (λ (r : ResidueMatrix). r.matrix.height) c.rows-rows.ensures.rows)
    (c.in_ok-tails.ensures.modulus ∙ c.modulus.ensures.value ∙ ap (λ (r : ResidueMatrix). r.modulus) c.rows-rows.ensures.rows)
    (ap (λ (M : Matrix). M.width) c.in_ok-tails.ensures.matrix ∙ c.width.ensures.value ∙ ap (λ (r : ResidueMatrix). r.matrix.width) c.rows-rows.ensures.rows ∙ c.rows-rows.ensures.placed.width)
    (ap (λ (M : Matrix). M.height) c.in_ok-tails.ensures.matrix)
