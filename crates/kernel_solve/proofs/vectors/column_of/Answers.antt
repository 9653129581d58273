use Rattle.std.proofs.Common.{length, sym, ap, ◌∙◌}
use Rattle.residue_words.specs.Matrix.{Matrix}
use Rattle.kernel_solve.specs.Column.{column}
use Rattle.kernel_solve.proofs.Preparing.{turned_column}
use Rattle.kernel_solve.proofs.vectors.column_of.Goals as goal

pub returns-clause-height : goal.returns-clause-height
returns-clause-height c = ap (λ (M : Matrix). M.height) c.in_ok-x.ensures.matrix ∙ c.in_ok-row.ensures.width

pub returns-clause-width : goal.returns-clause-width
returns-clause-width c = ap (λ (M : Matrix). M.width) c.in_ok-x.ensures.matrix ∙ c.in_ok-row.ensures.height

pub returns-clause-entries : goal.returns-clause-entries
returns-clause-entries c =
    let R : Matrix = c.in_ok-row.row.matrix in
    ap column c.in_ok-x.ensures.matrix ∙ turned_column R c.in_ok-row.ensures.height (ap length c.in_ok-row.ensures.row ∙ sym c.in_ok-row.ensures.width) ∙ c.in_ok-row.ensures.row
