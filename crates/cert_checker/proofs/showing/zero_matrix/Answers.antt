use Rattle.std.proofs.Common.{ap, ◌∙◌}
use Rattle.residue_words.specs.Matrix.{Matrix}
use Rattle.sparse_rows.specs.Rows.{with_zeros}
use Rattle.cert_checker.proofs.Forms.{zeros_by}
use Rattle.cert_checker.proofs.showing.zero_matrix.Goals as goal

pub returns-clause-matrix : goal.returns-clause-matrix
returns-clause-matrix c = c.in_ok-append_zeros.ensures.matrix ∙ ap (λ (M : Matrix). with_zeros M c.args.height) c.in_ok-rows.ensures.matrix ∙ zeros_by c.args.height c.args.width
