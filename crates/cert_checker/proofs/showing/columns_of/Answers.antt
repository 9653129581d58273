use Rattle.std.proofs.Common.{ap, ◌∙◌}
use Rattle.std.proofs.lemmas.Result.{IfOk-weaker}
use Rattle.residue_words.specs.Matrix.{Matrix}
use Rattle.sparse_rows.specs.Rows.{selected, transposed}
use Rattle.cert_checker.proofs.showing.columns_of.Goals as goal

pub select-requires-clause-inside : goal.select-requires-clause-inside
select-requires-clause-inside c = rw c.in_ok-columns.ensures.matrix c.requires.inside

pub returns-clause-matrix : goal.returns-clause-matrix
returns-clause-matrix c = IfOk-weaker c.transpose-2.result _ _
    (λ part is. is ∙ ap transposed (c.in_ok-part.ensures.matrix ∙ ap (λ (M : Matrix). selected M c.args.named.now) c.in_ok-columns.ensures.matrix)) c.transpose-2.ensures.matrix
