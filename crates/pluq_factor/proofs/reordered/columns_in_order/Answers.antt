use Rattle.std.proofs.Common.{◌∙◌, ap}
use Rattle.std.proofs.lemmas.Result.{IfOk-weaker}
use Rattle.sparse_rows.specs.Rows.{transposed}
use Rattle.weight_order.proofs.Rearranging.{narrowed_turned}
use Rattle.pluq_factor.proofs.reordered.columns_in_order.Goals as goal

pub returns-clause-matrix : goal.returns-clause-matrix
returns-clause-matrix c =
    IfOk-weaker c.transpose-2.result _ _ (λ made is. is ∙ ap transposed c.in_ok-transpose_select.ensures.matrix ∙ narrowed_turned c.args.rows.now.matrix c.args.columns.now c.requires.columns.below)
    c.transpose-2.ensures.matrix
