use Rattle.std.proofs.Common.{◌∙◌}
use Rattle.std.proofs.lemmas.Result.{IfOk-weaker}
use Rattle.kernel_solve.proofs.inverses.null_row.Goals as goal

pub returns-clause-first : goal.returns-clause-first
returns-clause-first c = IfOk-weaker c.one_row.result _ _ (λ v is p A prime form.
    let first = c.in_ok-first.ensures.first p A prime form in
    (first.0, first.1, λ some. is ∙ first.2 some)) c.one_row.ensures.row

pub returns-clause-none : goal.returns-clause-none
returns-clause-none c = IfOk-weaker c.one_row.result _ _ (λ v is full. is ∙ c.in_ok-first.ensures.none full) c.one_row.ensures.row
