use Rattle.std.proofs.Common.{subst}
use Rattle.std.proofs.lemmas.Result.{IfOk-weaker}
use Rattle.sparse_rows.specs.Rows.{ResidueMatrix}
use Rattle.schur_rows.specs.RestBasis.{IsBasisOfBoth, IsFullFor}
use Rattle.schur_rows.proofs.Streaming.{basis_kept, basis_more}
use Rattle.schur_rows.proofs.chunked_basis.basis_with.Goals as goal

pub returns-then-full : goal.returns-then-full
returns-then-full g c = λ t from to b left. basis_kept b left (subst (λ (R : ResidueMatrix). IsFullFor R.matrix c.args.basis.matrix) c.into_rows-below.ensures (c.in_ok-full.ensures c.if-full.true))

pub returns-then-nearly : goal.returns-then-nearly
returns-then-nearly g c = IfOk-weaker c.by_form.result _ _
    (λ next found t from to b left. basis_more b left (subst (λ (R : ResidueMatrix). IsBasisOfBoth c.args.basis R next) c.into_rows-below.ensures found)) c.by_form.ensures

pub returns : goal.returns
returns g c = IfOk-weaker c.by_factors.result _ _
    (λ next found t from to b left. basis_more b left (subst (λ (R : ResidueMatrix). IsBasisOfBoth c.args.basis R next) c.into_rows-below.ensures found)) c.by_factors.ensures
