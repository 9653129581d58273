use Rattle.std.proofs.lemmas.Result.{IfOk-weaker}
use Rattle.kernel_solve.proofs.bases.kernel_of.Goals as goal

pub returns-clause-kernel : goal.returns-clause-kernel
returns-clause-kernel g c =
    IfOk-weaker c.kernel.result _ _ (λ K reads prime. reads c.args.a.now.modulus c.args.a.now.matrix prime c.in_ok-form.ensures) c.kernel.ensures.kernel
