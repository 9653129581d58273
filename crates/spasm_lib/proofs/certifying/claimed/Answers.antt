-- What is claimed of a matrix with this row basis is shown to any of its factors.
use Rattle.std.proofs.Common.{arith}
use Rattle.pluq_factor.proofs.Turning.{form_based}
use Rattle.spasm_lib.proofs.Claims.{form_claimed, kernel_claimed, nothing_claimed}
use Rattle.spasm_lib.proofs.certifying.claimed.Goals as goal

pub returns-in-Rank-clause-claimed : goal.returns-in-Rank-clause-claimed
returns-in-Rank-clause-claimed g c = λ p A m basis. nothing_claimed p A

pub returns-in_ok-form-in-Rref-clause-claimed : goal.returns-in_ok-form-in-Rref-clause-claimed
returns-in_ok-form-in-Rref-clause-claimed g c = λ p A m basis.
    let form = c.in_ok-form-in-Rref in
    form_claimed p A form.form c.into_rows.result m (omega (arith, basis.width, c.requires.width)) (form_based basis form.ensures) c.into_rows.ensures.modulus c.into_rows.ensures.matrix

pub returns-in_ok-null-in-Kernel-clause-claimed : goal.returns-in_ok-null-in-Kernel-clause-claimed
returns-in_ok-null-in-Kernel-clause-claimed g c = λ p A m basis.
    let form = c.in_ok-form-in-Kernel in
    let null = c.in_ok-null-in-Kernel in
    kernel_claimed p A form.form null.null m (omega (arith, basis.width, c.requires.width)) (form_based basis form.ensures) null.ensures.modulus null.ensures.width null.ensures.height null.ensures.kernel
