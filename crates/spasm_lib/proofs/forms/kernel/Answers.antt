-- The kernel basis of the form's matrix.
use Rattle.std.proofs.Common.{◌∙◌, arith}
use Rattle.spasm_lib.proofs.forms.kernel.Goals as goal

pub returns-clause-modulus : goal.returns-clause-modulus
returns-clause-modulus g c = c.in_ok-basis.ensures.modulus ∙ c.in_ok-form.ensures.modulus

pub returns-clause-width : goal.returns-clause-width
returns-clause-width g c = c.in_ok-basis.ensures.width ∙ c.in_ok-form.ensures.width

pub returns-clause-short : goal.returns-clause-short
returns-clause-short g c = omega (arith, c.in_ok-basis.ensures.height, c.in_ok-form.ensures.width)

pub returns-clause-kernel : goal.returns-clause-kernel
returns-clause-kernel g c = λ prime. c.in_ok-basis.ensures.kernel c.args.a.now.modulus c.args.a.now.matrix prime c.in_ok-form.ensures
