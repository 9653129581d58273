-- What the form tells, the system tells.
use Rattle.std.proofs.Common.{subst}
use Rattle.echelon_form.specs.Form.{IsFormOf}
use Rattle.kernel_solve.specs.Found.{HasShape}
use Rattle.spasm_lib.proofs.solving.told_by.Goals as goal

pub returns-clause-shape : goal.returns-clause-shape
returns-clause-shape g c =
    let form = c.in_ok-form in
    let found = c.in_ok-found in
    subst (λ p. HasShape p c.args.system.matrix.width found.found) form.ensures.modulus
    (subst (λ n. HasShape form.form.modulus n found.found) form.ensures.width found.ensures.shape)

pub returns-clause-tells : goal.returns-clause-tells
returns-clause-tells g c = λ prime A B ma mb heights narrow same.
    let p = c.args.system.modulus in
    c.in_ok-found.ensures.answers p A B prime ma mb heights narrow (subst (λ S. IsFormOf p S c.in_ok-form.form) same c.in_ok-form.ensures)
