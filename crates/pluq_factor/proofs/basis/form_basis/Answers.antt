use Rattle.pluq_factor.proofs.Bases.{basis_form}
use Rattle.pluq_factor.proofs.basis.form_basis.Goals as goal

pub returns : goal.returns
returns g c = basis_form c.in_ok-form.ensures c.into_rows-basis.ensures.modulus c.into_rows-basis.ensures.matrix
