use Rattle.pluq_factor.proofs.Bases.{basis_finished}
use Rattle.pluq_factor.proofs.basis.dense_basis.Goals as goal

pub returns : goal.returns
returns g c = basis_finished c.is_sound.ensures.entries c.in_ok-u.ensures
