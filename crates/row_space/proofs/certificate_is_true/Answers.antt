use Rattle.row_space.proofs.FactorLaws.{certificate_true}
use Rattle.row_space.proofs.certificate_is_true.Goals as goal

pub returns : goal.returns
returns c = certificate_true
