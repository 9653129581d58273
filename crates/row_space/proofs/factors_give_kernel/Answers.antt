use Rattle.row_space.proofs.FactorLaws.{kernel_of_factors}
use Rattle.row_space.proofs.factors_give_kernel.Goals as goal

pub returns : goal.returns
returns c = kernel_of_factors
