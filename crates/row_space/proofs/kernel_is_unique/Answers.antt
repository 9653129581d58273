use Rattle.row_space.proofs.Unique.{kernel_unique}
use Rattle.row_space.proofs.kernel_is_unique.Goals as goal

pub returns : goal.returns
returns c = kernel_unique
