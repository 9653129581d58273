use Rattle.row_space.proofs.KernelLaws.{kernel_of_rank}
use Rattle.row_space.proofs.rank_gives_kernel.Goals as goal

pub returns : goal.returns
returns c = kernel_of_rank
