use Rattle.std.proofs.Common.{◌+◌, ◌*◌}
use Rattle.dense_finish.proofs.block.+fn-shared_block-join+arg2+fn-shared_block-join+arg3+shared_block.Given as goal

abbrev pub decreases-join+arg2 : goal.decreases-join+arg2
decreases-join+arg2 g l = 3

abbrev pub decreases-join+arg3 : goal.decreases-join+arg3
decreases-join+arg3 g l = 2 * l.others + 1

abbrev pub decreases-shared_block : goal.decreases-shared_block
decreases-shared_block g l = 2 * l.workers
