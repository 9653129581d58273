use Rattle.dense_rows.proofs.Zeros.{positive_more}
use Rattle.dense_rows.proofs.dense.Dense.has_zero.Goals as goal

pub loop-j-preserved : goal.loop-j-preserved
loop-j-preserved g c = positive_more c.args.self.now c.get.ensures c.loop-j.invariant
