use Rattle.dense_rows.proofs.Zeros.{zero_free_more}
use Rattle.dense_rows.proofs.dense.Dense.has_free_entry.Goals as goal

pub loop-j-preserved : goal.loop-j-preserved
loop-j-preserved g c = zero_free_more c.args.taken.now c.args.self.now c.get.ensures c.loop-j.invariant
