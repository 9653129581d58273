use Rattle.std.proofs.Common.{◌∙◌, below_more, sym}
use Rattle.dense_rows.proofs.dense.Dense.leading_zeros.Goals as goal

pub loop-j-init : goal.loop-j-init
loop-j-init g c = c.zero_blocks-j.ensures.zeros

pub loop-j-preserved : goal.loop-j-preserved
loop-j-preserved g c = below_more _ _ c.loop-j.invariant (sym c.get.ensures ∙ c.if-get-ne0.false)
