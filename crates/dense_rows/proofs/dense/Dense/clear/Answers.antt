use Rattle.std.proofs.Common.{arith}
use Rattle.dense_rows.proofs.TakingOut.{cleared_more, cleared_none}
use Rattle.dense_rows.proofs.dense.Dense.clear.Goals as goal

pub loop-k-init : goal.loop-k-init
loop-k-init g c = cleared_none c.requires.residues

pub set-requires-clause-inside : goal.set-requires-clause-inside
set-requires-clause-inside g c κs within = omega (arith, c.loop-k.invariant.vector.len, c.requires.inside c.loop-k.k (omega arith))

pub loop-k-preserved : goal.loop-k-preserved
loop-k-preserved g c = rw c.set.ensures (cleared_more (c.requires.inside c.loop-k.k (omega arith)) c.requires.residues c.loop-k.invariant)
