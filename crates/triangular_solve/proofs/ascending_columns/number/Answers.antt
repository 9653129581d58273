use Rattle.std.proofs.Common.{arith}
use Rattle.triangular_solve.proofs.Placing.{table_all, table_begun, table_more}
use Rattle.triangular_solve.proofs.ascending_columns.number.Goals as goal

pub loop-k-init : goal.loop-k-init
loop-k-init c = table_begun c.args.columns.now c.args.table.now c.requires.others

pub loop-k-preserved : goal.loop-k-preserved
loop-k-preserved c = table_more c.requires.distinct c.loop-k.invariant c.loop-k-test.true (c.requires.below c.loop-k.k c.loop-k-test.true)

pub returns : goal.returns
returns c = table_all c.loop-k.invariant (omega arith) c.requires.below
