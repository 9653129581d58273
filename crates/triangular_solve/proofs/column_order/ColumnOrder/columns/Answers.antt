use Rattle.std.proofs.Common.{ap, length, arith}
use Rattle.triangular_solve.proofs.column_order.ColumnOrder.columns.Goals as goal

pub returns-clause-few : goal.returns-clause-few
returns-clause-few c = omega (arith, c.self.invariant.few, ap length c.self.view_is)
