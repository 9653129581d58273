use Rattle.std.proofs.Common.{arith, ap}
use Rattle.pivot_walks.specs.MarkedColumns.{Marked}
use Rattle.pivot_walks.proofs.Marking.{many_marks}
use Rattle.pivot_walks.proofs.marked_columns.MarkedColumns.len.Goals as goal

pub returns-clause-bound : goal.returns-clause-bound
returns-clause-bound c = omega (arith, many_marks c.self.invariant, ap (λ (m : Marked). m.width) c.self.view_is)
