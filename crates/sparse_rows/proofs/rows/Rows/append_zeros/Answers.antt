use Rattle.std.proofs.Common.{ap}
use Rattle.sparse_rows.proofs.Expanding.{listed_zeros}
use Rattle.sparse_rows.proofs.rows.Rows.append_zeros.Goals as goal

pub returns-clause-matrix : goal.returns-clause-matrix
returns-clause-matrix c = listed_zeros c.self.inside.every_row _ _ _ _ c.if-self.false c.self.invariant (ap (λ m. m.matrix) c.self.view_is) c.args.count
