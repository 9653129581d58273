use Rattle.std.proofs.Common.{ap, ◌∙◌}
use Rattle.sparse_rows.specs.Rows.{transposed}
use Rattle.kernel_solve.proofs.bases.kernel.Goals as goal

pub append_basis-requires-clause-columns : goal.append_basis-requires-clause-columns
append_basis-requires-clause-columns c = c.in_ok-columns.ensures.matrix ∙ ap transposed c.rows.ensures.matrix
