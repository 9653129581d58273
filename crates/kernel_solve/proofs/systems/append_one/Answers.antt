use Rattle.std.proofs.Common.{◌∙◌, ap, arith, length}
use Rattle.std.proofs.lemmas.List.{length-set}
use Rattle.sparse_rows.proofs.Loops.{length_zeros, zero_at}
use Rattle.kernel_solve.proofs.systems.append_one.Goals as goal

pub push-requires-clause-column : goal.push-requires-clause-column
push-requires-clause-column c = omega (arith, ap length c.new-row.ensures.row, length_zeros c.width.result, c.width.ensures.value, c.requires.column)

pub push-requires-clause-behind : goal.push-requires-clause-behind
push-requires-clause-behind c = λ k a b. zero_at c.new-row.result.row c.width.result c.new-row.ensures.row k b

pub append-requires-clause-width : goal.append-requires-clause-width
append-requires-clause-width c =
    ap length c.in_ok-push.ensures.ok ∙ length-set c.new-row.result.row c.args.j 1 ∙ ap length c.new-row.ensures.row ∙ length_zeros c.width.result ∙ c.width.ensures.value
