use Rattle.std.proofs.Common.{◌≡◌, ◌-◌, ◌∙◌, ap, arith, subst}
use Rattle.std.specs.Prelude.{OnOk}
use Rattle.sparse_rows.specs.Rows.{with_zeros}
use Rattle.sparse_rows.specs.Stored.{with_row}
use Rattle.sparse_rows.proofs.rows.Rows.append_at.Goals as goal

pub append-requires-clause-height_small : goal.append-requires-clause-height_small
append-requires-clause-height_small c =
    omega (arith, ap (λ m. m.height) c.in_ok-append_zeros.ensures.matrix, c.height.ensures.value, c.requires.low, c.requires.small)

pub returns-clause-matrix : goal.returns-clause-matrix
returns-clause-matrix c =
    subst (λ m. OnOk c.append.result (c.append.new.self.matrix ≡ with_row m c.args.row.now.row))
    (c.in_ok-append_zeros.ensures.matrix ∙ ap (λ n. with_zeros c.args.self.now.matrix (c.args.i - n)) c.height.ensures.value) c.append.ensures.matrix
