use Rattle.std.proofs.Common.{◌∙◌, ap, arith}
use Rattle.sparse_rows.specs.Rows.{beside, identity}
use Rattle.kernel_solve.proofs.inverses.doubled.Goals as goal

pub returns-then-entries-from : goal.returns-then-entries-from
returns-then-entries-from c = omega (arith, c.if-entries-from.true, c.entries.ensures, c.height.ensures.value)

pub returns : goal.returns
returns c = (
  c.in_ok-both.ensures.modulus,
  c.in_ok-both.ensures.matrix ∙ ap (beside c.args.a.now.matrix) (c.in_ok-identity.ensures.matrix ∙ ap identity c.width.ensures.value),
  omega (arith, c.if-entries-from.false, c.entries.ensures, c.height.ensures.value),
)
