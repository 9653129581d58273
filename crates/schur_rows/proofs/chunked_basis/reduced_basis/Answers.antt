use Rattle.std.proofs.Common.{arith}
use Rattle.schur_rows.proofs.Streaming.{basis_form, basis_itself}
use Rattle.schur_rows.proofs.chunked_basis.reduced_basis.Goals as goal

pub returns-then-height : goal.returns-then-height
returns-then-height c = basis_itself c.height-2.ensures.sound c.in_ok-form.ensures c.into_rows-basis.ensures.modulus c.into_rows-basis.ensures.matrix
    (omega (arith, c.if-height.true, c.height.ensures.value, c.height-2.ensures.value))

pub returns : goal.returns
returns c = basis_form c.height-2.ensures.sound c.in_ok-form.ensures c.into_rows-basis.ensures.modulus c.into_rows-basis.ensures.matrix
    (omega (arith, c.if-height.false, c.height.ensures.value, c.height-2.ensures.value))
