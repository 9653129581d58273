use Rattle.std.proofs.Common.{arith}
use Rattle.schur_rows.proofs.FullBasis.{full_for}
use Rattle.schur_rows.proofs.chunked_basis.is_full_for.Goals as goal

pub returns : goal.returns
returns c = λ yes. full_for c.args.below.now.matrix c.args.basis.now.matrix c.in_ok-columns.columns.items c.in_ok-others.others.items c.deref.result.now c.deref-2.result.now
    c.deref-2.ensures.value c.deref.ensures.value c.in_ok-columns.ensures c.in_ok-others.ensures (omega (arith, c.if-len-height.false, c.len.ensures, c.height.ensures.value)) (c.are_among.ensures.0 yes)
