use Rattle.std.proofs.Common.{arith}
use Rattle.kernel_solve.proofs.Reducing.{cleared_all, cleared_more, cleared_none}
use Rattle.kernel_solve.proofs.reduction.reduce.Goals as goal

pub loop-k-init : goal.loop-k-init
loop-k-init c = cleared_none c.requires

pub clear_end-requires-clause-row : goal.clear_end-requires-clause-row
clear_end-requires-clause-row c = omega (arith, c.loop-k-test.true, c.height-k-end.ensures.value)

pub clear_end-requires-clause-vector : goal.clear_end-requires-clause-vector
clear_end-requires-clause-vector c = c.loop-k.invariant.vector

pub loop-k-preserved : goal.loop-k-preserved
loop-k-preserved c =
    cleared_more (omega (arith, c.is_sound.ensures.two_or_more)) c.loop-k.invariant (omega (arith, c.loop-k-test.true, c.height-k-end.ensures.value))
    c.clear_end.ensures.vector c.clear_end.ensures.adds

pub returns-clause-vector : goal.returns-clause-vector
returns-clause-vector c = c.loop-k.invariant.vector

pub returns-clause-reduced : goal.returns-clause-reduced
returns-clause-reduced c = λ A b kernel s. cleared_all c.loop-k.invariant (omega (arith, c.loop-k-test.false, c.loop-k.auto.k-end, c.height-k-end.ensures.value)) A b kernel s
