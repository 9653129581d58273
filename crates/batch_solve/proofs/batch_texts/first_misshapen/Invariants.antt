-- Those before question k fit.
use Rattle.std.proofs.Common.{◌≡◌}
use Rattle.batch_solve.proofs.BatchShapes.{misfit_from}
use Rattle.batch_solve.proofs.batch_texts.first_misshapen.Given as goal

abbrev pub invariant-loop-k : goal.invariant-loop-k
invariant-loop-k l = misfit_from l.height l.questions l.k ≡ misfit_from l.height l.questions 0
