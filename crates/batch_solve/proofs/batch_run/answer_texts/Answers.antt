-- What doesn't fit is refused; what fits is answered, or memory was wanted.
use Rattle.std.proofs.Common.{sym, ◌∙◌}
use Rattle.batch_solve.specs.BatchFound.{matrices_of}
use Rattle.batch_solve.proofs.BatchWhole.{refused_comes}
use Rattle.batch_solve.proofs.batch_run.answer_texts.Goals as goal

pub returns-in-Some-clause-comes : goal.returns-in-Some-clause-comes
returns-in-Some-clause-comes g c = refused_comes c.args.p.now (matrices_of c.args.texts.now) c.in-Some.status (sym c.misfit_of.ensures ∙ c.in-Some.is)

pub replies_to-requires-clause-fits : goal.replies_to-requires-clause-fits
replies_to-requires-clause-fits g c κs within = sym c.misfit_of.ensures ∙ c.in-None.is
