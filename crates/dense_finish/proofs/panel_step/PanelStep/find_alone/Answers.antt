use Rattle.std.proofs.Common.{arith}
use Rattle.dense_finish.proofs.panel_step.PanelStep.find_alone.Goals as goal

pub returns-clause-others : goal.returns-clause-others
returns-clause-others g c = λ t l. c.reduce_behind.ensures.behind t (omega arith) l
