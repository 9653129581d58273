use Rattle.question_desk.proofs.Serving.{leaves_none}
use Rattle.question_desk.proofs.laws.drained_leaves_none.Goals as goal

pub returns : goal.returns
returns c = leaves_none
