use Rattle.question_desk.proofs.Serving.{parts}
use Rattle.question_desk.proofs.desk.Desk.split.Goals as goal

pub another-pass-requires-clause-rule : goal.another-pass-requires-clause-rule
another-pass-requires-clause-rule g c = parts _ _
