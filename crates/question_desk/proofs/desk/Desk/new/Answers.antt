use Rattle.question_desk.proofs.Serving.{begins, parts}
use Rattle.question_desk.proofs.desk.Desk.new.Goals as goal

pub bounded_with-requires-clause-rule : goal.bounded_with-requires-clause-rule
bounded_with-requires-clause-rule g c = begins

pub another-pass-requires-clause-rule : goal.another-pass-requires-clause-rule
another-pass-requires-clause-rule g c = parts _ _
