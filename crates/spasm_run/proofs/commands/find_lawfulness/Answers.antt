-- What the replay says is the answer.
use Rattle.spasm_run.proofs.TraceAnswers.{replay_answers}
use Rattle.spasm_run.proofs.commands.find_lawfulness.Goals as goal

pub returns-clause-comes : goal.returns-clause-comes
returns-clause-comes c = λ d said are.
    replay_answers c.args.a.now.modulus c.args.a.now c.args.trace.now said are d c.in_ok-lawful.lawful c.in_ok-lawful.ensures
