-- What the checker says is the answer.
use Rattle.spasm_run.proofs.Verdicts.{verdict_answers}
use Rattle.spasm_run.proofs.commands.find_verdict.Goals as goal

pub returns-clause-comes : goal.returns-clause-comes
returns-clause-comes c = λ d said are.
    verdict_answers c.args.a.now.modulus c.args.a.now c.args.certificate.now said are d c.in_ok-valid.valid c.in_ok-valid.ensures
