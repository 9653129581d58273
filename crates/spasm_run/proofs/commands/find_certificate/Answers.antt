-- What was certified is the answer.
use Rattle.std.proofs.Common.{subst}
use Rattle.pluq_factor.specs.Staged.{Staged}
use Rattle.spasm_run.proofs.Fewer.{staged_by}
use Rattle.spasm_run.proofs.Certifying.{certificate_answers}
use Rattle.spasm_run.proofs.commands.find_certificate.Goals as goal

pub returns : goal.returns
returns g c =
    let A = c.args.a.now in
    let made = c.in_ok-certificate in
    let team = c.team_of.result in
    certificate_answers c.args.command c.args.kind A made.certificate made.ensures.kind made.ensures.modulus made.ensures.text made.ensures.valid
    (λ prime. subst (λ r. Staged A.modulus A.matrix c.args.command.workers r made.certificate.pivots) c.team_of.ensures.rounds
    (staged_by team.workers c.args.command.workers c.team_of.ensures.one_worker A.modulus A.matrix team.rounds made.certificate.pivots (made.ensures.staged prime)))
