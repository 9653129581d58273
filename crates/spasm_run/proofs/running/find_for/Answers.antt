-- What is found for the matrices of a command is found for its words.
use Rattle.std.proofs.Common.{[], ◌∷◌, refl, subst, sym}
use Rattle.certificates.specs.Certificate.{AreModulo}
use Rattle.spasm_words.specs.declared.command.Task.TheVariants as task
use Rattle.spasm_run.specs.Contents.{matrices_alone}
use Rattle.spasm_run.proofs.Scripted.{script_answers}
use Rattle.spasm_run.proofs.Whole.{found_generated, found_given, found_of_one, found_unread, reads_one, unread_of_one}
use Rattle.spasm_run.proofs.running.find_for.Goals as goal

pub returns-in_ok-a-in-Solve-clause-found : goal.returns-in_ok-a-in-Solve-clause-found
returns-in_ok-a-in-Solve-clause-found g c = λ words accepted.
    let both = c.in_ok-a-in-Solve in
    found_given words c.args.command task.Solve c.new-p.result both.a.modulus c.args.limit _ _ (matrices_alone (both.a.matrix ∷ both.b.matrix ∷ [])) _ c.in-Solve.is c.new-p.ensures both.ensures.first.modulus accepted both.ensures.did c.find_solution.ensures

pub returns-in_err-a-in-Solve-clause-found : goal.returns-in_err-a-in-Solve-clause-found
returns-in_err-a-in-Solve-clause-found g c = λ words accepted.
    found_unread words c.args.command task.Solve c.new-p.result c.args.limit _ _ c.in_err-a-in-Solve.field-0.0 _ c.in-Solve.is c.new-p.ensures c.from_residual.ensures.1 accepted c.in_err-a-in-Solve.ensures.did

pub returns-in-Drill-clause-found : goal.returns-in-Drill-clause-found
returns-in-Drill-clause-found g c = λ words accepted.
    found_generated words c.args.command c.in-Drill.generator c.new-p.result c.args.limit _ _ c.in-Drill.is c.new-p.ensures accepted c.find_summary.ensures

pub find_verdict-requires : goal.find_verdict-requires
find_verdict-requires g c =
    let both = c.in_ok-a-in-Check in
    subst (λ q. AreModulo q both.certificate) (sym both.ensures.matrix.modulus) both.ensures.modulus

pub returns-in_ok-a-in-Check-clause-found : goal.returns-in_ok-a-in-Check-clause-found
returns-in_ok-a-in-Check-clause-found g c = λ words accepted.
    let both = c.in_ok-a-in-Check in
    let (said, was, are) = both.ensures.did in
    found_given words c.args.command task.Check c.new-p.result both.a.modulus c.args.limit _ _ said _ c.in-Check.is c.new-p.ensures both.ensures.matrix.modulus accepted was (c.find_verdict.ensures.comes c.args.command said are)

pub returns-in_err-a-in-Check-clause-found : goal.returns-in_err-a-in-Check-clause-found
returns-in_err-a-in-Check-clause-found g c = λ words accepted.
    found_unread words c.args.command task.Check c.new-p.result c.args.limit _ _ c.in_err-a-in-Check.field-0.0 _ c.in-Check.is c.new-p.ensures c.from_residual-in_err-a-in-Check.ensures.1 accepted c.in_err-a-in-Check.ensures.did

pub returns-in_ok-a-in-Replay-clause-found : goal.returns-in_ok-a-in-Replay-clause-found
returns-in_ok-a-in-Replay-clause-found g c = λ words accepted.
    let both = c.in_ok-a-in-Replay in
    let (said, was, are) = both.ensures.did in
    found_given words c.args.command task.Replay c.new-p.result both.a.modulus c.args.limit _ _ said _ c.in-Replay.is c.new-p.ensures both.ensures.matrix.modulus accepted was (c.find_lawfulness.ensures.comes c.args.command said are)

pub returns-in_err-a-in-Replay-clause-found : goal.returns-in_err-a-in-Replay-clause-found
returns-in_err-a-in-Replay-clause-found g c = λ words accepted.
    found_unread words c.args.command task.Replay c.new-p.result c.args.limit _ _ c.in_err-a-in-Replay.field-0.0 _ c.in-Replay.is c.new-p.ensures c.from_residual-in_err-a-in-Replay.ensures.1 accepted c.in_err-a-in-Replay.ensures.did

pub returns-in_ok-answers-in-Grow-clause-found : goal.returns-in_ok-answers-in-Grow-clause-found
returns-in_ok-answers-in-Grow-clause-found g c = λ words accepted.
    let (said, was, are) = c.in_ok-answers-in-Grow.ensures.did in
    found_given words c.args.command task.Grow c.new-p.result c.new-p.result c.args.limit _ _ said _ c.in-Grow.is c.new-p.ensures refl accepted was
    (script_answers c.new-p.result c.in_ok-answers-in-Grow.answers said c.args.command c.in_ok-answers-in-Grow.ensures.fits are)

pub returns-in_err-answers-in-Grow-clause-found : goal.returns-in_err-answers-in-Grow-clause-found
returns-in_err-answers-in-Grow-clause-found g c = λ words accepted.
    found_unread words c.args.command task.Grow c.new-p.result c.args.limit _ _ c.in_err-answers-in-Grow.field-0.0 _ c.in-Grow.is c.new-p.ensures c.from_residual-in_err-answers-in-Grow.ensures.1 accepted c.in_err-answers-in-Grow.ensures.did

pub returns-in_ok-a-in_default-clause-found : goal.returns-in_ok-a-in_default-clause-found
returns-in_ok-a-in_default-clause-found g c = λ words accepted.
    let a = c.in_ok-a-in_default in
    let other = c.in_default in
    let one = reads_one c.args.command.task other.not-Solve other.not-Check other.not-Replay other.not-Grow other.not-Drill in
    found_of_one words c.args.command c.new-p.result a.a.modulus c.args.limit _ _ a.a.matrix _ one c.new-p.ensures a.ensures.matrix.modulus accepted a.ensures.did c.find_of_matrix.ensures

pub returns-in_err-a-in_default-clause-found : goal.returns-in_err-a-in_default-clause-found
returns-in_err-a-in_default-clause-found g c = λ words accepted.
    let other = c.in_default in
    let one = reads_one c.args.command.task other.not-Solve other.not-Check other.not-Replay other.not-Grow other.not-Drill in
    unread_of_one words c.args.command c.new-p.result c.args.limit _ _ c.in_err-a-in_default.field-0.0 _ one c.new-p.ensures c.from_residual-in_err-a-in_default.ensures.1 accepted c.in_err-a-in_default.ensures.did
