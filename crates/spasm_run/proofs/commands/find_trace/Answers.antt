-- What was traced is the answer.
use Rattle.std.proofs.Common.{arith}
use Rattle.spasm_run.proofs.Fewer.{traced_by}
use Rattle.spasm_run.proofs.TraceAnswers.{trace_answers}
use Rattle.spasm_run.proofs.commands.find_trace.Goals as goal

pub returns : goal.returns
returns g c =
    let A = c.args.a.now in
    let found = c.in_ok-trace in
    trace_answers A c.args.command found.trace (traced_by c.fitting_workers-workers.result c.args.command.workers c.fitting_workers-workers.ensures.one_worker A.modulus A.matrix found.trace found.ensures.is) (found.ensures.fits (omega (arith, c.requires.height), omega (arith, c.requires.width)))
