-- The pivots are the answer.
use Rattle.spasm_run.proofs.Fewer.{selected_by}
use Rattle.spasm_run.proofs.OneSelection.{pivots_answer}
use Rattle.spasm_run.proofs.commands.find_pivots.Goals as goal

pub returns : goal.returns
returns g c =
    let A = c.args.a.now in
    let pairs = c.in_ok-pairs in
    pivots_answer A c.args.command pairs.pairs (selected_by c.team_of.result.workers c.args.command.workers c.team_of.ensures.one_worker A.matrix pairs.pairs.items pairs.ensures) c.requires.height c.requires.width
