use Rattle.std.proofs.lemmas.Result.{on_ok_weaker}
use Rattle.schur_rows.proofs.Dealt.{joined_part}
use Rattle.schur_rows.proofs.workers.join_missing.Goals as goal

pub returns : goal.returns
returns c = on_ok_weaker c.join_below.result (λ joins. joined_part c.args.deal.pass.reducer.now c.args.deal c.args.number c.requires.made c.in_ok-part.ensures joins) c.join_below.ensures
