use Rattle.std.proofs.lemmas.Result.{on_ok_weaker}
use Rattle.schur_rows.proofs.Dealt.{joined_part, part_of_number}
use Rattle.schur_rows.proofs.workers.join_number.Goals as goal

pub returns-in-Some : goal.returns-in-Some
returns-in-Some c = on_ok_weaker c.join_below.result (λ joins. joined_part c.args.deal.pass.reducer.now c.args.deal c.args.number c.requires.made
    (part_of_number c.args.deal.pass.reducer.now c.args.deal c.args.parts.now c.requires.parts c.args.number c.in-Some.part.now c.in-Some.ensures)
    joins) c.join_below.ensures
