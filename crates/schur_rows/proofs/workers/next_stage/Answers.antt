use Rattle.std.proofs.Common.{rules, All}
use Rattle.std.proofs.lemmas.List.Elements.{All-append}
use Rattle.schur_rows.specs.Parts.{IsNumbered}
use Rattle.schur_rows.proofs.workers.next_stage.Goals as goal

pub returns-clause-parts : goal.returns-clause-parts
returns-clause-parts g c =
    let P = IsNumbered c.args.deal.pass.reducer.now c.args.deal in
    let x = c.in_ok-all.all.items in
    let y = c.in_ok-more.more.items in
    let first : All P x = search rules in
    let second : All P y = search rules in
    rw c.in_ok-append.ensures.items (All-append P x y first second)
