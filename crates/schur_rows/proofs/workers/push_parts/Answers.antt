use Rattle.std.proofs.Common.{◌∙◌, All, sym, subst}
use Rattle.std.proofs.lemmas.List.Elements.{All-push}
use Rattle.schur_rows.specs.Parts.{IsNumbered}
use Rattle.schur_rows.proofs.workers.push_parts.Goals as goal

pub loop-preserved : goal.loop-preserved
loop-preserved c = record {
  work = c.part_by_number.ensures.work ∙ c.loop.invariant.work;
  parts = subst (All (IsNumbered c.args.deal.pass.reducer.now c.args.deal)) (sym c.in_ok-push.ensures.items)
      (All-push (IsNumbered c.args.deal.pass.reducer.now c.args.deal) c.loop.parts.items _ c.loop.invariant.parts c.in_ok-left.ensures.part);
}
