use Rattle.std.proofs.Common.{ℕ, ◌+◌, ◌∙◌, subst, sym}
use Rattle.std.proofs.lemmas.List.{get_or_default}
use Rattle.lead_rows.specs.Leads.{IsSettled}
use Rattle.echelon_form.proofs.Gathering.{IsGathered, gathered_all, gathered_more}
use Rattle.echelon_form.proofs.settle.share_of.Goals as goal

pub loop-at-preserved : goal.loop-at-preserved
loop-at-preserved c = record {
  gathered = subst (IsGathered c.args.kept.now c.args.order.now c.args.worker c.args.workers (c.loop-at.at + c.args.workers)) (sym c.in_ok-push.ensures.items)
      (gathered_more c.loop-at.invariant.gathered c.in_ok-settle_with.field-0 (λ d. record {
        modulus = c.in_ok-settle_with.ensures.modulus;
        settled = subst (λ (x : ℕ × ℕ). IsSettled c.args.kept.now x.1 c.in_ok-settle_with.field-0.row)
            (get_or_default c.args.order.now c.loop-at.at (0, 0) d c.loop-at-test.true) c.in_ok-settle_with.ensures.settled;
      }));
  clear = c.settle_with.ensures.clear ∙ c.loop-at.invariant.clear;
}

pub returns : goal.returns
returns c = gathered_all c.requires.worker c.loop-at.invariant.gathered c.loop-at-test.false
