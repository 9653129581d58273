use Rattle.std.proofs.Common.{All, IfSome, sym, subst}
use Rattle.std.proofs.lemmas.List.Elements.{All-append, All-pop}
use Rattle.std.proofs.lemmas.Result.{IfOk-at_ok}
use Rattle.schur_rows.specs.Parts.{IsNumbered, IsWorkersShare}
use Rattle.schur_rows.proofs.workers.parts_by.Goals as goal

pub loop-share-preserved : goal.loop-share-preserved
loop-share-preserved g c =
    let t = c.args.deal.pass.reducer.now in
    let deal = c.args.deal in
    let P = IsNumbered t deal in
    let apart = All-pop (IsWorkersShare t deal) c.loop-share.shares.items c.pop.new.self.items c.pop.result c.pop.ensures.items c.loop-share.invariant.shares in
    let share : IsWorkersShare t deal c.in-Some.share = subst (λ r. IfSome r (IsWorkersShare t deal)) c.in-Some.is apart.1 in
    record {
      shares = apart.0;
      parts = subst (All P) (sym c.in_ok-append.ensures.items)
          (All-append P c.loop-share.parts.items c.in_ok-more.more.items c.loop-share.invariant.parts (IfOk-at_ok (λ v. All P v.items) c.in_ok-more.was share));
    }
