use Rattle.std.proofs.Common.{rules, subst}
use Rattle.std.proofs.lemmas.Result.{IfOk-weaker}
use Rattle.dense_panels.specs.Pieces.{AreReducedBy, AreReducedByAll, HaveReducible, SharesOf}
use Rattle.dense_panels.proofs.ReducedPieces.{all_made}
use Rattle.dense_finish.proofs.panel_step.PanelStep.find_and_reduce.Goals as goal

pub join_mut-more-requires-after_bounds : goal.join_mut-more-requires-after_bounds
join_mut-more-requires-after_bounds g c κs within =
    let ready : HaveReducible c.args.self.now.elimination.now.p c.args.self.now.found (record { own = c.shares.inside.own.items; others = c.shares.inside.others.items }) = rw c.shares.view_is c.requires.others in
    (((c.requires.modulus, ready.others), search), ((c.requires.modulus, ready.own, c.requires.rows, c.requires.ready), search))

pub returns-clause-own : goal.returns-clause-own
returns-clause-own g c = search rules

pub returns-clause-others : goal.returns-clause-others
returns-clause-others g c =
    let p = c.args.self.now.elimination.now.p in
    let panel = c.args.self.now.found.panel in
    let shares : SharesOf = record { own = c.shares.inside.own.items; others = c.shares.inside.others.items } in
    let first : AreReducedBy p panel shares.own c.join_mut-more.result.1.1 = search rules in
    let second : AreReducedBy p panel shares.others c.join_mut-more.result.0 = search rules in
    IfOk-weaker c.with_pieces.result _ _
    (λ made e. subst (λ (s : SharesOf). AreReducedByAll p panel s made.1) c.shares.view_is (all_made p panel shares c.join_mut-more.result.1.1 c.join_mut-more.result.0 made.1 e first second)) c.with_pieces.ensures.pieces
