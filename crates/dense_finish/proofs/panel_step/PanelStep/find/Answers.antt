use Rattle.std.proofs.Common.{◌∙◌, ap, arith, length, subst}
use Rattle.std.proofs.lemmas.Result.{IfOk-weaker}
use Rattle.dense_finish.specs.Pivots.{FindsPanel, panel_stage}
use Rattle.dense_panels.specs.Panel.{PanelReducesEach}
use Rattle.dense_finish.proofs.PanelStages.{finds_joined, front_ready}
use Rattle.dense_panels.proofs.ReducedPieces.{both_clauses}
use Rattle.dense_finish.proofs.panel_step.PanelStep.find.Goals as goal

pub find_alone-requires-clause-ready : goal.find_alone-requires-clause-ready
find_alone-requires-clause-ready g c κs within =
    rw c.split_at_mut-own.ensures.front (front_ready c.args.self.now.rows.end c.requires.rows.order c.requires.rows.inside c.requires.ready)

pub find_beside-requires-clause-ready : goal.find_beside-requires-clause-ready
find_beside-requires-clause-ready g c =
    rw c.split_at_mut-own.ensures.front (front_ready c.args.self.now.rows.end c.requires.rows.order c.requires.rows.inside c.requires.ready)

pub returns-then-self-eq1 : goal.returns-then-self-eq1
returns-then-self-eq1 g c =
    let p = c.args.self.now.elimination.now.p in
    let names = c.args.self.now.elimination.now.columns.now in
    let found = c.args.self.now.found in
    let f = c.args.pivots.now in
    let own = c.find_alone.new.own in
    let others = c.find_alone.new.others in
    let front = c.split_at_mut-own.ensures.front in
    let back = c.split_at_mut-own.ensures.back in
    IfOk-weaker c.find_alone.result _ _ (λ next finds.
    finds_joined others c.requires.rows.order c.requires.rows.inside c.requires.ready (omega arith) (c.find_alone.auto.own ∙ ap length front) (c.find_alone.auto.others ∙ ap length back)
    (subst (λ rows. FindsPanel p names (panel_stage f found rows c.args.self.now.rows.start) (panel_stage c.find_alone.new.pivots next own c.args.self.now.rows.end)) front finds)
    (subst (λ rows. PanelReducesEach p found.panel rows others) back c.find_alone.ensures.others)) c.find_alone.ensures.own

pub returns : goal.returns
returns g c =
    let p = c.args.self.now.elimination.now.p in
    let names = c.args.self.now.elimination.now.columns.now in
    let found = c.args.self.now.found in
    let f = c.args.pivots.now in
    let own = c.find_beside.new.own in
    let others = c.find_beside.new.others in
    let front = c.split_at_mut-own.ensures.front in
    let back = c.split_at_mut-own.ensures.back in
    both_clauses c.find_beside.result _ _ _ (λ next finds reduces.
    finds_joined others c.requires.rows.order c.requires.rows.inside c.requires.ready (omega arith) (c.find_beside.auto.own ∙ ap length front) (c.find_beside.auto.others ∙ ap length back)
    (subst (λ rows. FindsPanel p names (panel_stage f found rows c.args.self.now.rows.start) (panel_stage c.find_beside.new.pivots next own c.args.self.now.rows.end)) front finds)
    (subst (λ rows. PanelReducesEach p found.panel rows others) back reduces)) c.find_beside.ensures.own c.find_beside.ensures.others
