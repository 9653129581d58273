use Rattle.std.proofs.Common.{Vec, Global, ap, rules, subst}
use Rattle.std.proofs.lemmas.List.Elements.{All-same}
use Rattle.dense_panels.specs.Pieces.{AreReducedBy, HasReducible, ShareOf}
use Rattle.dense_finish.proofs.elimination.Elimination.pieces_and_left.Goals as goal

pub join_mut-pieces-requires-after_bounds : goal.join_mut-pieces-requires-after_bounds
join_mut-pieces-requires-after_bounds g c κs within =
    let ready = All-same (HasReducible c.args.self.now.p c.args.found.now) c.replace-own.result.items c.args.shares.now.items (ap (λ (v : Vec ShareOf Global). v.items) c.replace-own.ensures.value) c.requires.ready in
    search

pub returns : goal.returns
returns g c =
    let p = c.args.self.now.p in
    let panel = c.args.found.now.panel in
    let made : AreReducedBy p panel c.replace-own.result.items c.join_mut-pieces.result.1 = search rules in
    subst (λ (v : Vec ShareOf Global). AreReducedBy p panel v.items c.join_mut-pieces.result.1) c.replace-own.ensures.value made
