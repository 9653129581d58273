use Rattle.std.proofs.Common.{Vec, Global, ap}
use Rattle.std.proofs.lemmas.List.Elements.{All-same}
use Rattle.dense_panels.specs.Pieces.{HasReducible, ShareOf}
use Rattle.dense_panels.proofs.ReducedPieces.{kept_back, kept_from}
use Rattle.dense_finish.proofs.elimination.Elimination.pieces_by.Goals as goal

pub reduce_shares-requires-clause-ready : goal.reduce_shares-requires-clause-ready
reduce_shares-requires-clause-ready g c κs within =
    let P = HasReducible c.args.self.now.p c.args.found.now in
    All-same P c.as_mut_slice.result.now c.replace-own.result.items c.as_mut_slice.ensures.value
    (All-same P c.replace-own.result.items c.args.shares.now.items (ap (λ (v : Vec ShareOf Global). v.items) c.replace-own.ensures.value) c.requires.ready)

pub returns : goal.returns
returns g c = λ block of_block.
    let p = c.args.self.now.p in
    let panel = c.args.found.now.panel in
    let lent = kept_back p panel c.replace-own.result.len c.as_mut_slice.result.now c.replace-own.result.items c.reduce_shares.new.shares c.as_mut_slice.ensures.value c.reduce_shares.ensures in
    c.gathered.ensures p panel block (kept_from p panel c.replace-own.result.items c.args.shares.now.items _ (ap (λ (v : Vec ShareOf Global). v.items) c.replace-own.ensures.value) lent block of_block)
