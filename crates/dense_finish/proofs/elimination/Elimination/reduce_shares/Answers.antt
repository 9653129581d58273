use Rattle.std.proofs.Common.{◌<◌, arith, length, subst, sym}
use Rattle.dense_panels.specs.Pieces.{HasReducible, IsShareOf}
use Rattle.dense_finish.proofs.elimination.Elimination.reduce_shares.Goals as goal

pub par_for_each_mut-requires-after_bounds : goal.par_for_each_mut-requires-after_bounds
par_for_each_mut-requires-after_bounds g c κs within =
    λ i x l e. ((c.requires.modulus, subst (HasReducible c.args.self.now.p c.args.found.now) (sym e) (c.requires.ready i x.now l)), (search, search))

pub returns : goal.returns
returns g c = λ block of_block k d l.
    let p = c.args.self.now.p in
    let panel = c.args.found.now.panel in
    let less : k < length c.args.shares.now = omega (arith, l, c.par_for_each_mut.auto.s) in
    let at = (c.par_for_each_mut.ensures k d less).1 in
    subst (IsShareOf p panel block) at.left (at.call block (subst (IsShareOf p panel block) (sym at.argument_is) (of_block k d less)))
