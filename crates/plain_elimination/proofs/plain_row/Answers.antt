-- Entry by entry.
use Rattle.plain_elimination.proofs.Spreading.{spread_zeros, spread_place, spread_next, spread_all}
use Rattle.std.proofs.Common.{◌≡◌, replicate, rules}
use Rattle.plain_elimination.proofs.plain_row.Goals as goal

pub loop-k-init : goal.loop-k-init
loop-k-init c =
    let zeros : c.in_ok-plain.plain.items ≡ replicate c.args.rows.now.matrix.width 0 = search rules in
    spread_zeros _ _ zeros

pub index_mut-requires : goal.index_mut-requires
index_mut-requires c = spread_place _ _ _ _ c.loop-k.plain c.loop-k.invariant (c.cols-cols.ensures.below_width c.loop-k.k c.loop-k-test.true)

pub loop-k-preserved : goal.loop-k-preserved
loop-k-preserved c =
    spread_next _ c.args.i c.loop-k.k c.args.rows.now.matrix _ _ _ c.requires.sound c.requires.inside c.cols-cols.ensures.support c.vals-vals.ensures.values c.loop-k-test.true c.loop-k.invariant

pub returns : goal.returns
returns c =
    spread_all _ c.args.i c.loop-k.k c.args.rows.now.matrix _ _ _ c.requires.sound c.requires.inside c.cols-cols.ensures.support c.vals-vals.ensures.values c.loop-k-test.false c.loop-k.invariant
