use Rattle.std.proofs.Common.{arith}
use Rattle.triangular_solve.proofs.PlacingRows.{pair_row}
use Rattle.triangular_solve.proofs.pivot_rows.count_entries.Goals as goal

pub cols-requires : goal.cols-requires
cols-requires c = omega (arith, pair_row c.args.pairs.now c.loop-k.k c.loop-k-test.true, c.requires.inside c.loop-k.k c.loop-k-test.true)
