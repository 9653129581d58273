use Rattle.dense_rows.proofs.ProductSums.{wide_lanes}
use Rattle.dense_rows.proofs.products.wide_splat.Goals as goal

pub returns : goal.returns
returns c = wide_lanes 8 c.args.c c.ranges.c.fits
