use Rattle.std.proofs.Common.{arith}
use Rattle.dense_rows.proofs.ProductSums.{written_lanes}
use Rattle.dense_rows.proofs.products.write_lanes.Goals as goal

pub returns : goal.returns
returns c = written_lanes c.args.at c.args.row.now c.args.values c.requires.room (omega arith)
