use Rattle.triangular_solve.proofs.Listing.{triangular_order_one}
use Rattle.triangular_solve.proofs.triangle.triangular_order_is_one.Goals as goal

pub returns : goal.returns
returns c = triangular_order_one
