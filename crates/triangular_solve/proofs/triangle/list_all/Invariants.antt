use Rattle.std.proofs.Common.{◌-◌, length}
use Rattle.triangular_solve.proofs.Listing.{IsListing}
use Rattle.triangular_solve.proofs.triangle.list_all.Given as goal

abbrev pub invariant-loop-place : goal.invariant-loop-place
invariant-loop-place l = IsListing l.rows.matrix l.pairs l.order.items l.waits l.queue

abbrev pub decreases-loop-place : goal.decreases-loop-place
decreases-loop-place l = length l.pairs - length l.order.items
