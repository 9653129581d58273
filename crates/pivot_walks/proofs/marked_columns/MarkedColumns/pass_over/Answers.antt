use Rattle.std.proofs.Common.{◌≤◌, slice_index, arith}
use Rattle.std.specs.List.{Contains}
use Rattle.pivot_walks.proofs.Walking.{below_next}
use Rattle.pivot_walks.proofs.marked_columns.MarkedColumns.pass_over.Goals as goal

pub loop-at-preserved : goal.loop-at-preserved
loop-at-preserved c = (
  omega (arith, c.loop-at.invariant.0),
  omega (arith, c.loop-at.invariant.1),
  (λ t low l. below_next (λ t. c.args.from ≤ t → Contains c.args.self.now.list (slice_index c.args.cols.now t)) c.loop-at.at
      (λ t l low. c.loop-at.invariant.2 t low l) (λ low. c.has.ensures.0 c.if-not-has.false) t l low),
)
