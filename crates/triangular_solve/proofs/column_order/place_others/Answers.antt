use Rattle.triangular_solve.proofs.OrderingColumns.{others_all, others_more, others_order, others_passed}
use Rattle.triangular_solve.proofs.column_order.place_others.Goals as goal
use Rattle.triangular_solve.proofs.column_order.place_others.Goals.{then-places-at+in_ok-append, else-places-at}

pub loop-at-preserved : goal.loop-at-preserved
loop-at-preserved c = elim c.if-places-at.branch [
  | then-places-at+in_ok-append w ↦ rw w.places-is (rw w.columns-is (others_more c.requires.rising c.requires.few c.loop-at.invariant c.loop-at-test.true w.in_ok-append.ensures.ordering
      w.in_ok-append.ensures.places w.in_ok-append.ensures.columns))
  | else-places-at w ↦ rw w.places-is (rw w.columns-is (others_passed c.loop-at.invariant w.if-places-at.false))
]

pub returns-clause-first : goal.returns-clause-first
returns-clause-first c = others_all c.requires.rising c.requires.few c.loop-at.invariant c.loop-at-test.false

pub returns-clause-order : goal.returns-clause-order
returns-clause-order c = others_order c.requires.few c.loop-at.invariant c.loop-at-test.false
