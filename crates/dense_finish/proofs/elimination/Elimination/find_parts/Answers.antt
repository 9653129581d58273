use Rattle.std.proofs.Common.{◌≡◌, ◌∙◌, arith, sym}
use Rattle.dense_finish.proofs.JoinedParts.{part_begins, part_joined, part_ready}
use Rattle.dense_finish.proofs.elimination.Elimination.find_parts.Goals as goal

pub loop-done-init : goal.loop-done-init
loop-done-init g c = rw c.none-found.ensures record { order = c.requires.rows.order; finds = part_begins c.requires.ready }

pub find_part-requires-clause-ready : goal.find_part-requires-clause-ready
find_part-requires-clause-ready g c κs within = part_ready c.requires.ready c.loop-done.auto.block c.loop-done.invariant.finds

pub loop-done-preserved : goal.loop-done-preserved
loop-done-preserved g c = record {
  order = omega arith;
  finds = part_joined c.loop-done.invariant.finds c.in_ok-more.ensures c.in_ok-join.ensures.panel c.in_ok-join.ensures.units;
}

pub find_part-requires-clause-rows : goal.find_part-requires-clause-rows
find_part-requires-clause-rows g c κs within = record { order = omega arith; inside = omega (arith, c.loop-done.auto.block, c.requires.rows.inside) }

pub join-requires-clause-wide : goal.join-requires-clause-wide
join-requires-clause-wide g c κs within = c.in_ok-more.ensures.holds.wide ∙ sym c.loop-done.invariant.finds.holds.wide

pub join-requires-clause-pivots : goal.join-requires-clause-pivots
join-requires-clause-pivots g c κs within = c.loop-done.invariant.finds.holds.pivots

pub join-requires-clause-units : goal.join-requires-clause-units
join-requires-clause-units g c κs within = c.loop-done.invariant.finds.units

pub join-requires-clause-more_pivots : goal.join-requires-clause-more_pivots
join-requires-clause-more_pivots g c κs within = c.in_ok-more.ensures.holds.pivots

pub join-requires-clause-more_units : goal.join-requires-clause-more_units
join-requires-clause-more_units g c κs within = c.in_ok-more.ensures.units

pub returns : goal.returns
returns g c =
    let end : c.loop-done.done ≡ c.args.rows.end = omega arith in
    rw (← end) c.loop-done.invariant.finds
