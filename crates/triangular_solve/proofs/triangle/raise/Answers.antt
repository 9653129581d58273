use Rattle.std.proofs.Common.{◌+◌, ap, arith}
use Rattle.triangular_solve.proofs.Changing.{changed_at, changed_comes, changed_passes, unchanged_yet}
use Rattle.triangular_solve.proofs.triangle.raise.Goals as goal
use Rattle.triangular_solve.proofs.triangle.raise.Goals.{in-Some, in_default}

pub loop-column-preserved : goal.loop-column-preserved
loop-column-preserved c =
    let cols = c.args.cols.now in
    let columns = c.args.columns.now in
    let l = c.loop-column-test.true in
    elim c.match-find.branch [
      | in-Some w ↦
          let place = w.in-Some.place in
          let inside = w.in-Some.ensures.0 in
          let same = unchanged_yet cols l columns c.loop-column.invariant c.requires.rising c.requires.pivotal place inside w.in-Some.ensures.1 in
          rw w.waits-is (changed_comes cols l columns c.loop-column.invariant c.requires.rising c.requires.pivotal place inside w.in-Some.ensures.1 _
          (omega (arith, c.loop-column.auto.waits, c.requires.many, inside)) (ap (λ x. x + 1) same))
      | in_default w ↦ rw w.waits-is (changed_passes cols l columns c.loop-column.invariant w.in_default.ensures)
    ]

pub returns-clause-raised : goal.returns-clause-raised
returns-clause-raised c = changed_at c.args.columns.now c.args.cols.now (omega (arith, c.loop-column-test.false)) c.loop-column.invariant
