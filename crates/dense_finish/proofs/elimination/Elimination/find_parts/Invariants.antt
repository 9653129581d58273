use Rattle.std.proofs.Common.{◌-◌, ◌≤◌}
use Rattle.dense_finish.specs.Pivots.{FindsPart, panel_stage, stage}
use Rattle.dense_finish.proofs.elimination.Elimination.find_parts.Given as goal

abbrev pub invariant-loop-done : goal.invariant-loop-done
invariant-loop-done g l = record {
  order : l.done ≤ l.rows.end;
  finds : FindsPart l.self.p l.self.columns.now (stage l.fn.pivots l.fn.block l.rows.start) (panel_stage l.pivots l.found l.block l.done);
}

abbrev pub decreases-loop-done : goal.decreases-loop-done
decreases-loop-done g l = l.initial.rows.end - l.done
