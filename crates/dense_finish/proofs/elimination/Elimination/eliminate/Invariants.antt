use Rattle.std.proofs.Common.{◌-◌, ◌≡◌, ◌≤◌, length}
use Rattle.residue_words.specs.Residues.{IsPrime}
use Rattle.dense_finish.specs.Pivots.{AreSplit, CanGoOn, before_panel, panel_stage, stage}
use Rattle.dense_finish.proofs.elimination.Elimination.eliminate.Given as goal

abbrev pub invariant-loop-done : goal.invariant-loop-done
invariant-loop-done g l = record {
  inside : l.done ≤ length l.fn.block;
  wide : l.pivots.u.matrix.width ≡ l.self.width;
  ready : CanGoOn l.self.p l.self.columns.now (panel_stage l.pivots l.found l.block l.done);
  split : IsPrime l.self.p → AreSplit l.self.p l.self.columns.now (before_panel (panel_stage l.pivots l.found l.block l.done)) l.fn.block (stage l.pivots l.block l.done);
}

abbrev pub decreases-loop-done : goal.decreases-loop-done
decreases-loop-done g l = length l.initial.block - l.done
