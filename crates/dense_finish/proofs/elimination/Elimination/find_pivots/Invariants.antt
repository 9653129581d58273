use Rattle.std.proofs.Common.{List, ℕ, length}
use Rattle.residue_words.specs.Residues.{IsPrime}
use Rattle.dense_finish.specs.Pivots.{AreSplit, KeepsPivots, stage}
use Rattle.dense_finish.proofs.Stages.{IsStage}
use Rattle.dense_finish.proofs.elimination.Elimination.find_pivots.Given as goal

abbrev pub invariant-loop-i : goal.invariant-loop-i
invariant-loop-i g l = record {
  state : IsStage l.self.p l.self.columns.now l.fn.pivots.u.matrix.width (length l.fn.pivots.columns.items) l.i l.pivots l.block l.panel;
  kept : KeepsPivots l.self.columns.now l.fn.pivots l.pivots;
  split : IsPrime l.self.p → (from : List (List ℕ)) → AreSplit l.self.p l.self.columns.now (length l.fn.pivots.columns.items) from (stage l.fn.pivots l.fn.block l.fn.rows.start) →
      AreSplit l.self.p l.self.columns.now (length l.fn.pivots.columns.items) from (stage l.pivots l.block l.i);
}
