use Rattle.dense_panels.specs.Panel.{PanelReduces}
use Rattle.dense_panels.proofs.Splitting.{first_pivots}
use Rattle.dense_panels.proofs.panel.Panel.reduce.Given as goal

abbrev pub invariant-loop-k : goal.invariant-loop-k
invariant-loop-k g l = PanelReduces l.p (first_pivots l.k l.self) l.fn.row l.row
