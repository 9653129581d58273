use Rattle.std.proofs.Common.{ℕ, ◌≡◌, ◌<◌, ◌≤◌}
use Rattle.dense_rows.specs.Rows.{block_row}
use Rattle.dense_panels.specs.Panel.{PanelReduces}
use Rattle.dense_panels.proofs.panel.Panel.reduce_each.Given as goal

abbrev pub invariant-loop-k : goal.invariant-loop-k
invariant-loop-k g l = record {
  done : (t : ℕ) → t < l.k → PanelReduces l.p l.self (block_row l.fn.rows t) (block_row l.rows t);
  ahead : (t : ℕ) → l.k ≤ t → block_row l.rows t ≡ block_row l.fn.rows t;
}
