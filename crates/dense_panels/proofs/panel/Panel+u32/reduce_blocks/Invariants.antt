use Rattle.std.proofs.Common.{ℕ, ◌≡◌, ◌<◌, ◌≤◌, ◌-◌, length}
use Rattle.dense_rows.specs.Rows.{block_row}
use Rattle.dense_panels.specs.Panel.{PanelReduces}
use Rattle.dense_panels.proofs.panel.Panel+u32.reduce_blocks.Given as goal

abbrev pub invariant-loop-at : goal.invariant-loop-at
invariant-loop-at l = record {
  within : l.at ≤ length l.fn.rows;
  done : (t : ℕ) → t < l.at → PanelReduces l.p l.self (block_row l.fn.rows t) (block_row l.rows t);
  ahead : (t : ℕ) → l.at ≤ t → block_row l.rows t ≡ block_row l.fn.rows t;
}

abbrev pub decreases-loop-at : goal.decreases-loop-at
decreases-loop-at l = length l.initial.rows - l.at
