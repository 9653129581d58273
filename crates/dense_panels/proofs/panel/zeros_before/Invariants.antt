use Rattle.std.proofs.Common.{ℕ, ◌≡◌, ◌<◌, ◌≤◌}
use Rattle.dense_rows.specs.Rows.{entry_of}
use Rattle.dense_panels.proofs.panel.zeros_before.Given as goal

abbrev pub invariant-loop-k : goal.invariant-loop-k
invariant-loop-k g l = record {
  within : l.before ≤ l.width;
  zeros : (k j : ℕ) → k < l.k → j < l.before → entry_of l.rows k j ≡ 0;
}
