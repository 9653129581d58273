use Rattle.std.proofs.Common.{◌≡◌, ◌<◌, ℕ}
use Rattle.pivot_table.specs.History.{StandsOrIsDead, StartsWith}
use Rattle.optimistic_search.proofs.team_search.sweep.Given as goal

abbrev pub invariant-loop-row : goal.invariant-loop-row
invariant-loop-row g l = record {
  rows : l.search.rows ≡ l.fn.search.rows;
  begins : StartsWith l.search.pairs l.fn.search.pairs;
  settled : (r : ℕ) → r < l.row → StandsOrIsDead l.fn.search.rows.matrix l.search.pairs r;
}
