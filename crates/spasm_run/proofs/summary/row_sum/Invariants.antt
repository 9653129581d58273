-- The entries so far are added.
use Rattle.std.proofs.Common.{◌≡◌, ◌%◌, ◌<◌}
use Rattle.spasm_run.proofs.PlaceSums.{weighted_row}
use Rattle.spasm_run.proofs.summary.row_sum.Given as goal

abbrev pub invariant-loop-k : goal.invariant-loop-k
invariant-loop-k l = record { sum : l.sum ≡ weighted_row l.cols l.vals l.k % l.p; residue : l.sum < l.p }
