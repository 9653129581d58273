-- The rows so far are added.
use Rattle.std.proofs.Common.{◌≡◌, ◌%◌, ◌<◌}
use Rattle.spasm_run.proofs.PlaceSums.{weighted_rows}
use Rattle.spasm_run.proofs.summary.place_sum.Given as goal

abbrev pub invariant-loop-i : goal.invariant-loop-i
invariant-loop-i l = record { sum : l.sum ≡ weighted_rows l.rows.matrix l.i % l.p; residue : l.sum < l.p }
