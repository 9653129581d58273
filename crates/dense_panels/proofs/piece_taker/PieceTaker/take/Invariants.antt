use Rattle.std.proofs.Common.{◌≡◌}
use Rattle.dense_panels.proofs.piece_taker.PieceTaker.take.Given as goal

abbrev pub invariant-loop : goal.invariant-loop
invariant-loop g l = record { same : l.self ≡ l.fn.self }
