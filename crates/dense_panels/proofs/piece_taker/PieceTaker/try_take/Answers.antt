use Rattle.dense_panels.proofs.SharedPieces.{takes}
use Rattle.dense_panels.proofs.piece_taker.PieceTaker.try_take.Goals as goal

pub try_pop_as-requires-clause-rule : goal.try_pop_as-requires-clause-rule
try_pop_as-requires-clause-rule g c = takes _ _
