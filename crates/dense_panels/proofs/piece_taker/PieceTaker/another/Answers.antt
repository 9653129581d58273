use Rattle.dense_panels.proofs.SharedPieces.{forks}
use Rattle.dense_panels.proofs.piece_taker.PieceTaker.another.Goals as goal

pub another-requires-clause-rule : goal.another-requires-clause-rule
another-requires-clause-rule g c = forks _ _
