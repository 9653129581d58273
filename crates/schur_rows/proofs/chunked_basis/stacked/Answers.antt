use Rattle.std.proofs.Common.{arith}
use Rattle.schur_rows.proofs.Streaming.{below_none}
use Rattle.schur_rows.proofs.chunked_basis.stacked.Goals as goal

pub returns-then-height-eq0-clause-matrix : goal.returns-then-height-eq0-clause-matrix
returns-then-height-eq0-clause-matrix c = below_none c.height.ensures.sound (omega (arith, c.height.ensures.value)) c.requires.width
