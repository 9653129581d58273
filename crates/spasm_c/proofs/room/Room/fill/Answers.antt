use Rattle.std.proofs.Common.{arith}
use Rattle.spasm_c.proofs.room.Room.fill.Goals as goal

pub returns-in_default-clause-good : goal.returns-in_default-clause-good
returns-in_default-clause-good c = λ is. absurd (omega (arith, is, c.requires))
