-- The example of batches worked.
use Rattle.std.proofs.Common.{refl}
use Rattle.std.specs.Fmt.{digits}
use Rattle.batch_solve.specs.Example.{AreWorkedBatches}

pub worked : AreWorkedBatches
unfolding digits
worked = record { alone = refl; fits = refl; misfits = refl; wide = refl; line = refl; code = refl }
