-- The columns are no more than the narrow matrix has.
use Rattle.std.proofs.Common.{ap, arith, length}
use Rattle.residue_words.specs.Matrix.{Matrix}
use Rattle.run_trace.proofs.replaying.replay_with.Goals as goal

pub are_lawful-lawful-requires-clause-few : goal.are_lawful-lawful-requires-clause-few
are_lawful-lawful-requires-clause-few g c =
    omega (arith, ap (λ (M : Matrix). M.width) c.in_ok-narrow.ensures.matrix, ap length c.deref.ensures.value, ap length c.deref-2.ensures.value, c.is_sound.ensures.width)
