use Rattle.std.proofs.Common.{arith, length, ap}
use Rattle.sparse_rows.specs.Rows.{ResidueMatrix}
use Rattle.schur_rows.proofs.Distinct.{triangular_short}
use Rattle.pluq_factor.proofs.counted_round.counted_by.Goals as goal

pub overflow_cast-count : goal.overflow_cast-count
overflow_cast-count g c =
    omega (arith, triangular_short c.pairs-2.ensures.triangular, ap length c.pairs-2.ensures.pairs, ap (λ (R : ResidueMatrix). R.matrix.height) c.rows.ensures, c.is_sound.ensures.height)
