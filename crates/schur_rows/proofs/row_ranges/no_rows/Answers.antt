use Rattle.std.proofs.Common.{◌∙◌, arith, refl}
use Rattle.schur_rows.proofs.Numbers.{pairs_few}
use Rattle.schur_rows.proofs.Parting.{no_part}
use Rattle.schur_rows.proofs.row_ranges.no_rows.Goals as goal

pub overflow_cast-pivots : goal.overflow_cast-pivots
overflow_cast-pivots c = record { fits = omega (arith, pairs_few c.rows-rows.ensures refl c.is_sound.ensures.height c.pairs.ensures.pairs c.pairs.ensures.triangular) }

pub with_room-requires-2-clause-width_small : goal.with_room-requires-2-clause-width_small
with_room-requires-2-clause-width_small c = pairs_few c.rows-rows.ensures refl c.is_sound.ensures.height c.pairs.ensures.pairs c.pairs.ensures.triangular

pub returns : goal.returns
returns c = λ from. no_part c.rows-rows.ensures c.pairs.ensures.pairs (c.in_ok-with_room.ensures.modulus ∙ c.modulus.ensures.value) (c.in_ok-with_room-2.ensures.modulus ∙ c.modulus-2.ensures.value)
    c.width.ensures.value refl c.in_ok-with_room.ensures.matrix c.in_ok-with_room-2.ensures.matrix from
