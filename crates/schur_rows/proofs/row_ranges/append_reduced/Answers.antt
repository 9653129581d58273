use Rattle.std.proofs.Common.{arith, refl}
use Rattle.schur_rows.proofs.Parting.{left_kept, left_none, left_pivot, left_rest}
use Rattle.schur_rows.proofs.row_ranges.append_reduced.Goals as goal

pub returns-then-pass-clause-added : goal.returns-then-pass-clause-added
returns-then-pass-clause-added c = left_pivot c.rows-rows.ensures refl c.is_sound.ensures.two_or_more c.pairs.ensures.triangular c.pairs.ensures.pairs c.in-Some.ensures c.requires.part c.in_ok-append_pivot.ensures.added

pub returns-in-Some-clause-added : goal.returns-in-Some-clause-added
returns-in-Some-clause-added c = left_none c.if-pass.false c.rows-rows.ensures refl c.is_sound.ensures.two_or_more c.pairs.ensures.pairs c.in-Some.ensures c.requires.part c.in_ok-append_zeros.ensures

pub returns-then-pass-2-clause-added : goal.returns-then-pass-2-clause-added
returns-then-pass-2-clause-added c = left_kept c.rows-rows.ensures c.is_sound.ensures.entries c.requires.row c.cols-cols.ensures.support c.vals-vals.ensures.values c.pairs.ensures.pairs c.in_default.ensures c.in_ok-reduce.ensures.fits c.in_ok-reduce.ensures.reduced
    (record { modulus = c.append.ensures.modulus; rows = c.in_ok-append.ensures.matrix; coefficient_modulus = c.append-then-pass-2.ensures.modulus; coefficients = c.in_ok-append-2.ensures.matrix })

pub returns-clause-added : goal.returns-clause-added
returns-clause-added c = left_rest c.if-pass-2.false c.rows-rows.ensures c.is_sound.ensures.entries (omega (arith, c.is_sound.ensures.two_or_more)) c.requires.row c.cols-cols.ensures.support c.vals-vals.ensures.values c.pairs.ensures.pairs
    c.in_default.ensures c.in_ok-rest.ensures.fits c.in_ok-rest.ensures.rest c.requires.part
    (record { modulus = c.append-2.ensures.modulus; rows = c.in_ok-append-3.ensures.matrix; coefficient_modulus = c.append_zeros-2.ensures.modulus; coefficients = c.in_ok-append_zeros-2.ensures.matrix })
