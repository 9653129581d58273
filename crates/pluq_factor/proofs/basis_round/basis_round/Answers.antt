use Rattle.pluq_factor.proofs.Bases.{round_of}
use Rattle.pluq_factor.proofs.basis_round.basis_round.Goals as goal

pub returns : goal.returns
returns g c =
    round_of c.rows.ensures c.triangle.ensures c.triangle-2.ensures c.is_sound.ensures.entries (record { nonzero = c.is_sound-2.ensures.nonzero; after = c.is_sound-2.ensures.after })
    c.in_ok-rest.ensures c.in_ok-top.ensures.modulus c.in_ok-top.ensures.matrix
