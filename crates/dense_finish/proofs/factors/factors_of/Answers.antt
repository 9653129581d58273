use Rattle.dense_finish.proofs.factors.factors_of.Goals as goal

pub returns : goal.returns
returns g c = record { modulus = c.in_ok-l.ensures.modulus; residues = c.in_ok-l.ensures.residues; left = c.in_ok-l.ensures.left; right = c.in_ok-pivots.ensures }
