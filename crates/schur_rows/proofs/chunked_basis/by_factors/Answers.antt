use Rattle.schur_rows.proofs.Streaming.{both_factored}
use Rattle.schur_rows.proofs.chunked_basis.by_factors.Goals as goal

pub returns : goal.returns
returns g c = both_factored c.args.basis c.args.below c.in_ok-both.both c.requires.width c.in_ok-both.ensures.modulus c.in_ok-both.ensures.matrix c.in_ok-u.ensures
