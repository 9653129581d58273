use Rattle.pluq_factor.proofs.by_rounds.+factor_from.Given as goal

abbrev pub decreases-factor_from : goal.decreases-factor_from
decreases-factor_from g l = l.rounds
