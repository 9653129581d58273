use Rattle.pluq_factor.proofs.rank_by_rounds.+rank_from.Given as goal

abbrev pub decreases-rank_from : goal.decreases-rank_from
decreases-rank_from g l = l.rounds
