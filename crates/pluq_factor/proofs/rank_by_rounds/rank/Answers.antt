use Rattle.std.proofs.Common.{arith}
use Rattle.pluq_factor.proofs.Ranking.{rank_kept}
use Rattle.pluq_factor.proofs.rank_by_rounds.rank.Goals as goal

pub returns-clause-rank : goal.returns-clause-rank
returns-clause-rank g c = rank_kept c.in_ok-ordered.ensures.rank c.in_ok-rank-2.ensures.rank

pub returns-clause-at_most_height : goal.returns-clause-at_most_height
returns-clause-at_most_height g c = omega (arith, c.in_ok-ordered.ensures.rank.least, c.in_ok-rank-2.ensures.at_most_height, c.in_ok-rank-2.ensures.at_most_width)

pub returns-clause-at_most_width : goal.returns-clause-at_most_width
returns-clause-at_most_width g c = omega (arith, c.in_ok-ordered.ensures.rank.least, c.in_ok-rank-2.ensures.at_most_height, c.in_ok-rank-2.ensures.at_most_width)
