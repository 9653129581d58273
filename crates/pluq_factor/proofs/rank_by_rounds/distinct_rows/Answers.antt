use Rattle.weight_order.proofs.Dropping.{spanning_keeps}
use Rattle.pluq_factor.proofs.rank_by_rounds.distinct_rows.Goals as goal

pub returns : goal.returns
returns c = spanning_keeps c.in_ok-distinct.ensures
