use Rattle.schur_rows.proofs.Spanning.{round_ranked}
use Rattle.schur_rows.proofs.round_rank.Goals as goal

pub returns : goal.returns
returns c = round_ranked
