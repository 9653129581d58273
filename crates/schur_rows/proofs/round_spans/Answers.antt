use Rattle.schur_rows.proofs.Spanning.{round_spanned}
use Rattle.schur_rows.proofs.round_spans.Goals as goal

pub returns : goal.returns
returns c = round_spanned
