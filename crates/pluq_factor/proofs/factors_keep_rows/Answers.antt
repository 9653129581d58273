use Rattle.schur_rows.proofs.FactorRows.{factor_rows_span}
use Rattle.pluq_factor.proofs.factors_keep_rows.Goals as goal

pub returns : goal.returns
returns c = λ p A pivots L U prime m f. factor_rows_span prime m f
