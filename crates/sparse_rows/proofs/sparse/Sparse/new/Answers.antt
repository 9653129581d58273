use Rattle.std.proofs.Common.{◌∙◌, ap₂}
use Rattle.sparse_rows.specs.Stored.{spread}
use Rattle.sparse_rows.proofs.Spread.{spread_none}
use Rattle.sparse_rows.proofs.sparse.Sparse.new.Goals as goal

pub returns-clause-row : goal.returns-clause-row
returns-clause-row c = ap₂ (spread c.args.n) c.new.ensures.items c.new-2.ensures.items ∙ spread_none c.args.n _
