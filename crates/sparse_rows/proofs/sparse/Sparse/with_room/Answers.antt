use Rattle.std.proofs.Common.{◌∙◌, ap₂}
use Rattle.sparse_rows.specs.Stored.{spread}
use Rattle.sparse_rows.proofs.Spread.{spread_none}
use Rattle.sparse_rows.proofs.sparse.Sparse.with_room.Goals as goal

pub returns-clause-row : goal.returns-clause-row
returns-clause-row c = ap₂ (spread c.args.n) c.in_ok-with_capacity.ensures.items c.in_ok-with_capacity-2.ensures.items ∙ spread_none c.args.n _
