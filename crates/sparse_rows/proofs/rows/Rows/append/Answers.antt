use Rattle.std.proofs.Common.{◌≡◌}
use Rattle.sparse_rows.specs.Stored.{spread}
use Rattle.sparse_rows.proofs.Spread.{spread_support}
use Rattle.sparse_rows.proofs.rows.Rows.append.Goals as goal

pub returns-clause-matrix : goal.returns-clause-matrix
returns-clause-matrix c =
    let e : spread c.args.self.now.matrix.width c.cols.result.now c.vals.result.now ≡ c.args.row.now.row =
    rw (c.cols.ensures.support, c.vals.ensures.values) (spread_support c.args.self.now.matrix.width c.args.row.now.row c.requires.width) in
    rw e at c.append_entries.ensures.matrix
