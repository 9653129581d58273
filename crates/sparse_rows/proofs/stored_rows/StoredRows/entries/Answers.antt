use Rattle.std.proofs.Common.{◌≡◌, ◌∙◌, ap, arith, length, sym}
use Rattle.sparse_rows.specs.Rows.{entry_count}
use Rattle.sparse_rows.proofs.Stored.{entry_count_stored}
use Rattle.sparse_rows.proofs.stored_rows.StoredRows.entries.Goals as goal

pub returns : goal.returns
returns c =
    let count : length c.self.inside.cols.items ≡ entry_count c.args.self.now.matrix =
    sym (entry_count_stored c.self.invariant) ∙ ap (λ m. entry_count m.matrix) c.self.view_is in
    omega (arith, count, c.self.inside.cols.ok.0)
