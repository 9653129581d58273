use Rattle.std.proofs.Common.{◌∙◌, ap, sym}
use Rattle.sparse_rows.specs.Rows.{entry_count}
use Rattle.sparse_rows.proofs.Expanding.{placed_entries}
use Rattle.sparse_rows.proofs.rows.Rows.entries.Goals as goal

pub returns : goal.returns
returns c = c.entries.ensures ∙ sym (placed_entries c.self.inside.every_row _ _ _ c.self.invariant) ∙ ap (λ m. entry_count m.matrix) c.self.view_is
