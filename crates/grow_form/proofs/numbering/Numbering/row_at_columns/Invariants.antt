use Rattle.std.proofs.Common.{◌≡◌}
use Rattle.grow_form.specs.Numbering.{column_numbered}
use Rattle.grow_form.proofs.OneRow.{renamed_to}
use Rattle.grow_form.proofs.numbering.Numbering.row_at_columns.Given as goal

abbrev pub invariant-loop-k : goal.invariant-loop-k
invariant-loop-k l = l.triples.items ≡ renamed_to (column_numbered l.self) l.numbers l.vals l.k
