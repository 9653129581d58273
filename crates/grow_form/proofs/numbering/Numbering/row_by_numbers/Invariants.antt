use Rattle.std.proofs.Common.{◌≡◌}
use Rattle.grow_form.specs.Numbering.{number_of}
use Rattle.grow_form.proofs.OneRow.{renamed_to}
use Rattle.grow_form.proofs.numbering.Numbering.row_by_numbers.Given as goal

abbrev pub invariant-loop-k : goal.invariant-loop-k
invariant-loop-k l = l.triples.items ≡ renamed_to (number_of l.self) l.cols l.vals l.k
