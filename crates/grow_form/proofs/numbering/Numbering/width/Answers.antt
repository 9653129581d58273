use Rattle.std.proofs.Common.{◌∙◌, ap, length, sym}
use Rattle.grow_form.specs.Numbering.{NumberedColumns}
use Rattle.grow_form.proofs.Numbers.{long_arrivals}
use Rattle.grow_form.proofs.numbering.Numbering.width.Goals as goal

pub returns-clause-value : goal.returns-clause-value
returns-clause-value c = sym (long_arrivals c.self.inside.width c.self.inside.columns.keys) ∙ ap (λ (N : NumberedColumns). length N.arrivals) c.self.view_is
