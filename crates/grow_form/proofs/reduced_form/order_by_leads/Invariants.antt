use Rattle.echelon_form.proofs.Numbering.{AreListed}
use Rattle.grow_form.proofs.reduced_form.order_by_leads.Given as goal

abbrev pub invariant-loop-k : goal.invariant-loop-k
invariant-loop-k l = AreListed l.kept l.k l.order.items
