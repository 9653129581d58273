use Rattle.echelon_form.proofs.Numbering.{AreListed}
use Rattle.echelon_form.proofs.lead_order.order_of.Given as goal

abbrev pub invariant-loop-k : goal.invariant-loop-k
invariant-loop-k l = AreListed l.kept l.k l.order.items
