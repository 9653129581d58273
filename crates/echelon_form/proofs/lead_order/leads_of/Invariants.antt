use Rattle.std.proofs.Common.{◌≡◌, map, take}
use Rattle.echelon_form.proofs.lead_order.leads_of.Given as goal

abbrev pub invariant-loop-c : goal.invariant-loop-c
invariant-loop-c l = l.leads.items ≡ map (λ c. c.0) (take l.c-index l.order)
