use Rattle.std.proofs.Common.{◌≡◌}
use Rattle.lead_rows.proofs.Behind.{first_behind}
use Rattle.lead_rows.proofs.leads.Leads.behind_zeros.Given as goal

abbrev pub invariant-loop-k : goal.invariant-loop-k
invariant-loop-k l = l.kept ≡ first_behind l.self-inside.modulus l.self-inside.width l.count l.self-inside.rows.items l.k
