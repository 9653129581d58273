use Rattle.std.proofs.Common.{◌≤◌, length, arith, subst}
use Rattle.lead_rows.specs.Leads.{IsSound}
use Rattle.lead_rows.proofs.LedRows.{kept_short, kept_sound}
use Rattle.lead_rows.proofs.leads.Leads.height.Goals as goal

pub overflow_cast-result : goal.overflow_cast-result
overflow_cast-result c =
    let short : length c.self.inside.rows.items ≤ c.self.inside.width = kept_short c.self.invariant.0 in
    omega (arith, c.self.invariant.0.width_small)

pub returns-clause-bound : goal.returns-clause-bound
returns-clause-bound c =
    let short : length c.self.inside.rows.items ≤ c.self.inside.width = kept_short c.self.invariant.0 in
    rw (← c.self.view_is) (omega arith)

pub returns-clause-sound : goal.returns-clause-sound
returns-clause-sound c = subst IsSound c.self.view_is (kept_sound c.self.invariant.0)
