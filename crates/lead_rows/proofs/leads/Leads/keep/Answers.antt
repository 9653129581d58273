use Rattle.std.proofs.Common.{◌≡◌, ◌≤◌, length, refl, arith}
use Rattle.lead_rows.proofs.Appending.{kept_led}
use Rattle.lead_rows.proofs.LedRows.{kept_short}
use Rattle.lead_rows.proofs.leads.Leads.keep.Goals as goal

pub overflow_cast-k : goal.overflow_cast-k
overflow_cast-k c =
    let short : length c.self.inside.rows.items ≤ c.self.inside.width = kept_short c.self.invariant.0 in
    omega (arith, c.self.invariant.0.width_small)

pub invariant_of-self-2 : goal.invariant_of-self-2
invariant_of-self-2 c =
    let count : c.len-k.result ≡ length c.self.inside.rows.items = omega arith in
    ((kept_led c.self.invariant.0 c.self.view_is c.requires.led c.requires.alone c.in_ok-push.ensures.items count refl).0, c.self.invariant.1)

pub returns-clause-ok : goal.returns-clause-ok
returns-clause-ok c =
    let count : c.len-k.result ≡ length c.self.inside.rows.items = omega arith in
    (kept_led c.self.invariant.0 c.self.view_is c.requires.led c.requires.alone c.in_ok-push.ensures.items count refl).1
