use Rattle.std.proofs.Common.{◌≡◌, length}
use Rattle.lead_rows.specs.Led.{kept_rows}
use Rattle.lead_rows.proofs.Draining.{IsDraining}
use Rattle.lead_rows.proofs.Extent.{extent}
use Rattle.lead_rows.proofs.leads.drain.Given as goal

abbrev pub invariant-loop-c : goal.invariant-loop-c
invariant-loop-c l = record {
  modulus : l.rest.modulus ≡ l.fn.rest.modulus;
  sums_modulus : l.sums.modulus ≡ l.fn.sums.modulus;
  draining : IsDraining (kept_rows l.fn.sums.modulus (length l.fn.sums.row) l.rows) l.fn.sums.row l.fn.rest.row l.sums.row l.rest.row;
}

abbrev pub decreases-loop-c : goal.decreases-loop-c
decreases-loop-c l = extent l.sums.row
