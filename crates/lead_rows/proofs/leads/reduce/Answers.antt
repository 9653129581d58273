use Rattle.std.proofs.Common.{OnOk, subst, sym}
use Rattle.sparse_rows.specs.Rows.{ResidueRow}
use Rattle.lead_rows.specs.Led.{CanTake, Drains}
use Rattle.lead_rows.proofs.Reducing.{loaded}
use Rattle.lead_rows.proofs.leads.reduce.Goals as goal

pub drain-done-requires-clause-rest : goal.drain-done-requires-clause-rest
drain-done-requires-clause-rest c =
    subst (λ (r : ResidueRow). CanTake r.row c.args.rest.now r.modulus) (sym (loaded c.requires.kept.two_or_more c.requires.sparse c.requires.clear c.add_multiple.ensures)) c.requires.rest

pub returns-clause-ok : goal.returns-clause-ok
returns-clause-ok c =
    subst (λ r. OnOk c.drain-done.result (Drains c.args.rows.now r c.args.rest.now.row c.drain-done.new.rest.row))
    (loaded c.requires.kept.two_or_more c.requires.sparse c.requires.clear c.add_multiple.ensures) c.drain-done.ensures.ok
