use Rattle.schur_rows.specs.Parts.{IsPartTo, cut_at}
use Rattle.schur_rows.proofs.workers.join_parts.Given as goal

abbrev pub invariant-loop-number : goal.invariant-loop-number
invariant-loop-number l = IsPartTo l.deal.pass.reducer.now l.deal.pass.with_coefficients l.deal.from (cut_at l.deal l.number) l.made
