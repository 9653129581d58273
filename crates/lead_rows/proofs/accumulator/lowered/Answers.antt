use Rattle.std.proofs.Common.{arith, inl, inr}
use Rattle.std.proofs.lemmas.Bool.{cases_lt}
use Rattle.lead_rows.proofs.accumulator.lowered.Goals as goal

pub returns-clause-same : goal.returns-clause-same
returns-clause-same c = elim (cases_lt c.args.sum c.args.limit) [ inl l ↦ inl (omega arith) | inr g ↦ inr (omega arith) ]
