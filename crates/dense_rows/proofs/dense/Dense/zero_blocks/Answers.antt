use Rattle.std.proofs.Common.{arith, inl, inr}
use Rattle.std.proofs.lemmas.Bool.{cases_lt}
use Rattle.dense_rows.proofs.dense.Dense.zero_blocks.Goals as goal

pub loop-at-init : goal.loop-at-init
loop-at-init g c = record { within = omega arith; zeros = λ x l. absurd (omega arith) }

pub loop-at-preserved : goal.loop-at-preserved
loop-at-preserved g c = record {
  within = omega (arith, c.loop-at.invariant.within);
  zeros = λ x l. elim (cases_lt x c.loop-at.at) [
    | inl less ↦ c.loop-at.invariant.zeros x less
    | inr more ↦ c.has_entry.ensures c.if-has_entry.false x more l
  ];
}
