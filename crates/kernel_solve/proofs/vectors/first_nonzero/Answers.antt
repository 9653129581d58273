use Rattle.std.proofs.Common.{◌≡◌, slice_index, inl, inr, ap, ◌∙◌, arith}
use Rattle.std.proofs.lemmas.Bool.{cases_eq}
use Rattle.kernel_solve.proofs.vectors.first_nonzero.Goals as goal

pub loop-k-init : goal.loop-k-init
loop-k-init c = λ t l. absurd (omega arith)

pub loop-k-preserved : goal.loop-k-preserved
loop-k-preserved c = λ t l. elim (cases_eq t c.loop-k.k) [
  | inl e ↦ ap (slice_index c.args.entries.now) e ∙ (let z : slice_index c.args.entries.now c.loop-k.k ≡ 0 = omega (arith, c.if-entries-k-ne0.false) in z)
  | inr d ↦ c.loop-k.invariant t (omega arith)
]

pub returns : goal.returns
returns c = λ t h l. c.loop-k.invariant t (omega (arith, l, c.loop-k-test.false))
