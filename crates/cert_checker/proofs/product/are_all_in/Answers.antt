use Rattle.std.proofs.Common.{inl, inr, sym, subst, slice_index, arith}
use Rattle.std.specs.List.{Contains}
use Rattle.std.proofs.lemmas.Bool.{cases_eq}
use Rattle.cert_checker.proofs.product.are_all_in.Goals as goal

pub loop-k-preserved : goal.loop-k-preserved
loop-k-preserved c t l = elim (cases_eq t c.loop-k.k) [
  | inl same ↦ subst (λ t. Contains c.args.rising.now (slice_index c.args.numbers.now t)) (sym same) (c.is_in.ensures.0 c.if-not-is_in.false)
  | inr d ↦ c.loop-k.invariant t (omega arith)
]
