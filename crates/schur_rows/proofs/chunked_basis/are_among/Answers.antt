use Rattle.std.proofs.Common.{◌∙◌, ap, arith, inl, inr, not, subst, sym, slice_index}
use Rattle.std.specs.List.{Contains}
use Rattle.std.proofs.lemmas.Bool.{cases_eq, false≢true}
use Rattle.schur_rows.proofs.Numbers.{found_among, not_among}
use Rattle.schur_rows.proofs.chunked_basis.are_among.Goals as goal

pub returns-then-is_none : goal.returns-then-is_none
returns-then-is_none c = (
  λ e. absurd (false≢true e),
  λ all. absurd (not_among c.args.others.now _ c.place_of.result c.place_of.ensures (c.is_none.ensures ∙ ap not c.if-is_none.true) (all c.loop-k.k c.loop-k-test.true)),
)

pub loop-k-preserved : goal.loop-k-preserved
loop-k-preserved c = λ t l. elim (cases_eq t c.loop-k.k) [
  | inl e ↦ subst (λ t. Contains c.args.others.now (slice_index c.args.columns.now t)) (sym e)
      (found_among c.args.others.now _ c.place_of.result c.place_of.ensures (c.is_none.ensures ∙ ap not c.if-is_none.false))
  | inr d ↦ c.loop-k.invariant t (omega arith)
]
