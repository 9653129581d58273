use Rattle.std.proofs.Common.{sym, ◌∙◌, arith}
use Rattle.std.proofs.lemmas.Result.{IfOk-weaker}
use Rattle.weight_order.proofs.Turning.{turned_few, turned_width}
use Rattle.schur_rows.proofs.Streaming.{both_turned}
use Rattle.schur_rows.proofs.chunked_basis.by_form.Goals as goal

pub stacked-requires-clause-modulus : goal.stacked-requires-clause-modulus
stacked-requires-clause-modulus c = c.requires.modulus ∙ sym c.in_ok-turned.ensures.modulus

pub stacked-requires-clause-width : goal.stacked-requires-clause-width
stacked-requires-clause-width c = c.requires.width ∙ sym (turned_width c.in_ok-turned.ensures)

pub stacked-requires-clause-height : goal.stacked-requires-clause-height
stacked-requires-clause-height c = omega (arith, turned_few c.in_ok-turned.ensures, c.requires.height)

pub returns : goal.returns
returns c = IfOk-weaker c.reduced_basis.result _ _
    (λ next found. both_turned c.args.basis c.args.below c.in_ok-turned.turned c.in_ok-both.both next c.in_ok-turned.ensures c.requires.width c.in_ok-both.ensures.modulus c.in_ok-both.ensures.matrix found) c.reduced_basis.ensures
