-- The rows of the form.
use Rattle.std.proofs.Common.{◌∙◌, ap, arith, subst, sym}
use Rattle.residue_words.specs.Matrix.{Matrix, IsMatrix}
use Rattle.row_space.specs.Echelon.{IsRref}
use Rattle.spasm_lib.proofs.forms.rref.Goals as goal

pub returns-clause-modulus : goal.returns-clause-modulus
returns-clause-modulus g c = c.into_rows.ensures.modulus ∙ c.in_ok-form.ensures.modulus

pub returns-clause-sound : goal.returns-clause-sound
returns-clause-sound g c =
    let rows = c.into_rows.result in
    subst (λ q. IsMatrix q rows.matrix) (sym (c.into_rows.ensures.modulus ∙ c.in_ok-form.ensures.modulus))
    (subst (IsMatrix c.args.a.now.modulus) (sym c.into_rows.ensures.matrix) c.in_ok-form.ensures.matrix)

pub returns-clause-width : goal.returns-clause-width
returns-clause-width g c = ap (λ (M : Matrix). M.width) c.into_rows.ensures.matrix ∙ c.in_ok-form.ensures.width

pub returns-clause-short : goal.returns-clause-short
returns-clause-short g c = omega (arith, ap (λ (M : Matrix). M.height) c.into_rows.ensures.matrix, c.in_ok-form.ensures.short)

pub returns-clause-rref : goal.returns-clause-rref
returns-clause-rref g c = λ prime.
    subst (IsRref c.args.a.now.modulus c.args.a.now.matrix) (sym c.into_rows.ensures.matrix) (c.in_ok-form.ensures.rref prime)
