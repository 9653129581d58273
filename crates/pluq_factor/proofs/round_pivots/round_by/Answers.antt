use Rattle.std.proofs.Common.{◌≡◌, ◌∙◌, ap, arith, length, subst}
use Rattle.std.proofs.lemmas.Bool.Decides.{nat_tests}
use Rattle.std.proofs.lemmas.List.{nil_from_length}
use Rattle.residue_words.specs.Matrix.{IsMatrix}
use Rattle.sparse_rows.specs.Rows.{ResidueMatrix}
use Rattle.pivot_table.specs.Selected.{Selected}
use Rattle.pluq_factor.proofs.Taking.{taken_of}
use Rattle.pluq_factor.proofs.round_pivots.round_by.Goals as goal

pub returns-then-is_empty : goal.returns-then-is_empty
returns-then-is_empty g c =
    let t = c.args.triangle.now in
    let none : length t.pairs ≡ 0 = grind (arith, nat_tests, ap length c.pairs.ensures.pairs) in
    subst (Selected t.rows.matrix c.args.workers) (nil_from_length t.pairs none) c.requires.selected

pub returns : goal.returns
returns g c =
    let sound = subst (λ (R : ResidueMatrix). IsMatrix R.modulus R.matrix) c.rows.ensures c.is_sound.ensures.entries in
    taken_of sound c.requires.selected c.in_ok-left.ensures.fits c.in_ok-left.ensures.round c.in_ok-top.ensures.modulus c.in_ok-top.ensures.matrix (c.in_ok-pivots.ensures ∙ c.pairs-2.ensures.pairs)
