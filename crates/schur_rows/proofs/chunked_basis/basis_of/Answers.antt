use Rattle.std.proofs.Common.{◌≤◌, ◌∙◌, ap, arith, subst, sym}
use Rattle.residue_words.specs.Matrix.{IsMatrix}
use Rattle.sparse_rows.specs.Rows.{ResidueMatrix, LARGEST_SIZE}
use Rattle.schur_rows.proofs.Streaming.{basis_all, basis_none, without_coefficients}
use Rattle.triangular_solve.proofs.SchurRows.{schur_row_one}
use Rattle.schur_rows.proofs.FullBasis.{basis_full}
use Rattle.schur_rows.proofs.chunked_basis.basis_of.Goals as goal
use Rattle.schur_rows.proofs.chunked_basis.basis_of.Goals.{else-loop-from-test, then-loop-from-test+else-height-columns}

pub loop-from-init : goal.loop-from-init
loop-from-init g c = record {
  inside = omega arith;
  basis = basis_none {b = c.in_ok-basis.basis} c.modulus.ensures.two_or_more (c.modulus.ensures.value ∙ ap (λ (R : ResidueMatrix). R.modulus) c.rows-rows.ensures) (c.width.ensures.value ∙ ap (λ (R : ResidueMatrix). R.matrix.width) c.rows-rows.ensures)
      c.in_ok-basis.ensures.modulus c.in_ok-basis.ensures.matrix;
}

pub basis_with-requires-clause-modulus : goal.basis_with-requires-clause-modulus
basis_with-requires-clause-modulus g c = c.in_ok-left.ensures.0.modulus ∙ sym c.loop-from.invariant.basis.modulus

pub basis_with-requires-clause-width : goal.basis_with-requires-clause-width
basis_with-requires-clause-width g c = c.in_ok-left.ensures.0.width ∙ sym c.loop-from.invariant.basis.width

pub basis_with-requires-clause-height : goal.basis_with-requires-clause-height
basis_with-requires-clause-height g c =
    let small : c.args.pass.reducer.now.rows.matrix.height ≤ LARGEST_SIZE = subst (λ (R : ResidueMatrix). R.matrix.height ≤ LARGEST_SIZE) c.rows-rows.ensures (omega (arith, c.height-height.ensures.value, c.height-height.ensures.bound)) in
    omega (arith, c.loop-from.invariant.basis.height, c.in_ok-left.ensures.0.height, c.in_ok-left.ensures.1, c.end_of-to.ensures, small)

pub loop-from-preserved : goal.loop-from-preserved
loop-from-preserved g c = record {
  inside = omega (arith, c.end_of-to.ensures);
  basis = c.in_ok-basis-2.ensures c.args.pass.reducer.now c.loop-from.from c.end_of-to.result c.loop-from.invariant.basis (without_coefficients c.in_ok-left.ensures);
}

pub returns : goal.returns
returns g c =
    let height = c.height-height.ensures in
    let same = ap (λ (R : ResidueMatrix). R.matrix.height) c.rows-rows.ensures in
    elim c.loop-from-test.branch [
      | then-loop-from-test+else-height-columns w ↦ basis_full schur_row_one (subst (λ (R : ResidueMatrix). IsMatrix R.modulus R.matrix) c.rows-rows.ensures height.sound) c.is_sound.ensures c.loop-from.invariant.basis (omega (arith, c.loop-from.invariant.inside)) c.in_ok-columns.ensures (omega (arith, w.if-height-columns.false, w.height.ensures.value))
      | else-loop-from-test w ↦ basis_all c.is_sound.ensures c.loop-from.invariant.basis (omega (arith, c.loop-from.invariant.inside, w.loop-from-test.false, height.value, same))
    ]
