use Rattle.std.proofs.Common.{◌∙◌, length, refl, sym, ap, subst, arith}
use Rattle.std.proofs.lemmas.List.{length-set}
use Rattle.sparse_rows.proofs.Loops.{length_zeros}
use Rattle.triangular_solve.specs.PivotRows.{IsEliminating}
use Rattle.triangular_solve.proofs.Eliminating.{eliminated_falls, eliminating_more, eliminating_none, eliminating_skips}
use Rattle.triangular_solve.proofs.pivot_rows.PivotRows.eliminate.Goals as goal

pub loop-place-init : goal.loop-place-init
loop-place-init c = record {
  sums = c.requires.sums;
  coefficients = (refl, refl);
  eliminating = eliminating_none c.args.self.now c.args.sums.now.row c.args.coefficients.now.row (omega (arith, c.requires.modulus, c.is_sound.ensures.two_or_more)) c.requires.sums.vector c.requires.none;
}

pub push-requires-clause-column : goal.push-requires-clause-column
push-requires-clause-column c =
    omega (arith, c.in-Some.ensures.some.inside, c.loop-place.invariant.coefficients.1, ap length c.requires.none, length_zeros c.args.self.now.rows.matrix.height)

pub push-requires-clause-behind : goal.push-requires-clause-behind
push-requires-clause-behind c = λ k le l.
    c.loop-place.invariant.eliminating.behind c.in-Some.place k c.in-Some.ensures.some.nonzero le (omega (arith, c.loop-place.invariant.coefficients.1, ap length c.requires.none, length_zeros c.args.self.now.rows.matrix.height))

pub push-requires-clause-residue : goal.push-requires-clause-residue
push-requires-clause-residue c = omega (arith, c.in-Some.ensures.some.residue, c.loop-place.invariant.coefficients.0, c.requires.modulus)

pub loop-place-smaller-in-Continue-1 : goal.loop-place-smaller-in-Continue-1
loop-place-smaller-in-Continue-1 c = eliminated_falls c.loop-place.invariant.sums.vector c.in-Some.ensures.sums c.in-Some.ensures.some

pub loop-place-preserved-in-Continue-1 : goal.loop-place-preserved-in-Continue-1
loop-place-preserved-in-Continue-1 c = record {
  sums = c.in-Some.ensures.sums;
  coefficients = (c.push.ensures.modulus ∙ c.loop-place.invariant.coefficients.0, ap length c.in_ok-push.ensures.ok ∙ length-set c.loop-place.coefficients.row _ _ ∙ c.loop-place.invariant.coefficients.1);
  eliminating = eliminating_more (omega (arith, c.requires.modulus, c.is_sound.ensures.two_or_more)) c.loop-place.invariant.eliminating c.in-Some.ensures.some c.in_ok-push.ensures.ok;
}

pub loop-place-smaller : goal.loop-place-smaller
loop-place-smaller c = eliminated_falls c.loop-place.invariant.sums.vector c.in-Some.ensures.sums c.in-Some.ensures.some

pub loop-place-preserved : goal.loop-place-preserved
loop-place-preserved c = record {
  sums = c.in-Some.ensures.sums;
  coefficients = c.loop-place.invariant.coefficients;
  eliminating = eliminating_skips (omega (arith, c.requires.modulus, c.is_sound.ensures.two_or_more)) c.loop-place.invariant.eliminating c.in-Some.ensures.some (omega (arith, c.if-factor-gt0.false));
}

pub returns-clause-zero : goal.returns-clause-zero
returns-clause-zero c = c.in_default.ensures.none.0

pub returns-clause-ok : goal.returns-clause-ok
returns-clause-ok c =
    subst (λ w. IsEliminating c.args.self.now c.args.sums.now.row w c.loop-place.coefficients.row) (sym c.in_default.ensures.none.1) c.loop-place.invariant.eliminating
