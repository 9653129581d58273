use Rattle.std.proofs.Common.{◌*◌, ◌%◌, ◌∙◌, length, slice_index, refl, ap, arith}
use Rattle.residue_words.specs.Matrix.{row}
use Rattle.sparse_rows.specs.Rows.{ResidueMatrix, ResidueRow, nonzeros}
use Rattle.sparse_rows.proofs.Loops.{length_zeros}
use Rattle.triangular_solve.proofs.Eliminating.{behind_first}
use Rattle.triangular_solve.proofs.Flattening.{flattened_tail, flattening_more, flattening_none, pivot_at, pivot_before, pivot_behind, pivot_some, takes_alike}
use Rattle.triangular_solve.proofs.flat_rows.FlatRows.flatten.Goals as goal

pub slice_bounds-cols-count : goal.slice_bounds-cols-count
slice_bounds-cols-count c = (pivot_some (pivot_at {vs = nonzeros (row c.rows-rows.result.now.matrix c.args.place)} c.rows-rows.ensures.rows c.rows-rows.ensures.placed (omega (arith, c.requires.next, c.requires.flat.count)) (omega (arith, c.modulus-modulus.ensures.value, c.modulus-modulus.ensures.two_or_more)) c.modulus-modulus.ensures.sound c.cols.ensures.support refl)).0

pub slice_bounds-cols-start : goal.slice_bounds-cols-start
slice_bounds-cols-start c = omega (arith, (pivot_some (pivot_at {vs = nonzeros (row c.rows-rows.result.now.matrix c.args.place)} c.rows-rows.ensures.rows c.rows-rows.ensures.placed (omega (arith, c.requires.next, c.requires.flat.count)) (omega (arith, c.modulus-modulus.ensures.value, c.modulus-modulus.ensures.two_or_more)) c.modulus-modulus.ensures.sound c.cols.ensures.support refl)).0)

pub slice_bounds-vals-count : goal.slice_bounds-vals-count
slice_bounds-vals-count c = (pivot_some (pivot_at c.rows-rows.ensures.rows c.rows-rows.ensures.placed (omega (arith, c.requires.next, c.requires.flat.count)) (omega (arith, c.modulus-modulus.ensures.value, c.modulus-modulus.ensures.two_or_more)) c.modulus-modulus.ensures.sound c.cols.ensures.support c.vals.ensures.values)).1

pub slice_bounds-vals-start : goal.slice_bounds-vals-start
slice_bounds-vals-start c = omega (arith, (pivot_some (pivot_at c.rows-rows.ensures.rows c.rows-rows.ensures.placed (omega (arith, c.requires.next, c.requires.flat.count)) (omega (arith, c.modulus-modulus.ensures.value, c.modulus-modulus.ensures.two_or_more)) c.modulus-modulus.ensures.sound c.cols.ensures.support c.vals.ensures.values)).1)

pub loop-k-init : goal.loop-k-init
loop-k-init c = record {
  sums = (refl, refl);
  flattening = flattening_none (omega (arith, (c.modulus-modulus.ensures.value ∙ ap (λ (r : ResidueMatrix). r.modulus) c.rows-rows.ensures.rows), c.modulus-modulus.ensures.two_or_more)) c.rows-rows.ensures.placed (ap (λ (r : ResidueRow). r.row) c.requires.clear);
}

pub mul-requires-clause-right : goal.mul-requires-clause-right
mul-requires-clause-right c =
    let s = pivot_behind (pivot_at c.rows-rows.ensures.rows c.rows-rows.ensures.placed (omega (arith, c.requires.next, c.requires.flat.count)) (omega (arith, c.modulus-modulus.ensures.value, c.modulus-modulus.ensures.two_or_more)) c.modulus-modulus.ensures.sound c.cols.ensures.support c.vals.ensures.values) in
    omega (arith, s.residues c.loop-k.k (omega (arith, s.long, c.loop-k-test.true)), (c.modulus-modulus.ensures.value ∙ ap (λ (r : ResidueMatrix). r.modulus) c.rows-rows.ensures.rows))

pub come_in-requires-clause-place : goal.come_in-requires-clause-place
come_in-requires-clause-place c = omega (arith, (pivot_behind (pivot_at c.rows-rows.ensures.rows c.rows-rows.ensures.placed (omega (arith, c.requires.next, c.requires.flat.count)) (omega (arith, c.modulus-modulus.ensures.value, c.modulus-modulus.ensures.two_or_more)) c.modulus-modulus.ensures.sound c.cols.ensures.support c.vals.ensures.values)).below c.loop-k.k c.loop-k-test.true, (c.loop-k.invariant.sums.1 ∙ ap (λ (r : ResidueRow). length r.row) c.requires.clear ∙ length_zeros (length c.args.pivots.now.columns)))

pub come_in-requires-clause-flat : goal.come_in-requires-clause-flat
come_in-requires-clause-flat c = omega (arith, pivot_before (pivot_at c.rows-rows.ensures.rows c.rows-rows.ensures.placed (omega (arith, c.requires.next, c.requires.flat.count)) (omega (arith, c.modulus-modulus.ensures.value, c.modulus-modulus.ensures.two_or_more)) c.modulus-modulus.ensures.sound c.cols.ensures.support c.vals.ensures.values) c.loop-k.k c.loop-k-test.true, c.requires.next)

pub loop-k-preserved : goal.loop-k-preserved
loop-k-preserved c =
    let alike = takes_alike c.in_ok-come_in.ensures in
    record {
      sums = (alike.0 ∙ c.loop-k.invariant.sums.0, alike.1 ∙ c.loop-k.invariant.sums.1);
      flattening = flattening_more (omega (arith, (c.modulus-modulus.ensures.value ∙ ap (λ (r : ResidueMatrix). r.modulus) c.rows-rows.ensures.rows), c.modulus-modulus.ensures.two_or_more)) c.rows-rows.ensures.placed c.requires.flat c.is_sound.ensures (pivot_behind (pivot_at c.rows-rows.ensures.rows c.rows-rows.ensures.placed (omega (arith, c.requires.next, c.requires.flat.count)) (omega (arith, c.modulus-modulus.ensures.value, c.modulus-modulus.ensures.two_or_more)) c.modulus-modulus.ensures.sound c.cols.ensures.support c.vals.ensures.values))
          c.loop-k.invariant.flattening c.loop-k-test.true (c.loop-k.invariant.sums.0 ∙ ap (λ (r : ResidueRow). r.modulus) c.requires.clear) (omega (arith, pivot_before (pivot_at c.rows-rows.ensures.rows c.rows-rows.ensures.placed (omega (arith, c.requires.next, c.requires.flat.count)) (omega (arith, c.modulus-modulus.ensures.value, c.modulus-modulus.ensures.two_or_more)) c.modulus-modulus.ensures.sound c.cols.ensures.support c.vals.ensures.values) c.loop-k.k c.loop-k-test.true, c.requires.next))
          (c.mul.ensures.value ∙ ap (λ m. (c.inverse-inverse.result * slice_index (behind_first c.vals.result.now) c.loop-k.k) % m) (c.modulus-modulus.ensures.value ∙ ap (λ (r : ResidueMatrix). r.modulus) c.rows-rows.ensures.rows)) c.in_ok-come_in.ensures;
    }

pub returns-clause-tail : goal.returns-clause-tail
returns-clause-tail c = flattened_tail (pivot_at c.rows-rows.ensures.rows c.rows-rows.ensures.placed (omega (arith, c.requires.next, c.requires.flat.count)) (omega (arith, c.modulus-modulus.ensures.value, c.modulus-modulus.ensures.two_or_more)) c.modulus-modulus.ensures.sound c.cols.ensures.support c.vals.ensures.values) c.loop-k-test.false c.loop-k.invariant.flattening c.inverse-inverse.ensures.inverse
