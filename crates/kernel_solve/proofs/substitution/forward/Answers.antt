use Rattle.std.proofs.Common.{◌≡◌, ◌+◌, ◌*◌, ◌%◌, ℕ, List, replicate, slice_index, sym, ap, subst, ◌∙◌, arith}
use Rattle.std.proofs.lemmas.List.{with_items_is}
use Rattle.residue_words.specs.Matrix.{IsVector, dot, entry, row}
use Rattle.sparse_rows.specs.Rows.{ResidueMatrix}
use Rattle.kernel_solve.proofs.Substituting.{IsForward, forward_more, forward_none, row_is}
use Rattle.kernel_solve.proofs.substitution.forward.Goals as goal

pub loop-k-init : goal.loop-k-init
loop-k-init c =
    forward_none (omega (arith, c.is_sound.ensures.two_or_more))
    (c.in_ok-z.ensures.items_if_clones_equal (λ y e. e) ∙ ap (λ n. replicate {A = ℕ} n 0) c.width.ensures.value)

pub bounds-side-i : goal.bounds-side-i
bounds-side-i c = omega (arith, row_is c.args.pivots.now c.loop-k.k (record { row = 0; col = 0 }) c.loop-k-test.true, c.requires.pivots c.loop-k.k c.loop-k-test.true, c.requires.side.len)

pub settle-requires-clause-row : goal.settle-requires-clause-row
settle-requires-clause-row c = omega (arith, row_is c.args.pivots.now c.loop-k.k (record { row = 0; col = 0 }) c.loop-k-test.true, c.requires.pivots c.loop-k.k c.loop-k-test.true)

pub settle-requires-clause-vector : goal.settle-requires-clause-vector
settle-requires-clause-vector c = subst (IsVector c.args.left.now.modulus c.args.left.now.matrix.width) (sym c.as_mut_slice.ensures.value) c.loop-k.invariant.vector

pub loop-k-preserved : goal.loop-k-preserved
loop-k-preserved c =
    let L : ResidueMatrix = c.args.left.now in
    let n : ℕ = c.loop-k.k in
    let next : List ℕ = c.settle.new.x in
    let is = row_is c.args.pivots.now n (record { row = 0; col = 0 }) c.loop-k-test.true in
    let long = c.settle.ensures.vector.len ∙ sym c.loop-k.invariant.vector.len ∙ sym c.loop-k.z.ok.0 in
    subst (IsForward L.modulus L.matrix c.args.pivots.now c.args.inverses.now c.args.side.now (n + 1)) (sym (with_items_is c.loop-k.z next long))
    (forward_more c.loop-k.invariant c.requires.width c.loop-k-test.true c.settle.ensures.vector (λ t d. c.settle.ensures.others t d ∙ ap (λ u. slice_index u t) c.as_mut_slice.ensures.value)
    (λ z one. subst (λ i. dot L.modulus L.matrix.width (row L.matrix i) next ≡ slice_index c.args.side.now i) (sym is)
    (c.settle.ensures.solves (ap (λ u. slice_index u n) c.as_mut_slice.ensures.value ∙ z) (subst (λ i. entry L.matrix i n * slice_index c.args.inverses.now n % L.modulus ≡ 1) is one))))

pub returns-clause-vector : goal.returns-clause-vector
returns-clause-vector c = c.loop-k.invariant.vector

pub returns-clause-solves : goal.returns-clause-solves
returns-clause-solves c = λ lower k l. c.loop-k.invariant.solves lower k (omega (arith, l, c.loop-k-test.false))
