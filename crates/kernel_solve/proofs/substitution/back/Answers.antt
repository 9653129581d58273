use Rattle.std.proofs.Common.{◌≡◌, ◌+◌, ◌-◌, ◌*◌, ◌%◌, ◌<◌, ◌≤◌, ℕ, List, length, replicate, slice_index, sym, ap, ap₂, subst, ◌∙◌, arith}
use Rattle.std.proofs.lemmas.List.{with_items_is}
use Rattle.residue_words.specs.Matrix.{IsVector, entry}
use Rattle.sparse_rows.specs.Rows.{ResidueMatrix}
use Rattle.kernel_solve.proofs.Substituting.{IsBack, back_more, back_none, col_is}
use Rattle.kernel_solve.proofs.substitution.back.Goals as goal

pub loop-k-init : goal.loop-k-init
loop-k-init c =
    let U : ResidueMatrix = c.args.right.now in
    let none : 0 ≡ length c.args.pivots.now - length c.args.pivots.now = omega arith in
    subst (λ n. IsBack U.modulus U.matrix c.args.pivots.now c.args.inverses.now c.args.side.now n c.in_ok-x.x.items) none
    (back_none (omega (arith, c.is_sound.ensures.two_or_more)) c.requires.pivots
    (c.in_ok-x.ensures.items_if_clones_equal (λ y e. e) ∙ ap (λ n. replicate {A = ℕ} n 0) c.width.ensures.value))

pub settle-requires-clause-column : goal.settle-requires-clause-column
settle-requires-clause-column c =
    let k : ℕ = c.loop-k.k - 1 in
    let l : k < length c.args.pivots.now = omega (arith, c.loop-k.auto.k, c.loop-k-test.true) in
    omega (arith, col_is c.args.pivots.now k (record { row = 0; col = 0 }) l, c.requires.pivots k l)

pub settle-requires-clause-vector : goal.settle-requires-clause-vector
settle-requires-clause-vector c = subst (IsVector c.args.right.now.modulus c.args.right.now.matrix.width) (sym c.as_mut_slice.ensures.value) c.loop-k.invariant.vector

pub loop-k-preserved : goal.loop-k-preserved
loop-k-preserved c =
    let U : ResidueMatrix = c.args.right.now in
    let r : ℕ = length c.args.pivots.now in
    let k : ℕ = c.loop-k.k - 1 in
    let high : c.loop-k.k ≤ r = c.loop-k.auto.k in
    let l : k < r = omega (arith, high, c.loop-k-test.true) in
    let next : List ℕ = c.settle.new.x in
    let is = col_is c.args.pivots.now k (record { row = 0; col = 0 }) l in
    let more : r - c.loop-k.k + 1 ≡ r - (c.loop-k.k - 1) = omega (arith, high, c.loop-k-test.true) in
    let long = c.settle.ensures.vector.len ∙ sym c.loop-k.invariant.vector.len ∙ sym c.loop-k.x.ok.0 in
    subst (IsBack U.modulus U.matrix c.args.pivots.now c.args.inverses.now c.args.side.now (r - (c.loop-k.k - 1))) (sym (with_items_is c.loop-k.x next long))
    (subst (λ n. IsBack U.modulus U.matrix c.args.pivots.now c.args.inverses.now c.args.side.now n next) more
    (back_more k (omega (arith, c.is_sound.ensures.two_or_more)) c.loop-k.invariant (omega (arith, high, c.loop-k-test.true)) c.settle.ensures.vector
    (λ t d. c.settle.ensures.others t (λ e. d (e ∙ sym is)) ∙ ap (λ u. slice_index u t) c.as_mut_slice.ensures.value)
    (λ z one. c.settle.ensures.solves (ap₂ slice_index c.as_mut_slice.ensures.value (sym is) ∙ z)
    (subst (λ j. entry U.matrix k j * slice_index c.args.inverses.now k % U.modulus ≡ 1) is one))))

pub returns-clause-vector : goal.returns-clause-vector
returns-clause-vector c = c.loop-k.invariant.vector

pub returns-clause-solves : goal.returns-clause-solves
returns-clause-solves c = λ upper k l. c.loop-k.invariant.solves upper k l (omega (arith, c.loop-k-test.false))
