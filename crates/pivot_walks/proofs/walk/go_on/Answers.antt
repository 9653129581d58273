use Rattle.std.proofs.Common.{◌≡◌, ◌<◌, ◌≤◌, length, slice_index, subst, ap, ◌∙◌, refl, arith, inl, inr}
use Rattle.std.proofs.lemmas.Bool.{cases_lt}
use Rattle.std.specs.List.{Contains}
use Rattle.residue_words.specs.Matrix.{row}
use Rattle.sparse_rows.specs.Rows.{ResidueMatrix, support}
use Rattle.pivot_walks.specs.Spent.{weight_at}
use Rattle.pivot_walks.proofs.Costing.{spent_step, spent_front}
use Rattle.pivot_walks.proofs.Walking.{walked, ended}
use Rattle.pivot_walks.proofs.walk.go_on.Goals as goal

pub loop-passed-init : goal.loop-passed-init
loop-passed-init g c =
    let A = c.args.pivots.now.rows.matrix in
    let r = c.args.row in
    let cols = c.cols-cols.result.now in
    let cols_are : cols ≡ support (row A r) = c.cols-cols.ensures.support ∙ ap (λ (m : ResidueMatrix). support (row m.matrix r)) c.rows.ensures.value in
    let marked = c.args.marks.now.list in
    let next = c.pass_over-passed.result in (
      refl,
      record {
        reached = c.requires.way.reached;
        begun = c.requires.way.begun;
        goes = c.requires.way.goes;
        listed = c.requires.way.listed;
        passes = λ k l. elim (cases_lt k c.args.passed) [
          | inl lt ↦ c.requires.passes k lt
          | inr ge ↦ subst (λ xs. Contains marked (slice_index xs k)) cols_are (c.pass_over-passed.ensures.passed k ge l)
        ];
        within = subst (λ xs. next ≤ length xs) cols_are c.pass_over-passed.ensures.high;
        next = subst (λ xs. next < length xs → ¬ Contains marked (slice_index xs next)) cols_are c.pass_over-passed.ensures.next;
      },
      omega arith,
    )

pub loop-passed-preserved : goal.loop-passed-preserved
loop-passed-preserved g c =
    let A = c.args.pivots.now.rows.matrix in
    let r = c.args.row in
    let cols = c.cols-cols.result.now in
    let cols_are : cols ≡ support (row A r) = c.cols-cols.ensures.support ∙ ap (λ (m : ResidueMatrix). support (row m.matrix r)) c.rows.ensures.value in
    let new = c.take_up.new.marks.list in
    let over = c.pass_over-passed-in-loop-passed in (
      c.take_up.ensures.width ∙ c.loop-passed.invariant.0,
      walked c.loop-passed.invariant.1 (omega (arith, c.len.ensures.value, c.if-taken-len.true)) c.at-c.result c.at-c.ensures.value (omega (arith, c.at-c.ensures.inside, c.loop-passed.invariant.0, c.requires.width))
          c.take_up.ensures.grows c.take_up.ensures.all over.result over.ensures.low
          (subst (λ xs. over.result ≤ length xs) cols_are over.ensures.high)
          (λ k low l. subst (λ xs. Contains new (slice_index xs k)) cols_are (over.ensures.passed k low l))
          (subst (λ xs. over.result < length xs → ¬ Contains new (slice_index xs over.result)) cols_are over.ensures.next),
      (let h = c.args.pivots.now.pairs in
          let old = c.loop-passed.marks.list in
          let k = c.loop-passed.taken in
          let lk : k < length old = omega (arith, c.len.ensures.value, c.if-taken-len.true) in
          let at : weight_at A h c.at-c.result ≡ weight_at A h (slice_index old k) = ap (weight_at A h) c.at-c.ensures.value in
          omega (arith, at, spent_step A h k c.take_up.ensures.grows lk, c.take_up.ensures.cost, c.loop-passed.invariant.2)),
    )

pub returns-else-taken-len-clause-settled : goal.returns-else-taken-len-clause-settled
returns-else-taken-len-clause-settled g c = ended c.requires.inside c.requires.fresh c.loop-passed.invariant.1 (inr (omega (arith, c.len.ensures.value, c.if-taken-len.false)))

pub returns-after-loop-passed-clause-cost : goal.returns-after-loop-passed-clause-cost
returns-after-loop-passed-clause-cost g c =
    omega (arith, c.loop-passed.invariant.2, spent_front c.args.pivots.now.rows.matrix c.args.pivots.now.pairs c.loop-passed.taken c.loop-passed.marks.list)
