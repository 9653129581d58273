use Rattle.std.proofs.Common.{◌≡◌, ◌⊎◌, length, slice_index, subst, ap, ◌∙◌, refl, arith}
use Rattle.std.specs.List.{Contains}
use Rattle.residue_words.specs.Matrix.{row}
use Rattle.sparse_rows.specs.Rows.{ResidueMatrix, support}
use Rattle.pivot_table.specs.History.{HasCol}
use Rattle.pivot_walks.specs.Levels.{IsBoundedWalk, limits}
use Rattle.pivot_walks.specs.Reached.{progress}
use Rattle.pivot_walks.proofs.Leveling.{bounded_alive, bounded_more, passed_dead}
use Rattle.pivot_walks.proofs.leveled_walk.go_on.Goals as goal

pub loop-passed-init : goal.loop-passed-init
loop-passed-init c =
    let A = c.args.pivots.now.rows.matrix in
    let h = c.args.pivots.now.pairs in
    let r = c.args.row in
    let marked = c.args.marks.now.list in
    let over = c.pass_over-passed in
    let cols_are : c.cols-cols.result.now ≡ support (row A r) = c.cols-cols.ensures.support ∙ ap (λ (m : ResidueMatrix). support (row m.matrix r)) c.rows.ensures.value in (
      refl,
      record {
        reached = c.requires.begins.reached;
        begun = c.requires.begins.begun;
        goes = λ k s d l. absurd (omega arith);
        listed = omega arith;
        passes = λ k l. subst (λ xs. Contains marked (slice_index xs k) ⊎ HasCol h (slice_index xs k)) cols_are (over.ensures.passed k (omega arith) l);
        within = over.ensures.high;
        next = λ l. (subst (λ xs. ¬ Contains marked (slice_index xs over.result)) cols_are (over.ensures.unmarked l), subst (λ xs. ¬ HasCol h (slice_index xs over.result)) cols_are (over.ensures.free l));
      },
      λ e. e,
    )

pub loop-passed-preserved : goal.loop-passed-preserved
loop-passed-preserved c =
    let A = c.args.pivots.now.rows.matrix in
    let h = c.args.pivots.now.pairs in
    let r = c.args.row in
    let new = c.take_up.new.marks.list in
    let over = c.pass_over-passed-in-loop-passed in
    let cols_are : c.cols-cols.result.now ≡ support (row A r) = c.cols-cols.ensures.support ∙ ap (λ (m : ResidueMatrix). support (row m.matrix r)) c.rows.ensures.value in (
      c.take_up.ensures.width ∙ c.loop-passed.invariant.0,
      bounded_more c.loop-passed.invariant.1 (omega (arith, c.len.ensures.value, c.if-taken-len.true)) c.at-c.result c.at-c.ensures.value c.take_up.ensures.grows c.take_up.ensures.all over.result over.ensures.high
          (λ k low l. subst (λ xs. Contains new (slice_index xs k) ⊎ HasCol h (slice_index xs k)) cols_are (over.ensures.passed k low l))
          (λ l. (subst (λ xs. ¬ Contains new (slice_index xs over.result)) cols_are (over.ensures.unmarked l), subst (λ xs. ¬ HasCol h (slice_index xs over.result)) cols_are (over.ensures.free l))),
      λ e. c.take_up.ensures.unbounded (c.loop-passed.invariant.2 e),
    )

pub returns-else-taken-len-clause-there : goal.returns-else-taken-len-clause-there
returns-else-taken-len-clause-there c = λ left l.
    let A = c.args.pivots.now.rows.matrix in
    let h = c.args.pivots.now.pairs in
    let w = c.loop-passed.invariant.1 in
    let to = limits c.args.levels.now c.args.stop.level c.args.stop.place in
    let marked = c.loop-passed.marks.list in
    let e : c.loop-passed.taken ≡ length marked = omega (arith, w.listed, c.len.ensures.value, c.if-taken-len.false) in
    bounded_alive c.requires.stop.rises (subst (λ n. IsBoundedWalk A h c.args.row to (progress marked n c.loop-passed.passed)) e w)
    c.rows.ensures.sound c.requires.inside c.requires.fresh l c.requires.stop.within c.requires.stop.low

pub returns-else-taken-len-clause-before : goal.returns-else-taken-len-clause-before
returns-else-taken-len-clause-before c = passed_dead c.loop-passed.invariant.1

pub returns-after-loop-passed-clause-before : goal.returns-after-loop-passed-clause-before
returns-after-loop-passed-clause-before c = passed_dead c.loop-passed.invariant.1

pub returns-then-is_spent-clause-before : goal.returns-then-is_spent-clause-before
returns-then-is_spent-clause-before c = passed_dead c.loop-passed.invariant.1
