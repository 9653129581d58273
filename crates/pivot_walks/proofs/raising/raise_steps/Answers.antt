use Rattle.std.proofs.Common.{◌≡◌, slice_index, subst, sym, ap, ◌∙◌, refl, arith}
use Rattle.std.specs.List.{Contains}
use Rattle.residue_words.specs.Matrix.{row}
use Rattle.sparse_rows.specs.Rows.{ResidueMatrix, support}
use Rattle.pivot_table.specs.History.{pair, Nonzero}
use Rattle.pivot_table.proofs.Short.{grown_short}
use Rattle.pivot_walks.proofs.Leveling.{grown_level, partly_none, partly_all, partly_more, partly_start}
use Rattle.residue_words.proofs.Lists.{contains_at}
use Rattle.pivot_walks.proofs.Walking.{in_support, of_support}
use Rattle.pivot_walks.proofs.raising.raise_steps.Goals as goal

pub loop-k-init : goal.loop-k-init
loop-k-init c =
    let f = grown_level c.args.pivots.now.rows.matrix c.args.pivots.now.pairs c.requires.grown in (
      record {
        width = c.requires.width;
        long = c.requires.levels.long;
        at = sym c.at-level.ensures;
        low = omega (arith, c.at-level.ensures, c.requires.levels.least f.0 f.1 c.args.c, f.3 (pair c.in-Some.row c.args.c) c.in-Some.ensures.0);
        unmarked = c.requires.fresh;
      },
      omega arith,
      partly_start c.cols-cols.result.now c.requires.levels,
    )

pub raise_column-requires-clause-few : goal.raise_column-requires-clause-few
raise_column-requires-clause-few c =
    let A = c.args.pivots.now.rows.matrix in
    omega (arith, grown_short A c.args.pivots.now.pairs c.requires.grown, c.is_sound.ensures.height, ap (λ (m : ResidueMatrix). m.matrix.height) c.rows-rows.ensures.value)

pub loop-k-preserved : goal.loop-k-preserved
loop-k-preserved c =
    let A = c.args.pivots.now.rows.matrix in
    let h = c.args.pivots.now.pairs in
    let s = c.in-Some.row in
    let inv = c.loop-k.invariant in
    let one = c.raise_column.ensures in
    let cols = c.cols-cols.result.now in
    let cols_are : cols ≡ support (row A s) = c.cols-cols.ensures.support ∙ ap (λ (m : ResidueMatrix). support (row m.matrix s)) c.rows-rows.ensures.value in
    let d = slice_index cols c.loop-k.k in
    let here : Nonzero A s d = of_support c.rows-rows.ensures.sound s c.in-Some.ensures.1 _ (subst (λ xs. Contains xs d) cols_are (contains_at cols c.loop-k.k _ c.loop-k-test.true refl)) in (
      one.can,
      omega (arith, one.work, inv.1),
      partly_more A h c.args.c cols c.loop-k.k c.loop-k.levels c.raise_column.new.levels c.loop-k.marks.list c.raise_column.new.marks.list inv.2 d refl c.at-level.result inv.0.at one.raised.others one.raised.raised one.raised.own
          s c.in-Some.ensures.0 here one.raised.long one.kept one.raised.above one.raised.by_one one.marked,
    )

pub returns-after-loop-k-clause-levels : goal.returns-after-loop-k-clause-levels
returns-after-loop-k-clause-levels c =
    let A = c.args.pivots.now.rows.matrix in
    let s = c.in-Some.row in
    let cols = c.cols-cols.result.now in
    let cols_are : cols ≡ support (row A s) = c.cols-cols.ensures.support ∙ ap (λ (m : ResidueMatrix). support (row m.matrix s)) c.rows-rows.ensures.value in
    partly_all s c.loop-k.invariant.2 (omega (arith, c.loop-k-test.false)) c.in-Some.ensures.2
    (λ d n. subst (λ xs. Contains xs d) (sym cols_are) (in_support c.rows-rows.ensures.sound s c.in-Some.ensures.1 d n))

pub returns-in_default-clause-levels : goal.returns-in_default-clause-levels
returns-in_default-clause-levels c = partly_none c.requires.levels c.in_default.ensures
