use Rattle.std.proofs.Common.{◌≡◌, slice_index, subst, sym, ap, ◌∙◌, refl, arith, ⊎_elim}
use Rattle.std.specs.List.{Contains}
use Rattle.residue_words.specs.Matrix.{row}
use Rattle.sparse_rows.specs.Rows.{ResidueMatrix, support}
use Rattle.pivot_table.specs.History.{HasCol, Nonzero, Reaches}
use Rattle.pivot_table.proofs.Reaching.{reaches_support}
use Rattle.pivot_walks.proofs.Growing.{kept, came}
use Rattle.residue_words.proofs.Lists.{contains_at, place_in}
use Rattle.pivot_walks.proofs.Walking.{below_next, in_support, of_support}
use Rattle.pivot_walks.proofs.walk.begin_at.Goals as goal

pub loop-k-preserved : goal.loop-k-preserved
loop-k-preserved g c =
    let A = c.args.pivots.now.rows.matrix in
    let h = c.args.pivots.now.pairs in
    let r = c.args.row in
    let inv = c.loop-k.invariant in
    let cols = c.cols-cols.result.now in
    let cols_are : cols ≡ support (row A r) = c.cols-cols.ensures.support ∙ ap (λ (m : ResidueMatrix). support (row m.matrix r)) c.rows.ensures.value in
    let here : Nonzero A r (slice_index cols c.loop-k.k) =
    of_support c.rows.ensures.sound r c.requires.inside _ (subst (λ xs. Contains xs (slice_index cols c.loop-k.k)) cols_are (contains_at cols c.loop-k.k _ c.loop-k-test.true refl)) in (
      c.begin_one.ensures.width ∙ inv.0,
      (λ j m. ⊎_elim (inv.1 j) (λ t. subst (Reaches A h r) (sym t.0) (reaches_support A h r _ t.1 here)) (came j c.begin_one.ensures.grows m)),
      (let e = c.begin_one.ensures.steps in omega (arith, e, inv.2)),
      below_next (λ t. HasCol h (slice_index cols t) → Contains c.begin_one.new.marks.list (slice_index cols t)) c.loop-k.k
          (λ t l has. kept _ c.begin_one.ensures.grows (inv.3 t l has)) c.begin_one.ensures.has,
    )

pub returns-clause-begun : goal.returns-clause-begun
returns-clause-begun g c = λ j has n.
    let A = c.args.pivots.now.rows.matrix in
    let h = c.args.pivots.now.pairs in
    let r = c.args.row in
    let cols = c.cols-cols.result.now in
    let cols_are : cols ≡ support (row A r) = c.cols-cols.ensures.support ∙ ap (λ (m : ResidueMatrix). support (row m.matrix r)) c.rows.ensures.value in
    let t = place_in cols j (subst (λ xs. Contains xs j) (sym cols_are) (in_support c.rows.ensures.sound r c.requires.inside j n)) in
    subst (Contains c.loop-k.marks.list) t.2 (c.loop-k.invariant.3 t.0 (omega (arith, t.1)) (subst (HasCol h) (sym t.2) has))
