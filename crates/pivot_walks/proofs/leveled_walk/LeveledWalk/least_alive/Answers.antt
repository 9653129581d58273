use Rattle.std.proofs.Common.{◌≡◌, ◌<◌, length, slice_index, subst, sym, ap, ◌∙◌, arith}
use Rattle.residue_words.specs.Matrix.{row}
use Rattle.sparse_rows.specs.Rows.{ResidueMatrix, support}
use Rattle.pivot_table.specs.History.{Dead, LeastAlive}
use Rattle.pivot_walks.specs.Levels.{Leveled}
use Rattle.pivot_walks.proofs.Leveling.{first_least, first_none}
use Rattle.pivot_walks.proofs.leveled_walk.LeveledWalk.least_alive.Goals as goal

pub returns-then-at-cols-clause-none : goal.returns-then-at-cols-clause-none
returns-then-at-cols-clause-none c = λ left.
    let w = c.self.inside.pivots in
    let A = w.rows.matrix in
    let r = c.args.row in
    let cols_are : c.cols-cols.result.now ≡ support (row A r) = c.cols-cols.ensures.support ∙ ap (λ (m : ResidueMatrix). support (row m.matrix r)) c.rows.ensures.value in
    let l : r < A.height = subst (λ (v : Leveled). r < v.rows.matrix.height) (sym c.self.view_is) c.requires.inside in
    subst (λ (v : Leveled). Dead v.rows.matrix v.pairs r) c.self.view_is
    (first_none c.rows.ensures.sound l c.first_alive-at.result c.first_alive-at.ensures.before (omega (arith, ap length cols_are, c.if-at-cols.true)))

pub returns-clause-some : goal.returns-clause-some
returns-clause-some c =
    let w = c.self.inside.pivots in
    let A = w.rows.matrix in
    let r = c.args.row in
    let cols = c.cols-cols.result.now in
    let at = c.first_alive-at.result in
    let cols_are : cols ≡ support (row A r) = c.cols-cols.ensures.support ∙ ap (λ (m : ResidueMatrix). support (row m.matrix r)) c.rows.ensures.value in
    let l : r < A.height = subst (λ (v : Leveled). r < v.rows.matrix.height) (sym c.self.view_is) c.requires.inside in
    let inside : at < length (support (row A r)) = omega (arith, ap length cols_are, c.if-at-cols.false) in
    subst (λ (v : Leveled). LeastAlive v.rows.matrix v.pairs r (slice_index cols at)) c.self.view_is
    (subst (λ xs. LeastAlive A w.pairs r (slice_index xs at)) (sym cols_are)
    (first_least c.rows.ensures.sound l at c.first_alive-at.ensures.before (c.first_alive-at.ensures.there (c.is_spent.ensures.no c.if-is_spent.false) inside) inside))
