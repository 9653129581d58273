use Rattle.std.proofs.Common.{ℕ, ◌≡◌, ◌<◌, ◌≤◌, length, slice_index, Some, subst, sym, ap, ◌∙◌, arith}
use Rattle.residue_words.specs.Matrix.{row}
use Rattle.sparse_rows.specs.Rows.{ResidueMatrix, support}
use Rattle.pivot_table.specs.History.{Dead, LeastAlive}
use Rattle.pivot_walks.specs.Walked.{Walked}
use Rattle.pivot_walks.proofs.Walking.{least_passed, dead_passed, settled_of, some_one}
use Rattle.pivot_walks.proofs.walk.Walk.least_alive.Goals as goal

pub returns-then-self-cols : goal.returns-then-self-cols
returns-then-self-cols g c =
    let w = c.self.inside in
    let A = w.pivots.rows.matrix in
    let r = c.in_ok-row.row in
    let cols = c.cols-cols.result.now in
    let cols_are : cols ≡ support (row A r) = c.cols-cols.ensures.support ∙ ap (λ (m : ResidueMatrix). support (row m.matrix r)) c.rows.ensures.value in
    let s = settled_of w.pivots c.self.invariant.1 r c.in_ok-row.was in
    let least : LeastAlive A w.pivots.pairs r (slice_index cols w.passed) =
    subst (λ xs. LeastAlive A w.pivots.pairs r (slice_index xs w.passed)) (sym cols_are) (least_passed c.rows.ensures.sound s (subst (λ xs. w.passed < length xs) cols_are (omega arith))) in
    subst (λ (v : Walked). (t : ℕ) → v.current ≡ Some t → LeastAlive v.rows.matrix v.pairs t (slice_index cols w.passed)) c.self.view_is
    (λ t e. let same = some_one r t c.in_ok-row.was e in subst (λ x. LeastAlive A w.pivots.pairs x (slice_index cols w.passed)) same least)

pub returns-else-self-cols : goal.returns-else-self-cols
returns-else-self-cols g c =
    let w = c.self.inside in
    let A = w.pivots.rows.matrix in
    let r = c.in_ok-row.row in
    let cols = c.cols-cols.result.now in
    let cols_are : cols ≡ support (row A r) = c.cols-cols.ensures.support ∙ ap (λ (m : ResidueMatrix). support (row m.matrix r)) c.rows.ensures.value in
    let s = settled_of w.pivots c.self.invariant.1 r c.in_ok-row.was in
    let dead : Dead A w.pivots.pairs r = dead_passed c.rows.ensures.sound s (subst (λ xs. length xs ≤ w.passed) cols_are (omega arith)) in
    subst (λ (v : Walked). (t : ℕ) → v.current ≡ Some t → Dead v.rows.matrix v.pairs t) c.self.view_is
    (λ t e. let same = some_one r t c.in_ok-row.was e in subst (Dead A w.pivots.pairs) same dead)
