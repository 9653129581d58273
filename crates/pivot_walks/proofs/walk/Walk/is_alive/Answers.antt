use Rattle.std.proofs.Common.{ℕ, ◌≡◌, ◌↔◌, IsTrue, not, Some, subst, ap, ◌∙◌}
use Rattle.std.specs.List.{Contains}
use Rattle.residue_words.specs.Matrix.{row}
use Rattle.sparse_rows.specs.Rows.{ResidueMatrix, support}
use Rattle.pivot_table.specs.History.{Alive}
use Rattle.pivot_walks.specs.Walked.{Walked}
use Rattle.pivot_walks.proofs.Walking.{told_in, told_out, settled_of, some_one}
use Rattle.pivot_walks.proofs.walk.Walk.is_alive.Goals as goal

pub returns-then-is_in : goal.returns-then-is_in
returns-then-is_in g c =
    let w = c.self.inside in
    let A = w.pivots.rows.matrix in
    let r = c.in-Some.row in
    let j = c.args.col in
    let cols_are = c.cols.ensures.support ∙ ap (λ (m : ResidueMatrix). support (row m.matrix r)) c.rows.ensures.value in
    let s = settled_of w.pivots c.self.invariant.1 r c.in-Some.is in
    let told : IsTrue (not c.has.result) ↔ Alive A w.pivots.pairs r j = told_in c.rows.ensures.sound s j c.has.result c.has.ensures (subst (λ xs. Contains xs j) cols_are (c.is_in.ensures.0 c.if-is_in.true)) in
    subst (λ (v : Walked). (t : ℕ) → v.current ≡ Some t → IsTrue (not c.has.result) ↔ Alive v.rows.matrix v.pairs t j) c.self.view_is
    (λ t e. subst (λ x. IsTrue (not c.has.result) ↔ Alive A w.pivots.pairs x j) (some_one r t c.in-Some.is e) told)

pub returns-else-is_in : goal.returns-else-is_in
returns-else-is_in g c =
    let w = c.self.inside in
    let A = w.pivots.rows.matrix in
    let r = c.in-Some.row in
    let j = c.args.col in
    let cols_are = c.cols.ensures.support ∙ ap (λ (m : ResidueMatrix). support (row m.matrix r)) c.rows.ensures.value in
    let s = settled_of w.pivots c.self.invariant.1 r c.in-Some.is in
    let told : IsTrue c.is_in.result ↔ Alive A w.pivots.pairs r j = told_out c.rows.ensures.sound s j c.is_in.result c.if-is_in.false (subst (λ xs. IsTrue c.is_in.result ↔ Contains xs j) cols_are c.is_in.ensures) in
    subst (λ (v : Walked). (t : ℕ) → v.current ≡ Some t → IsTrue c.is_in.result ↔ Alive v.rows.matrix v.pairs t j) c.self.view_is
    (λ t e. subst (λ x. IsTrue c.is_in.result ↔ Alive A w.pivots.pairs x j) (some_one r t c.in-Some.is e) told)
