use Rattle.std.proofs.Common.{◌≡◌, ◌∙◌, ap, subst, sym, length, arith}
use Rattle.std.specs.List.{Contains}
use Rattle.residue_words.specs.Matrix.{row}
use Rattle.sparse_rows.specs.Rows.{ResidueMatrix, support}
use Rattle.pivot_table.specs.History.{Nonzero}
use Rattle.pivot_walks.proofs.Costing.{weight_in}
use Rattle.pivot_walks.proofs.Growing.{grows_weaker}
use Rattle.pivot_walks.proofs.Walking.{in_support, of_support}
use Rattle.pivot_walks.proofs.walk.take_up.Goals as goal

pub returns-in-Some-clause-grows : goal.returns-in-Some-clause-grows
returns-in-Some-clause-grows g c =
    let A = c.args.pivots.now.rows.matrix in
    let s = c.in-Some.row in
    let cols_are : c.cols.result.now ≡ support (row A s) = c.cols.ensures.support ∙ ap (λ (m : ResidueMatrix). support (row m.matrix s)) c.rows.ensures.value in
    grows_weaker c.add_all.ensures.grows (λ d m. (s, c.in-Some.ensures.0, of_support c.rows.ensures.sound s c.in-Some.ensures.1 d (subst (λ xs. Contains xs d) cols_are m)))

pub returns-in-Some-clause-all : goal.returns-in-Some-clause-all
returns-in-Some-clause-all g c = λ t d here n.
    let A = c.args.pivots.now.rows.matrix in
    let s = c.in-Some.row in
    let cols_are : c.cols.result.now ≡ support (row A s) = c.cols.ensures.support ∙ ap (λ (m : ResidueMatrix). support (row m.matrix s)) c.rows.ensures.value in
    c.add_all.ensures.all d (subst (λ xs. Contains xs d) (sym cols_are)
    (in_support c.rows.ensures.sound s c.in-Some.ensures.1 d (subst (λ x. Nonzero A x d) (c.in-Some.ensures.2 t here) n)))

pub returns-in-Some-clause-cost : goal.returns-in-Some-clause-cost
returns-in-Some-clause-cost g c =
    let A = c.args.pivots.now.rows.matrix in
    let s = c.in-Some.row in
    let cols_are : c.cols.result.now ≡ support (row A s) = c.cols.ensures.support ∙ ap (λ (m : ResidueMatrix). support (row m.matrix s)) c.rows.ensures.value in
    let e = c.add_all.ensures.steps in
    omega (arith, e, ap length cols_are, weight_in A c.args.pivots.now.pairs s c.args.c c.in-Some.ensures.0)
