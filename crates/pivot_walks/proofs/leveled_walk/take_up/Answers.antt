use Rattle.std.proofs.Common.{◌≡◌, ◌∙◌, ap, subst, sym}
use Rattle.std.specs.List.{Contains}
use Rattle.residue_words.specs.Matrix.{row}
use Rattle.sparse_rows.specs.Rows.{ResidueMatrix, support}
use Rattle.pivot_table.specs.History.{Nonzero}
use Rattle.pivot_walks.proofs.Growing.{grows_weaker}
use Rattle.pivot_walks.proofs.Walking.{in_support, of_support}
use Rattle.pivot_walks.proofs.leveled_walk.take_up.Goals as goal

pub returns-in-Some-clause-grows : goal.returns-in-Some-clause-grows
returns-in-Some-clause-grows c =
    let A = c.args.pivots.now.rows.matrix in
    let s = c.in-Some.row in
    let cols_are : c.cols-cols.result.now ≡ support (row A s) = c.cols-cols.ensures.support ∙ ap (λ (m : ResidueMatrix). support (row m.matrix s)) c.rows.ensures.value in
    grows_weaker c.add_all_low.ensures.grows (λ d m. (s, c.in-Some.ensures.0, of_support c.rows.ensures.sound s c.in-Some.ensures.1 d (subst (λ xs. Contains xs d) cols_are m)))

pub returns-in-Some-clause-all : goal.returns-in-Some-clause-all
returns-in-Some-clause-all c = λ t d here n low.
    let A = c.args.pivots.now.rows.matrix in
    let s = c.in-Some.row in
    let cols_are : c.cols-cols.result.now ≡ support (row A s) = c.cols-cols.ensures.support ∙ ap (λ (m : ResidueMatrix). support (row m.matrix s)) c.rows.ensures.value in
    c.add_all_low.ensures.all d (subst (λ xs. Contains xs d) (sym cols_are)
    (in_support c.rows.ensures.sound s c.in-Some.ensures.1 d (subst (λ x. Nonzero A x d) (c.in-Some.ensures.2 t here) n))) low
