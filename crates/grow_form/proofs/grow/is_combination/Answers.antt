use Rattle.std.proofs.Common.{◌≡◌, ◌∙◌, length, ap, arith, subst, sym}
use Rattle.std.proofs.lemmas.Bool.Decides.{nat_tests}
use Rattle.sparse_rows.specs.Rows.{support}
use Rattle.grow_form.specs.Numbering.{IsRowByNumbers}
use Rattle.grow_form.proofs.Growing.{no_support, row_found, row_sparse}
use Rattle.grow_form.proofs.Numbers.{behind_itself}
use Rattle.grow_form.proofs.grow.is_combination.Goals as goal

pub row_by_numbers-requires-clause-sparse : goal.row_by_numbers-requires-clause-sparse
row_by_numbers-requires-clause-sparse c = rw c.modulus-p.ensures c.requires.sparse

pub rest_with-requires-clause-sparse : goal.rest_with-requires-clause-sparse
rest_with-requires-clause-sparse c =
    let N = c.args.numbering.now in
    let is : IsRowByNumbers N c.args.kept.now.modulus c.args.cols.now c.args.vals.now c.in_ok-row.row =
    subst (λ p. IsRowByNumbers N p c.args.cols.now c.args.vals.now c.in_ok-row.row) c.modulus-p.ensures c.in_ok-row.ensures in
    row_sparse c.is_sound.ensures.rows c.requires.by_numbers c.is_sound-2.ensures (behind_itself N) is c.is_sound-3.ensures.entries c.cols.ensures.support c.vals.ensures.values

pub returns-clause-found : goal.returns-clause-found
returns-clause-found c =
    let N = c.args.numbering.now in
    let is : IsRowByNumbers N c.args.kept.now.modulus c.args.cols.now c.args.vals.now c.in_ok-row.row =
    subst (λ p. IsRowByNumbers N p c.args.cols.now c.args.vals.now c.in_ok-row.row) c.modulus-p.ensures c.in_ok-row.ensures in
    let found = row_found c.is_sound.ensures.rows c.requires.by_numbers c.is_sound-2.ensures (behind_itself N) is c.is_sound-3.ensures.entries c.cols.ensures.support c.vals.ensures.values in
    let none = no_support c.args.kept.now.matrix.width c.in_ok-rest.rest.row c.in_ok-rest.ensures.rest.vector.len in
    let zero = c.in_ok-rest.ensures.rest.zero in
    let long : length c.cols-2.result.now ≡ length (support c.in_ok-rest.rest.row) = ap length c.cols-2.ensures.support in (
      λ e. let empty : length c.cols-2.result.now ≡ 0 = grind (arith, nat_tests) in found.0 (zero.0 (none.0 (sym long ∙ empty))),
      λ v. let empty : length c.cols-2.result.now ≡ 0 = long ∙ none.1 (zero.1 (found.1 v)) in grind (arith, nat_tests),
    )
