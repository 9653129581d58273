use Rattle.std.proofs.Common.{◌∙◌, arith, ap, length}
use Rattle.std.proofs.lemmas.List.{length-set}
use Rattle.sparse_rows.specs.Stored.{with_row}
use Rattle.sparse_rows.proofs.Loops.{length_zeros, zero_at}
use Rattle.schur_rows.proofs.Parting.{unit_pushed}
use Rattle.schur_rows.proofs.row_ranges.append_pivot.Goals as goal

pub push-requires-clause-column : goal.push-requires-clause-column
push-requires-clause-column c = omega (arith, ap length c.clear.ensures.row, length_zeros (length c.args.row.now.row), c.requires.width, c.requires.pivot)

pub push-requires-clause-behind : goal.push-requires-clause-behind
push-requires-clause-behind c = λ k a l. zero_at c.clear.new.self.row (length c.args.row.now.row) c.clear.ensures.row k l

pub append-requires-clause-width : goal.append-requires-clause-width
append-requires-clause-width c =
    ap length c.in_ok-push.ensures.ok ∙ length-set c.clear.new.self.row c.args.k 1 ∙ ap length c.clear.ensures.row ∙ length_zeros (length c.args.row.now.row) ∙ c.requires.width

pub returns-clause-row : goal.returns-clause-row
returns-clause-row c = (
  c.push.ensures.modulus ∙ c.clear.ensures.modulus,
  ap length c.in_ok-push.ensures.ok ∙ length-set c.clear.new.self.row c.args.k 1 ∙ ap length c.clear.ensures.row ∙ length_zeros (length c.args.row.now.row),
)

pub returns-clause-added : goal.returns-clause-added
returns-clause-added c = record {
  modulus = c.append_zeros.ensures.modulus;
  rows = c.in_ok-append_zeros.ensures.matrix;
  coefficient_modulus = c.append.ensures.modulus;
  coefficients = c.in_ok-append.ensures.matrix ∙ ap (with_row c.args.part.now.coefficients.matrix) (unit_pushed c.in_ok-push.ensures.ok c.clear.ensures.row c.requires.width c.requires.pivot);
}
