use Rattle.std.proofs.Common.{◌≡◌, ◌∙◌, ap, arith, length, sym}
use Rattle.residue_words.specs.Matrix.{entry}
use Rattle.residue_words.proofs.Vectors.{at_list_of, length_list_of, list_equal}
use Rattle.sparse_rows.proofs.Loops.{length_zeros, zero_at}
use Rattle.kernel_solve.proofs.columns.column_at.Goals as goal

pub loop-i-init : goal.loop-i-init
loop-i-init c =
    let long : length c.new-column.result.row ≡ c.args.rows.now.matrix.height = ap length c.new-column.ensures.row ∙ length_zeros _ ∙ c.height.ensures.value in
    record {
      modulus = c.new-column.ensures.modulus ∙ c.modulus.ensures.value;
      long = long;
      made = λ t l. absurd (omega arith);
      behind = λ t a b. zero_at c.new-column.result.row _ c.new-column.ensures.row t (omega arith);
    }

pub returns-clause-row : goal.returns-clause-row
returns-clause-row c =
    let A = c.args.rows.now.matrix in
    list_equal A.height _ _ c.loop-i.invariant.long (length_list_of A.height _) (λ t l.
    c.loop-i.invariant.made t (omega (arith, c.loop-i-test.false, c.height-i-end.ensures.value)) ∙ sym (at_list_of A.height (λ i. entry A i c.args.j) t l))
