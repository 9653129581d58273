use Rattle.sparse_rows.specs.Rows.{AreOccupied, selected}
use Rattle.residue_words.specs.declared.plain.Pair.{Pair}
use Rattle.residue_words.specs.Matrix.{Matrix}
use Rattle.std.proofs.lemmas.List.{length-map}
use Rattle.std.proofs.Common.{◌∙◌, IfOk, ap, arith, length, subst}
use Rattle.triangular_solve.proofs.column_marks.columns_of_copy.Goals as goal

pub select-requires-clause-many : goal.select-requires-clause-many
select-requires-clause-many c = omega (arith, ap length c.deref.ensures.value, ap length c.in_ok-row_numbers.ensures, length-map c.args.pairs.now (λ (p : Pair). p.row), c.requires.few)

pub returns : goal.returns
returns c = subst (λ (A : Matrix). IfOk c.occupied-2.result (λ columns. AreOccupied A columns.items)) (c.in_ok-select.ensures.matrix ∙ ap (selected c.args.rows.now.matrix) (c.deref.ensures.value ∙ c.in_ok-row_numbers.ensures)) c.occupied-2.ensures
