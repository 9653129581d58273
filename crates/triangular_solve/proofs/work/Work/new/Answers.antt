use Rattle.std.proofs.Common.{◌∙◌, ap, length, arith}
use Rattle.sparse_rows.specs.Rows.{ResidueMatrix}
use Rattle.sparse_rows.proofs.Loops.{length_zeros}
use Rattle.triangular_solve.proofs.PivotReduction.{room_new, same_workspace}
use Rattle.triangular_solve.proofs.work.Work.new.Goals as goal

pub invariant_of-result : goal.invariant_of-result
invariant_of-result c = room_new (length c.columns.result.now) (omega (arith, c.columns.ensures.few, ap length c.columns.ensures.columns)) c.in_ok-new.ensures c.new-2.ensures.modulus _ c.new-2.ensures.row

pub returns : goal.returns
returns c = same_workspace
    (c.new-2.ensures.modulus ∙ c.modulus-modulus.ensures.value ∙ ap (λ (m : ResidueMatrix). m.modulus) c.rows-rows.ensures)
    (ap length c.pairs.ensures.pairs)
    (ap length c.new-2.ensures.row ∙ length_zeros _ ∙ c.width-width.ensures.value ∙ ap (λ (m : ResidueMatrix). m.matrix.width) c.rows-rows.ensures)
