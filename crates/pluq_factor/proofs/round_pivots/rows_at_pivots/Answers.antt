use Rattle.std.proofs.Common.{refl, subst, sym}
use Rattle.sparse_rows.specs.Rows.{ResidueMatrix}
use Rattle.pivot_table.specs.Order.{Triangular}
use Rattle.pluq_factor.proofs.Taking.{rows_few, rows_inside}
use Rattle.pluq_factor.proofs.round_pivots.rows_at_pivots.Goals as goal

pub select-requires-clause-many : goal.select-requires-clause-many
select-requires-clause-many c =
    let order = subst (λ (R : ResidueMatrix). Triangular R.matrix c.args.triangle.now.pairs) (sym c.rows-rows.ensures) c.pairs.ensures.triangular in
    rows_few c.rows-rows.result.now order c.pairs.ensures.pairs c.deref.ensures.value c.in_ok-numbers.ensures refl c.is_sound.ensures.height

pub select-requires-clause-inside : goal.select-requires-clause-inside
select-requires-clause-inside c =
    let order = subst (λ (R : ResidueMatrix). Triangular R.matrix c.args.triangle.now.pairs) (sym c.rows-rows.ensures) c.pairs.ensures.triangular in
    rows_inside c.rows-rows.result.now order c.pairs.ensures.pairs c.deref.ensures.value c.in_ok-numbers.ensures
