use Rattle.std.proofs.Common.{sym, ap, subst, arith}
use Rattle.residue_words.specs.Matrix.{Matrix}
use Rattle.sparse_rows.specs.Rows.{AreBelow}
use Rattle.triangular_solve.specs.PivotRows.{AreUpper}
use Rattle.triangular_solve.proofs.PlacingRows.{occupied_pivotal, rows_on_upper, rows_placed, triangular_distinct, triangular_short}
use Rattle.triangular_solve.proofs.pivot_rows.PivotRows.of.Goals as goal

pub occupied_columns-requires-clause-few : goal.occupied_columns-requires-clause-few
occupied_columns-requires-clause-few c = omega (arith, triangular_short c.requires, c.width-width.ensures.value, c.width-width.ensures.bound)

pub of-requires-clause-pivotal : goal.of-requires-clause-pivotal
of-requires-clause-pivotal c = occupied_pivotal c.requires c.in_ok-columns.ensures

pub of-requires-clause-distinct : goal.of-requires-clause-distinct
of-requires-clause-distinct c = triangular_distinct c.requires

pub place_rows-requires-clause-few : goal.place_rows-requires-clause-few
place_rows-requires-clause-few c = omega (arith, triangular_short c.requires, c.width-width.ensures.value, c.width-width.ensures.bound)

pub invert_pivots-requires : goal.invert_pivots-requires
invert_pivots-requires c = subst AreUpper (sym c.in_ok-placed.ensures.matrix) (rows_on_upper c.requires c.in_ok-order.ensures.first)

pub invariant_of-result : goal.invariant_of-result
invariant_of-result c = (
  record {
    upper = subst AreUpper (sym c.in_ok-placed.ensures.matrix) (rows_on_upper c.requires c.in_ok-order.ensures.first);
    width = ap (λ (M : Matrix). M.width) c.in_ok-placed.ensures.matrix;
    distinct = c.in_ok-order.ensures.first.distinct;
    ascending = λ k t le a l. c.in_ok-order.ensures.first.ascending k t (omega (arith, ap (λ (M : Matrix). M.height) c.in_ok-placed.ensures.matrix)) a l;
  },
  c.in_ok-invert_pivots.ensures,
)

pub returns : goal.returns
returns c = rows_placed c.requires c.in_ok-placed.ensures.modulus c.in_ok-placed.ensures.matrix c.in_ok-order.ensures.first (subst (λ n. AreBelow n c.in_ok-order.order) c.width-width.ensures.value c.in_ok-order.ensures.below) c.in_ok-columns.ensures c.in_ok-order.ensures.all
