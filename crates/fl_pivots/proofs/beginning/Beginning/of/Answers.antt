use Rattle.std.proofs.Common.{length, slice_index, subst, sym, ap, refl, arith}
use Rattle.pivot_table.specs.Leftmost.{BeginsAt}
use Rattle.fl_pivots.proofs.Listing.{begins, weight_small}
use Rattle.fl_pivots.proofs.beginning.Beginning.of.Goals as goal

pub bounds-cols-0 : goal.bounds-cols-0
bounds-cols-0 c = omega (arith, c.requires.filled, ap length c.cols-cols.ensures.support)

pub overflow_cast-result : goal.overflow_cast-result
overflow_cast-result c = record { fits = omega (arith, ap length c.cols-cols.ensures.support, weight_small c.is_sound.ensures.entries c.args.i c.requires.row, c.is_sound.ensures.width) }

pub returns : goal.returns
returns c = record {
  row = refl;
  begins = subst (λ xs. BeginsAt c.args.rows.now.matrix c.args.i (slice_index xs 0)) (sym c.cols-cols.ensures.support) (begins c.is_sound.ensures.entries c.args.i c.requires.row c.requires.filled);
  weight = ap length c.cols-cols.ensures.support;
}
