use Rattle.std.proofs.Common.{◌*◌, ap, arith, subst, sym}
use Rattle.sparse_rows.specs.Rows.{ResidueMatrix}
use Rattle.schur_rows.specs.Parts.{ArePartCuts}
use Rattle.schur_rows.proofs.workers.left_between.Goals as goal

pub left_of-requires-clause-deal : goal.left_of-requires-clause-deal
left_of-requires-clause-deal g c = record {
  numbers = c.requires.numbers;
  order = c.requires.order;
  inside = c.requires.inside;
  end = omega (arith, c.requires.inside, c.is_sound.ensures.height, ap (λ (r : ResidueMatrix). r.matrix.height) c.rows.ensures);
  several = omega (arith, c.requires.some, c.if-workers-eq1.false);
  some = omega (arith, c.requires.some);
  cuts = subst (ArePartCuts c.args.from c.args.to (8 * c.args.workers * c.stages.result)) (sym c.deref.ensures.value) c.in_ok-cuts.ensures;
}
