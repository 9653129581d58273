-- The example of replies worked.
use Rattle.std.proofs.Common.{refl}
use Rattle.row_space.proofs.Example as example_of
use Rattle.kernel_solve.specs.Example.{AreWorkedReplies}

pub worked : AreWorkedReplies
worked = record {
  column = refl;
  solved = (refl, example_of.worked.solution);
  refuted = (refl, example_of.worked.refutation);
  together = record {
    right_modulus = refl;
    null_modulus = refl;
    relations_modulus = refl;
    left_width = refl;
    right_height = refl;
    null_width = refl;
    relations_width = refl;
    rows_below = example_of.worked.rank_certificate.factors.fit.rows_below;
    columns_below = example_of.worked.rank_certificate.factors.fit.columns_below;
  };
}
