-- The example of factors worked.
use Rattle.std.proofs.Common.{ℕ, zero, suc, ◌<◌, arith, refl}
use Rattle.residue_words.specs.Matrix.{IsVector, row}
use Rattle.row_space.specs.Example.{example, example_left, example_pivots, example_rref}
use Rattle.row_space.specs.Factors.{AreFactors}
use Rattle.row_space.proofs.Example as example_of
use Rattle.schur_rows.proofs.FactorRows.{fit_few}
use Rattle.pluq_factor.specs.Example.{AreWorkedFactors, zero_factors}

factors : AreFactors 7 example example_pivots example_left example_rref
factors = example_of.worked.rank_certificate.factors

-- a row without an entry
empty : (i : ℕ) → i < 2 → IsVector 7 0 (row zero_factors.l.matrix i)
empty zero l = record { len = refl; residues = λ j l. absurd (omega arith) }
empty (suc zero) l = record { len = refl; residues = λ j l. absurd (omega arith) }
empty (suc (suc i)) l = absurd (omega arith)

pub worked : AreWorkedFactors
worked = record {
  factors = record {
    left_modulus = refl;
    right_modulus = refl;
    sizes = record {
      left = factors.fit.left;
      right = factors.fit.right;
      left_height = refl;
      left_width = refl;
      right_height = refl;
      right_width = refl;
      rows_below = factors.fit.rows_below;
      columns_below = factors.fit.columns_below;
      few = fit_few factors.fit;
    };
    factors = λ prime. factors;
  };
  one_space = example_of.worked.rref.span;
  none = record {
    pivots = refl;
    left_modulus = refl;
    right_modulus = refl;
    left = record { len = refl; each = empty };
    right = record { len = refl; each = λ i l. absurd (omega arith) };
    left_height = refl;
    left_width = refl;
    right_height = refl;
    right_width = refl;
  };
}
