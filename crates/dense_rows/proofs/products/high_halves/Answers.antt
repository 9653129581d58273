use Rattle.std.proofs.Common.{ℕ, w64, Fits, arith, ◌∙◌}
use Rattle.std.proofs.lemmas.List.{get_or-map}
use Rattle.std.proofs.lemmas.Simd.{Each1-get_or}
use Rattle.dense_rows.proofs.Vectors.{highs, highs_fit, lane_of_highs, length_highs}
use Rattle.dense_rows.proofs.products.high_halves.Goals as goal

pub overflow_cast-result : goal.overflow_cast-result
overflow_cast-result c = highs_fit 8 c.args.x c.fits-x.0 (λ k l. (Each1-get_or (Fits w64) c.args.x k 0 (omega (arith, c.fits-x.0)) c.fits-x.1).fits)

pub returns : goal.returns
returns c = λ k l.
    get_or-map (λ (x : ℕ). x) (highs 8 c.args.x) k 0 0 (omega (arith, length_highs 8 c.args.x c.fits-x.0)) ∙ lane_of_highs 8 c.args.x k c.fits-x.0 l
