use Rattle.std.proofs.Common.{ℕ, arith, ◌∙◌}
use Rattle.std.proofs.lemmas.List.{get_or-map}
use Rattle.dense_rows.proofs.Vectors.{highs, highs_fit, lane_of_lows, lane_of_raised, length_highs, length_raised, raised}
use Rattle.dense_rows.proofs.products.low_halves.Goals as goal

pub overflow_cast-result : goal.overflow_cast-result
overflow_cast-result c = highs_fit 8 (raised 8 c.args.x) (length_raised 8 c.args.x c.fits-x.0) (λ k l. omega (arith, lane_of_raised 8 c.args.x k c.fits-x.0 l))

pub returns : goal.returns
returns c = λ k l.
    get_or-map (λ (x : ℕ). x) (highs 8 (raised 8 c.args.x)) k 0 0 (omega (arith, length_highs 8 (raised 8 c.args.x) (length_raised 8 c.args.x c.fits-x.0)))
    ∙ lane_of_lows 8 c.args.x k c.fits-x.0 l
