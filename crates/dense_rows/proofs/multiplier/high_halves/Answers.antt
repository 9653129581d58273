use Rattle.std.proofs.Common.{ℕ, get_or, ap, ◌∙◌, ◌*◌, ◌/◌, arith}
use Rattle.std.proofs.lemmas.List.{get_or-map}
use Rattle.dense_rows.proofs.Vectors.{lane_of_shifted, length_shifted, shifted_fit, shifted_products}
use Rattle.dense_rows.proofs.multiplier.high_halves.Goals as goal

pub overflow_cast-result-2 : goal.overflow_cast-result-2
overflow_cast-result-2 c = shifted_fit 8 c.from.result c.args.y c.fits-y.0 c.fits-y.1 (omega arith)

pub returns : goal.returns
returns c = λ k l.
    get_or-map (λ (x : ℕ). x) (shifted_products 8 c.from.result c.args.y) k 0 0 (omega (arith, length_shifted 8 c.from.result c.args.y c.fits-y.0))
    ∙ lane_of_shifted 8 c.from.result c.args.y k c.fits-y.0 c.fits-y.1 (omega arith) l
    ∙ ap (λ t. t * get_or c.args.y k 0 / 4294967296) c.from.ensures
