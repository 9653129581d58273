use Rattle.std.proofs.Common.{◌∙◌, ◌+◌, ◌*◌, ◌%◌, ◌/◌, ◌≡◌, slice_index}
use Rattle.dense_rows.proofs.ProductSums.{folded}
use Rattle.dense_rows.proofs.products.Folding.plus.Goals as goal

pub returns : goal.returns
returns c = λ k l.
    let f = c.args.self.now in
    let x = slice_index c.args.x k in
    let s = slice_index c.args.sums k in
    let y = slice_index c.sums-low.result k in
    let low : y ≡ (x + 1 * (s % 4294967296)) % f.p = c.sums-low.ensures k l ∙ (λ i. (x + f.one_factor i * c.low_halves.ensures k l i) % f.one_modulus i) in
    let high : slice_index c.sums.result k ≡ (y + 4294967296 % f.p * (s / 4294967296)) % f.p =
    c.sums.ensures k l ∙ (λ i. (y + f.above_factor i * c.high_halves.ensures k l i) % f.above_modulus i) in
    folded f.p x s y (slice_index c.sums.result k) low high
