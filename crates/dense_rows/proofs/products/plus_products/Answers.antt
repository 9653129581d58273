use Rattle.std.proofs.Common.{◌+◌, ◌*◌, ◌%◌, ◌∙◌, ap, refl, slice_index}
use Rattle.std.specs.Simd.Lanes.{zip2}
use Rattle.dense_rows.proofs.Vectors.{lane_of_products}
use Rattle.dense_rows.proofs.products.plus_products.Goals as goal

pub returns : goal.returns
returns c = λ k l.
    ap (λ v. slice_index (zip2 (λ a b. (a + b) % 18446744073709551616) c.args.sums (zip2 (λ a b. a * b % 18446744073709551616) c.args.y v)) k) c.wide_splat.ensures
    ∙ lane_of_products 8 c.args.c c.args.c c.args.sums c.args.y k c.fits-sums.0 c.fits-y.0 l refl (c.requires k l)
