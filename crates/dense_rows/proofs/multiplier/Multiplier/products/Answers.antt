use Rattle.std.proofs.Common.{◌∙◌, arith}
use Rattle.dense_rows.proofs.Vectors.{lane_of_differences}
use Rattle.dense_rows.proofs.multiplier.Multiplier.products.Goals as goal

pub residues-requires-clause-lanes : goal.residues-requires-clause-lanes
residues-requires-clause-lanes c = λ k l.
    (lane_of_differences 8 c.args.self.now.p c.args.self.now.factor c.args.self.now.quotient c.args.y c.high_halves-estimates.result k
    c.fits-y.0 c.fits-y.1 (omega arith) c.args.self.now.residue c.args.self.now.in_range c.args.self.now.quotient_of c.high_halves-estimates.ensures l).near

pub returns : goal.returns
returns c = λ k l.
    c.residues.ensures k l
    ∙ (lane_of_differences 8 c.args.self.now.p c.args.self.now.factor c.args.self.now.quotient c.args.y c.high_halves-estimates.result k
    c.fits-y.0 c.fits-y.1 (omega arith) c.args.self.now.residue c.args.self.now.in_range c.args.self.now.quotient_of c.high_halves-estimates.ensures l).same
