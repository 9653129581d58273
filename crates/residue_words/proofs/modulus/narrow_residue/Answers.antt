use Rattle.std.proofs.Common.{◌+◌, ◌^◌, arith, lit<}
use Rattle.residue_words.proofs.Quotients.{narrow_low, narrow_near, rest_residue}
use Rattle.residue_words.proofs.modulus.narrow_residue.Goals as goal

pub overflow_sub-rest : goal.overflow_sub-rest
overflow_sub-rest c = narrow_low (2 ^ 64) c.args.product c.args.p c.args.reciprocal_of_p c.high_half-quotient.result (lit< tt) c.requires.quotient c.high_half-quotient.ensures

pub returns-then-rest-p : goal.returns-then-rest-p
returns-then-rest-p c =
    let low = narrow_low (2 ^ 64) c.args.product c.args.p c.args.reciprocal_of_p c.high_half-quotient.result (lit< tt) c.requires.quotient c.high_half-quotient.ensures in
    rest_residue c.args.p c.high_half-quotient.result c.args.product _ (omega arith) c.if-rest-p.true

pub returns-else-rest-p : goal.returns-else-rest-p
returns-else-rest-p c =
    let low = narrow_low (2 ^ 64) c.args.product c.args.p c.args.reciprocal_of_p c.high_half-quotient.result (lit< tt) c.requires.quotient c.high_half-quotient.ensures in
    let near = narrow_near (2 ^ 64) c.args.product c.args.p c.args.reciprocal_of_p c.high_half-quotient.result (lit< tt) c.requires.nonzero c.ranges.product.fits c.requires.quotient c.high_half-quotient.ensures in
    rest_residue c.args.p (c.high_half-quotient.result + 1) c.args.product _ (omega arith) (omega arith)
