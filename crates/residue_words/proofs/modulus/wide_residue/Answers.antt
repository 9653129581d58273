use Rattle.std.proofs.Common.{◌+◌, ◌-◌, ◌*◌, ◌^◌, refl, arith, lit<, Fits, w64}
use Rattle.residue_words.proofs.Quotients.{wide_low, wide_near, rest_residue}
use Rattle.residue_words.proofs.modulus.wide_residue.Goals as goal

pub overflow_sub-rest : goal.overflow_sub-rest
overflow_sub-rest c =
    rw (c.from.ensures, c.from-2.ensures) (wide_low (2 ^ 64) (2 ^ 32) c.args.product c.args.p c.args.reciprocal_of_p _ _ (lit< tt) c.requires.quotient refl c.high_half-quotient.ensures)

pub overflow_cast-rest : goal.overflow_cast-rest
overflow_cast-rest c =
    let near = wide_near (2 ^ 64) (2 ^ 32) c.args.product c.args.p c.args.reciprocal_of_p _ _ (lit< tt) (lit< tt) c.requires.large c.requires.product_in_range c.requires.quotient refl c.high_half-quotient.ensures in
    let fits : Fits w64 (c.args.product - c.high_half-quotient.result * c.args.p) = record { fits = omega (arith, c.requires.in_range) } in
    rw (c.from.ensures, c.from-2.ensures) fits

pub returns-then-rest-p : goal.returns-then-rest-p
returns-then-rest-p c =
    let low = wide_low (2 ^ 64) (2 ^ 32) c.args.product c.args.p c.args.reciprocal_of_p _ _ (lit< tt) c.requires.quotient refl c.high_half-quotient.ensures in
    let less = rw (c.from.ensures, c.from-2.ensures) at c.if-rest-p.true in
    rw (c.from.ensures, c.from-2.ensures) (rest_residue c.args.p c.high_half-quotient.result c.args.product _ (omega arith) less)

pub returns-then-rest-p-2 : goal.returns-then-rest-p-2
returns-then-rest-p-2 c =
    let low = wide_low (2 ^ 64) (2 ^ 32) c.args.product c.args.p c.args.reciprocal_of_p _ _ (lit< tt) c.requires.quotient refl c.high_half-quotient.ensures in
    let more = rw (c.from.ensures, c.from-2.ensures) at c.if-rest-p.false in
    let less = rw (c.from.ensures, c.from-2.ensures) at c.if-rest-p-2.true in
    rw (c.from.ensures, c.from-2.ensures) (rest_residue c.args.p (c.high_half-quotient.result + 1) c.args.product _ (omega arith) less)

pub returns-else-rest-p-2 : goal.returns-else-rest-p-2
returns-else-rest-p-2 c =
    let low = wide_low (2 ^ 64) (2 ^ 32) c.args.product c.args.p c.args.reciprocal_of_p _ _ (lit< tt) c.requires.quotient refl c.high_half-quotient.ensures in
    let near = wide_near (2 ^ 64) (2 ^ 32) c.args.product c.args.p c.args.reciprocal_of_p _ _ (lit< tt) (lit< tt) c.requires.large c.requires.product_in_range c.requires.quotient refl c.high_half-quotient.ensures in
    let more = rw (c.from.ensures, c.from-2.ensures) at c.if-rest-p-2.false in
    rw (c.from.ensures, c.from-2.ensures) (rest_residue c.args.p (c.high_half-quotient.result + 2) c.args.product _ (omega arith) (omega arith))
