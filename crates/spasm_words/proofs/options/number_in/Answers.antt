-- A number that is too large for its type is out of range.
use Rattle.std.proofs.Common.{◌+◌, ◌-◌, ◌*◌, ◌<◌, get_or, arith}
use Rattle.spasm_words.proofs.SpelledNumbers.{too_large}
use Rattle.spasm_words.proofs.options.number_in.Goals as goal

pub returns-in_err-checked_mul : goal.returns-in_err-checked_mul
returns-in_err-checked_mul c =
    let none = c.from_residual.ensures in
    let large : c.args.high < 10 * c.loop-b.number + (get_or c.args.word.now c.loop-b.b-index 0 - 48) = omega (arith, c.in_err-checked_mul.ensures, c.ranges.high.fits) in
    rw none (too_large c.args.word.now c.loop-b.b-index c.loop-b.number c.args.low c.args.high c.loop-b.invariant c.loop-b-test.true large)

pub returns-in_err-number : goal.returns-in_err-number
returns-in_err-number c =
    let none = c.from_residual-in_err-number.ensures in
    let large : c.args.high < 10 * c.loop-b.number + (get_or c.args.word.now c.loop-b.b-index 0 - 48) = omega (arith, c.in_err-number.ensures, c.in_ok-checked_mul.ensures.1, c.ranges.high.fits) in
    rw none (too_large c.args.word.now c.loop-b.b-index c.loop-b.number c.args.low c.args.high c.loop-b.invariant c.loop-b-test.true large)
