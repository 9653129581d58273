use Rattle.std.proofs.Common.{w64, arith}
use Rattle.std.proofs.lemmas.Nat.Bits.{bit_at-trailing_zeros}
use Rattle.column_lists.proofs.column_set.lowest_bit.Goals as goal

pub returns : goal.returns
returns c =
    let low = bit_at-trailing_zeros w64 c.args.word (omega arith) c.ranges.word.fits in
    record { below = low.0; one = low.1; before = low.2 }
