use Rattle.std.proofs.Common.{◌≡◌, ◌<◌, ◌∙◌, length, slice_index, arith, subst}
use Rattle.std.proofs.lemmas.List.{get_or_default}
use Rattle.residue_words.specs.Matrix.{row}
use Rattle.weight_order.specs.Multiples.{IsMultiple}
use Rattle.weight_order.proofs.multiples.KeptRows.seat_for.Goals as goal

pub returns-then-is_multiple : goal.returns-then-is_multiple
returns-then-is_multiple c prime =
    let R = c.args.rows.now in
    let numbers = c.args.self.now.numbers.items in
    let place = c.index-seat.result.now.place in
    let l : place < length numbers = omega (arith, c.if-len-seat.false, c.len-in-loop-at.ensures) in
    let is : c.index.result.now ≡ slice_index numbers place = c.index.ensures ∙ get_or_default numbers place c.index.result.now 0 l in
    (place, l, subst (λ k. IsMultiple R.modulus R.matrix.width (row R.matrix c.args.i) (row R.matrix k)) is (c.is_multiple.ensures c.if-is_multiple.true prime))
