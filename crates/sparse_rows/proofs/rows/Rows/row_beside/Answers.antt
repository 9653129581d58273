use Rattle.std.proofs.Common.{◌≡◌, ◌+◌, ◌∙◌, ap, arith, length, slice_index, sym}
use Rattle.residue_words.specs.Matrix.{row}
use Rattle.sparse_rows.proofs.Loops.{beside_row, length_zeros, zero_at}
use Rattle.sparse_rows.proofs.rows.Rows.row_beside.Goals as goal

pub copy_shifted-requires-clause-width : goal.copy_shifted-requires-clause-width
copy_shifted-requires-clause-width c = omega (arith, ap length c.clear.ensures.row, length_zeros (length c.args.to.now.row), c.requires.length)

pub copy_shifted-requires-clause-behind : goal.copy_shifted-requires-clause-behind
copy_shifted-requires-clause-behind c = λ k a b. zero_at c.clear.new.self.row _ c.clear.ensures.row k b

pub returns-in_err-copy_shifted-clause-length : goal.returns-in_err-copy_shifted-clause-length
returns-in_err-copy_shifted-clause-length c = c.copy_shifted.ensures.length ∙ ap length c.clear.ensures.row ∙ length_zeros _

pub copy_shifted-requires-2-clause-width : goal.copy_shifted-requires-2-clause-width
copy_shifted-requires-2-clause-width c =
    omega (arith, c.copy_shifted.ensures.length, ap length c.clear.ensures.row, length_zeros (length c.args.to.now.row), c.width.ensures.value, c.requires.length)

pub returns-in_err-copy_shifted-2-clause-length : goal.returns-in_err-copy_shifted-2-clause-length
returns-in_err-copy_shifted-2-clause-length c = c.copy_shifted-2.ensures.length ∙ c.copy_shifted.ensures.length ∙ ap length c.clear.ensures.row ∙ length_zeros _

pub returns-clause-length : goal.returns-clause-length
returns-clause-length c = c.copy_shifted-2.ensures.length ∙ c.copy_shifted.ensures.length ∙ ap length c.clear.ensures.row ∙ length_zeros _

pub returns-clause-row : goal.returns-clause-row
returns-clause-row c =
    let A = c.args.self.now in
    let B = c.args.right.now in
    beside_row (row A.matrix c.args.i) (row B.matrix c.args.i) c.copy_shifted.new.to.row c.copy_shifted-2.new.to.row A.matrix.width B.matrix.width
    (c.is_sound.ensures.entries.each c.args.i c.requires.row).len (c.is_sound-2.ensures.entries.each c.args.i (omega (arith, c.requires.row, c.requires.heights))).len
    (c.copy_shifted-2.ensures.length ∙ c.copy_shifted.ensures.length ∙ ap length c.clear.ensures.row ∙ length_zeros _ ∙ c.requires.length)
    (λ j l. ap (slice_index c.copy_shifted.new.to.row) (let e : j ≡ 0 + j = omega arith in e) ∙ c.in_ok-copy_shifted.ensures.inside j l)
    (λ j l. c.in_ok-copy_shifted-2.ensures.before j (omega (arith, c.width.ensures.value)))
    (λ j l. ap (λ w. slice_index c.copy_shifted-2.new.to.row (w + j)) (sym c.width.ensures.value) ∙ c.in_ok-copy_shifted-2.ensures.inside j l)
