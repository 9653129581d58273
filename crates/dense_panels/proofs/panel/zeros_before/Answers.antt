use Rattle.std.proofs.Common.{ℕ, ◌≡◌, ◌<◌, ◌∙◌, ap, arith, below_more, length, slice_index, sym}
use Rattle.dense_rows.specs.Rows.{entry_of}
use Rattle.dense_rows.proofs.BlockRows.{read_row}
use Rattle.dense_panels.proofs.panel.zeros_before.Goals as goal

pub loop-k-init : goal.loop-k-init
loop-k-init g c = record { within = omega arith; zeros = λ k j l lj. absurd (omega arith) }

pub leading_zeros-before-requires-clause-inside : goal.leading_zeros-before-requires-clause-inside
leading_zeros-before-requires-clause-inside g c κs within =
    let k = c.loop-k.k in
    omega (arith, c.loop-k.invariant.within, c.requires.wide k (omega arith), ap length (c.index-rows-k.is ∙ read_row c.args.rows.now k c.index-rows-k.result (omega arith)))

pub loop-k-preserved : goal.loop-k-preserved
loop-k-preserved g c =
    let k = c.loop-k.k in
    let rows = c.args.rows.now in
    let read = c.index-rows-k.is ∙ read_row rows k c.index-rows-k.result (omega arith) in
    let before = c.leading_zeros-before.result in
    let all = below_more (λ t. (j : ℕ) → j < before → entry_of rows t j ≡ 0) k
    (λ t l j lj. c.loop-k.invariant.zeros t j l (omega (arith, c.leading_zeros-before.ensures.within)))
    (λ j lj. ap (λ v. slice_index v j) (sym read) ∙ c.leading_zeros-before.ensures.zeros j lj) in
    record { within = omega (arith, c.leading_zeros-before.ensures.within, c.loop-k.invariant.within); zeros = λ t j l lj. all t l j lj }
