use Rattle.std.proofs.Common.{ℕ, [], ◌≡◌, ◌<◌, ◌+◌, ◌∙◌, ap, arith, below_more, length, length-set, refl, set, slice_index}
use Rattle.std.proofs.lemmas.List.{get_or-set_other, get_or-set_same}
use Rattle.dense_rows.specs.Rows.{entry_of}
use Rattle.dense_rows.proofs.BlockRows.{read_row}
use Rattle.dense_rows.proofs.products.fill_tile.Goals as goal

pub loop-k-init : goal.loop-k-init
loop-k-init c = record { long = c.requires.long; filled = λ k j l. absurd (omega arith); kept = λ k l. refl }

pub loop-k-preserved : goal.loop-k-preserved
loop-k-preserved c =
    let k = c.loop-k.k in
    let tile = c.loop-k.tile in
    let rows = c.args.rows.now in
    let start = c.args.start in
    let v = c.eight_at.result in
    let read = c.index-rows-k.is ∙ read_row rows k c.index-rows-k.result (omega arith) in
    let here : (j : ℕ) → j < 8 → slice_index v j ≡ entry_of rows k (start + j) = λ j l. c.eight_at.ensures j l ∙ ap (λ u. slice_index u (start + j)) read in
    let low : k < length tile = omega (arith, c.loop-k.invariant.long, c.requires.high) in
    let all = below_more (λ t. (j : ℕ) → j < 8 → entry_of (set tile k v) t j ≡ entry_of rows t (start + j)) k
    (λ t l j lj. ap (λ u. slice_index u j) (get_or-set_other tile k t v [] (omega arith)) ∙ c.loop-k.invariant.filled t j l lj)
    (λ j lj. ap (λ u. slice_index u j) (get_or-set_same tile k v [] low) ∙ here j lj) in
    record { long = length-set tile k v ∙ c.loop-k.invariant.long; filled = λ t j l lj. all t l j lj; kept = λ t l. get_or-set_other tile k t v [] (omega arith) ∙ c.loop-k.invariant.kept t (omega arith) }

pub returns-clause-filled : goal.returns-clause-filled
returns-clause-filled c = λ k j l lj. c.loop-k.invariant.filled k j (omega arith) lj

pub returns-clause-kept : goal.returns-clause-kept
returns-clause-kept c = λ k l. c.loop-k.invariant.kept k (omega arith)
