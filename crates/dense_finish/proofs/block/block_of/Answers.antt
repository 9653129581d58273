use Rattle.std.proofs.Common.{ℕ, [], ◌∷◌, ◌+◌, ◌<◌, ◌≡◌, ◌∙◌, ap, ap₂, arith, length, slice_index, subst, sym, length-append}
use Rattle.residue_words.specs.Matrix.{IsVector, entry, row}
use Rattle.sparse_rows.specs.Stored.{entry_at}
use Rattle.sparse_rows.proofs.Spread.{entry_support}
use Rattle.dense_rows.proofs.Filling.{column_known}
use Rattle.dense_rows.proofs.BlockRows.{appended}
use Rattle.dense_finish.proofs.block.block_of.Goals as goal

pub loop-i-init : goal.loop-i-init
loop-i-init g c =
    let none : length c.in_ok-block.block.items ≡ 0 = ap length c.in_ok-block.ensures.items in
    record { long = none; vectors = λ t l. absurd (omega arith); each = λ t j l lj. absurd (omega arith) }

pub of_entries-requires-clause-known : goal.of_entries-requires-clause-known
of_entries-requires-clause-known g c κs within =
    let A = c.args.rows.now.matrix in
    column_known A c.args.columns.now (slice_index c.args.filled_rows.now c.loop-i.i-index) c.requires.columns (c.requires.rows c.loop-i.i-index (omega arith)) c.cols.result.now c.vals.result.now
    c.cols.ensures.support c.vals.ensures.values (c.cols.ensures.same_length ∙ ap length (sym c.vals.ensures.values)) c.cols.ensures.ascending c.vals.ensures.positive c.cols.ensures.below_width

pub loop-i-preserved : goal.loop-i-preserved
loop-i-preserved g c =
    let A = c.args.rows.now.matrix in
    let names = c.args.columns.now in
    let i = c.loop-i.i-index in
    let block = c.loop-i.block.items in
    let v = c.in_ok-of_entries.field-0 in
    let n = slice_index c.args.filled_rows.now i in
    let read : (j : ℕ) → j < length names → slice_index v j ≡ entry A (slice_index c.args.filled_rows.now (length block)) (slice_index names j) =
    λ j l. c.in_ok-of_entries.ensures.entries j l ∙ ap₂ (λ cs vs. entry_at cs vs (slice_index names j)) c.cols.ensures.support c.vals.ensures.values
    ∙ entry_support (row A n) (slice_index names j) ∙ ap (λ t. entry A (slice_index c.args.filled_rows.now t) (slice_index names j)) (sym c.loop-i.invariant.long) in
    rw c.in_ok-push.ensures.items record {
      long = length-append block (v ∷ []) ∙ ap (λ t. t + 1) c.loop-i.invariant.long;
      vectors = appended (λ t u. IsVector c.args.rows.now.modulus (length names) u) block v (subst (λ p. IsVector p (length names) v) c.modulus-p.ensures.value c.in_ok-of_entries.ensures.vector) c.loop-i.invariant.vectors;
      each = λ t j l lj. appended (λ t u. slice_index u j ≡ entry A (slice_index c.args.filled_rows.now t) (slice_index names j)) block v (read j lj) (λ t l. c.loop-i.invariant.each t j l lj) t l;
    }

pub returns : goal.returns
returns g c = record { long = c.loop-i.invariant.long ∙ omega arith; vectors = c.loop-i.invariant.vectors; each = c.loop-i.invariant.each }
