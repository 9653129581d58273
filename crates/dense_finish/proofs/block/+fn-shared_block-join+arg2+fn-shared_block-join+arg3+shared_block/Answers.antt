use Rattle.std.proofs.Common.{◌∙◌, ◌++◌, ◌/◌, ap₂, length, subst}
use Rattle.std.proofs.lemmas.List.{take-append-drop}
use Rattle.dense_finish.specs.Block.{IsBlock}
use Rattle.dense_finish.proofs.Blocks.{block_joined}
use Rattle.dense_finish.proofs.block.+fn-shared_block-join+arg2+fn-shared_block-join+arg3+shared_block.Goals as goal

pub returns : goal.returns
returns g t c =
    let p = c.args.rows.now.modulus in
    let A = c.args.rows.now.matrix in
    let filled = c.args.filled_rows.now in
    let names = c.args.columns.now in
    let x = c.in_ok-block.block.items in
    let y = c.in_ok-rest.rest.items in
    let first : IsBlock p A c.split_at.result.0.now names x = rw c.in_ok-block.was at c.join-front.ensures.first in
    let second : IsBlock p A c.split_at.result.1.now names y = rw c.in_ok-rest.was at c.join-front.ensures.second in
    let all = ap₂ (λ a b. a ++ b) c.split_at.ensures.front c.split_at.ensures.back ∙ take-append-drop (length filled / c.args.workers) filled in
    rw c.in_ok-append.ensures.items (subst (λ rows. IsBlock p A rows names (x ++ y)) all (block_joined first second))
