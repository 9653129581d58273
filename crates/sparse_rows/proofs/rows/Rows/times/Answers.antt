use Rattle.std.proofs.Common.{◌∙◌, [], ◌∷◌, ◌++◌, ap₂, sym}
use Rattle.residue_words.proofs.Vectors.{list_of_more}
use Rattle.sparse_rows.proofs.Loops.{product_entry}
use Rattle.sparse_rows.proofs.rows.Rows.times.Goals as goal

pub loop-i-preserved : goal.loop-i-preserved
loop-i-preserved c =
    c.in_ok-push.ensures.items ∙ ap₂ (λ ys y. ys ++ y ∷ []) c.loop-i.invariant c.row_times.ensures
    ∙ sym (list_of_more c.loop-i.i (product_entry c.args.self.now c.args.x.now))
