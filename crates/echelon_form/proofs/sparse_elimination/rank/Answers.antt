use Rattle.std.proofs.Common.{subst, sym}
use Rattle.std.proofs.lemmas.Result.{IfOk-weaker}
use Rattle.sparse_rows.specs.Rows.{AreEnough}
use Rattle.echelon_form.proofs.Widening.{narrow_rank, narrow_width}
use Rattle.echelon_form.proofs.sparse_elimination.rank.Goals as goal

pub returns-in_ok-narrow-clause-rank : goal.returns-in_ok-narrow-clause-rank
returns-in_ok-narrow-clause-rank c =
    let enough : AreEnough c.args.rows.now.matrix c.deref.result.now = subst (AreEnough c.args.rows.now.matrix) (sym c.deref.ensures.value) c.in_ok-columns.ensures.enough in
    IfOk-weaker c.height_left.result _ _ (λ r h. narrow_rank c.is_sound.ensures.entries enough c.in_ok-narrow.ensures.matrix c.in_ok-narrow.ensures.modulus h) c.height_left.ensures.rank

pub returns-in_ok-narrow-clause-at_most_width : goal.returns-in_ok-narrow-clause-at_most_width
returns-in_ok-narrow-clause-at_most_width c =
    let enough : AreEnough c.args.rows.now.matrix c.deref.result.now = subst (AreEnough c.args.rows.now.matrix) (sym c.deref.ensures.value) c.in_ok-columns.ensures.enough in
    IfOk-weaker c.height_left.result _ _ (λ r h. narrow_width enough c.in_ok-narrow.ensures.matrix h) c.height_left.ensures.at_most_width
