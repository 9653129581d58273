use Rattle.std.proofs.lemmas.Result.{IfOk-weaker}
use Rattle.schur_rows.proofs.Whole.{sound_of, whole_fits, whole_of, whole_round}
use Rattle.schur_rows.proofs.round.schur.Goals as goal

pub returns-clause-fits : goal.returns-clause-fits
returns-clause-fits g c = IfOk-weaker c.left_by.result _ _ (λ s whole. whole_fits (whole_of c.by_walks-reducer.ensures whole)) c.left_by.ensures

pub returns-clause-round : goal.returns-clause-round
returns-clause-round g c = IfOk-weaker c.left_by.result _ _
    (λ s whole prime. whole_round (sound_of c.rows.ensures c.is_sound-2.ensures.entries) c.is_sound.ensures prime (whole_of c.by_walks-reducer.ensures whole)) c.left_by.ensures
