use Rattle.std.proofs.Common.{subst, sym}
use Rattle.row_space.specs.Echelon.{HasRank}
use Rattle.echelon_form.proofs.Keeping.{rank_of_kept}
use Rattle.echelon_form.proofs.sparse_elimination.height_left.Goals as goal

pub returns-clause-rank : goal.returns-clause-rank
returns-clause-rank c = λ prime.
    subst (HasRank c.args.rows.now.modulus c.args.rows.now.matrix) (sym c.height-2.ensures.value)
    (rank_of_kept c.rref_exists.ensures c.span_fixes_height.ensures c.is_sound.ensures.entries c.height-2.ensures.sound
    c.in_ok-eliminated.ensures.modulus c.in_ok-eliminated.ensures.width c.in_ok-eliminated.ensures.span prime)
