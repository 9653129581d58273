use Rattle.std.proofs.Common.{◌≤◌, ap, length, subst, sym}
use Rattle.row_space.specs.Echelon.{HasRank}
use Rattle.schur_rows.proofs.FactorRows.{fit_few, fit_narrow}
use Rattle.pluq_factor.proofs.rank_by_rounds.dense_rank.Goals as goal

pub returns : goal.returns
returns g c =
    let A = c.args.rows in
    let right = c.in_ok-right.right in
    let factored = c.in_ok-right.ensures in
    let count = sym (ap length c.items.ensures) in record {
      rank = λ prime. subst (HasRank A.modulus A.matrix) count
          (c.factors_give_rank.ensures A.modulus A.matrix right.pivots factored.0.matrix right.u.matrix prime c.is_sound.ensures.entries (factored.1.factors prime));
      at_most_height = subst (λ n. n ≤ A.matrix.height) count (fit_few factored.1.fit);
      at_most_width = subst (λ n. n ≤ A.matrix.width) count (fit_narrow factored.1.fit);
    }
