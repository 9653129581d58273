use Rattle.std.proofs.Common.{◌≡◌, ◌<◌, length, slice_index, subst, sym, ap, ◌∙◌, arith, inl, inr}
use Rattle.std.proofs.lemmas.Bool.{cases_lt}
use Rattle.residue_words.specs.Matrix.{row}
use Rattle.sparse_rows.specs.Rows.{ResidueMatrix, support}
use Rattle.pivot_table.specs.History.{Alive, HasCol}
use Rattle.pivot_walks.specs.Levels.{FreeAreLow, IsLow}
use Rattle.pivot_walks.proofs.Leveling.{sure_alive}
use Rattle.pivot_walks.proofs.leveled_walk.first_alive.Goals as goal

pub returns-clause-there : goal.returns-clause-there
returns-clause-there c = λ left inside.
    let A = c.args.pivots.now.rows.matrix in
    let h = c.args.pivots.now.pairs in
    let r = c.args.row in
    let levels = c.args.levels.now in
    let sure = c.sure_place-place.result in
    let at = c.go_on.result in
    let cols_are : c.cols-cols.result.now ≡ support (row A r) = c.cols-cols.ensures.support ∙ ap (λ (m : ResidueMatrix). support (row m.matrix r)) c.rows.ensures.value in
    elim (cases_lt at sure) [
      | inl less ↦ c.go_on.ensures.there left less
      | inr ge ↦
          let e : sure ≡ at = omega (arith, c.go_on.ensures.within) in
          let here : sure < length (support (row A r)) = omega arith in
          let here_cols : sure < length c.cols-cols.result.now = subst (λ xs. sure < length xs) (sym cols_are) here in
          subst (λ k. Alive A h r (slice_index (support (row A r)) k)) e
          (sure_alive levels c.rows.ensures.sound c.requires.levels.rises c.requires.inside c.requires.fresh sure here
          (subst (λ xs. ¬ HasCol h (slice_index xs sure)) cols_are (c.sure_place-place.ensures.free here_cols))
          (subst (λ xs. slice_index levels (slice_index xs sure) ≡ 0) cols_are (c.sure_place-place.ensures.lowest here_cols)))
    ]

pub go_on-requires-clause-stop : goal.go_on-requires-clause-stop
go_on-requires-clause-stop c =
    let r = c.args.row in
    let cols_are : c.cols-cols.result.now ≡ support (row c.args.pivots.now.rows.matrix r) = c.cols-cols.ensures.support ∙ ap (λ (m : ResidueMatrix). support (row m.matrix r)) c.rows.ensures.value in record {
      long = c.requires.levels.long;
      rises = c.requires.levels.rises;
      within = omega (arith, c.sure_place-place.ensures.high, ap length cols_are);
      low = subst (λ xs. FreeAreLow c.args.pivots.now.pairs (IsLow c.args.levels.now c.highest-level.result) xs c.sure_place-place.result) cols_are c.highest-level.ensures;
    }
