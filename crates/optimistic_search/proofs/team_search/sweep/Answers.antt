use Rattle.std.proofs.Common.{◌≡◌, arith, ap, subst, sym, ◌∙◌}
use Rattle.residue_words.specs.Matrix.{Matrix}
use Rattle.sparse_rows.specs.Rows.{ResidueMatrix}
use Rattle.pivot_table.specs.History.{StandsOrIsDead}
use Rattle.optimistic_search.specs.Workers.{DoneAreSettled}
use Rattle.optimistic_search.proofs.Working.{settled_maximal, settled_more, settled_since, starts_again}
use Rattle.optimistic_search.proofs.team_search.sweep.Goals as goal

pub try_unless_done-requires-clause-done : goal.try_unless_done-requires-clause-done
try_unless_done-requires-clause-done g c =
    let inv = c.loop-row.invariant in
    subst (λ (m : ResidueMatrix). DoneAreSettled m.matrix c.loop-row.search.pairs c.args.done.now) (sym inv.rows)
    (λ r d. settled_since c.args.search.now.rows.matrix c.loop-row.search.pairs c.args.search.now.pairs r inv.begins (c.requires.done r d))

pub loop-row-preserved : goal.loop-row-preserved
loop-row-preserved g c =
    let inv = c.loop-row.invariant in
    let t = c.try_unless_done.ensures in
    let A : Matrix = c.args.search.now.rows.matrix in record {
      rows = t.rows ∙ inv.rows;
      begins = starts_again c.try_unless_done.new.search.pairs c.loop-row.search.pairs c.args.search.now.pairs t.begins inv.begins;
      settled = settled_more A c.loop-row.search.pairs c.try_unless_done.new.search.pairs c.loop-row.row t.begins inv.settled
          (subst (λ (m : ResidueMatrix). StandsOrIsDead m.matrix c.try_unless_done.new.search.pairs c.loop-row.row) inv.rows t.settled);
    }

pub returns-clause-maximal : goal.returns-clause-maximal
returns-clause-maximal g c =
    let height : c.height-row-end.result ≡ c.args.search.now.rows.matrix.height = c.height-row-end.ensures.value ∙ ap (λ (m : ResidueMatrix). m.matrix.height) c.rows.ensures in
    let over = c.loop-row-test.false in
    settled_maximal c.args.search.now.rows.matrix c.loop-row.search.pairs (λ r l. c.loop-row.invariant.settled r (omega arith))
