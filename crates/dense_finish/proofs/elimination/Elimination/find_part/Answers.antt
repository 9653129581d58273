use Rattle.std.proofs.Common.{arith, subst, sym}
use Rattle.residue_words.specs.Matrix.{IsVector}
use Rattle.dense_rows.specs.Rows.{block_row}
use Rattle.dense_finish.specs.Pivots.{IsPanelFrom, count}
use Rattle.dense_finish.proofs.Progress.{eliminated_behind, split_behind}
use Rattle.dense_finish.proofs.elimination.Elimination.find_part.Goals as goal

pub returns : goal.returns
returns g c =
    let p = c.args.self.now.p in
    let names = c.args.self.now.columns.now in
    let behind = c.reduce_behind.ensures in
    let finds = c.in_ok-panel.ensures in
    let holds : IsPanelFrom p names (count c.args.pivots.now) c.find_pivots.new.pivots c.in_ok-found.found.panel =
    subst (IsPanelFrom p names (count c.args.pivots.now) c.find_pivots.new.pivots) (sym c.in_ok-found.ensures.panel) finds.panel in
    record {
      found = finds.found;
      eliminated = eliminated_behind finds.found behind.long behind.before
          (λ t a l. subst (λ n. IsVector p n (block_row c.reduce_behind.new.rows t)) holds.wide (behind.behind t a l).vector) finds.eliminated;
      holds = holds;
      units = c.in_ok-found.ensures.units;
      kept = finds.kept;
      split = λ prime block before. split_behind holds finds.found.steps behind.long behind.before behind.behind (finds.split prime block before);
    }

pub of-requires-clause-modulus : goal.of-requires-clause-modulus
of-requires-clause-modulus g c κs within = c.requires.modulus

pub of-requires-clause-pivots : goal.of-requires-clause-pivots
of-requires-clause-pivots g c κs within = c.in_ok-panel.ensures.panel.pivots

pub reduce_behind-requires-clause-modulus : goal.reduce_behind-requires-clause-modulus
reduce_behind-requires-clause-modulus g c κs within = c.requires.modulus

pub reduce_behind-requires-clause-inside : goal.reduce_behind-requires-clause-inside
reduce_behind-requires-clause-inside g c κs within = omega (arith, c.find_pivots.auto.block, c.requires.rows.inside)

pub reduce_behind-requires-clause-ready : goal.reduce_behind-requires-clause-ready
reduce_behind-requires-clause-ready g c κs within =
    let finds = c.in_ok-panel.ensures in
    let same = c.in_ok-found.ensures.panel in
    record {
      vectors = rw (same, finds.panel.wide) finds.eliminated.vectors;
      pivots = rw same finds.panel.pivots;
      units = c.in_ok-found.ensures.units;
    }

pub find_pivots-requires-clause-ready : goal.find_pivots-requires-clause-ready
find_pivots-requires-clause-ready g c κs within = c.requires.ready
