use Rattle.std.proofs.Common.{◌∙◌, ap, arith, subst, sym}
use Rattle.residue_words.specs.Matrix.{IsVector}
use Rattle.dense_rows.specs.Rows.{block_row, entry_of}
use Rattle.dense_finish.specs.Pivots.{IsPanelFrom, count}
use Rattle.dense_panels.specs.Units.{FoundPanel, HasUnits}
use Rattle.dense_finish.proofs.PanelStages.{split_ends}
use Rattle.dense_finish.proofs.Progress.{eliminated_behind, split_behind}
use Rattle.dense_finish.proofs.elimination.Elimination.reduce_and_find.Goals as goal

pub find_parts-requires-clause-ready : goal.find_parts-requires-clause-ready
find_parts-requires-clause-ready g c κs within =
    let p = c.args.self.now.p in
    let behind = c.reduce_behind.ensures in
    let reached = c.requires.ready.reached in
    record {
      low = omega (arith, behind.long, reached.low);
      few = reached.few;
      inside = reached.inside;
      rising = reached.rising;
      found = reached.found;
      eliminated = eliminated_behind reached.found behind.long behind.before
          (λ t a l. subst (λ n. IsVector p n (block_row c.reduce_behind.new.rows t)) c.requires.ready.holds.wide (behind.behind t a l).vector) reached.eliminated;
    }

pub returns : goal.returns
returns g c =
    let p = c.args.self.now.p in
    let names = c.args.self.now.columns.now in
    let behind = c.reduce_behind.ensures in
    let ready = c.requires.ready in
    let finds = c.in_ok-next.ensures in
    let units = subst (HasUnits p) (sym c.next.view_is) finds.units in
    record {
      found = finds.found;
      eliminated = finds.eliminated;
      holds = subst (λ (f : FoundPanel). IsPanelFrom p names (count c.args.pivots.now) c.find_parts.new.pivots f.panel) (sym c.next.view_is) finds.holds;
      units = record {
        long = units.long;
        reduced = units.reduced;
        before = λ k j l lj. ap (λ rows. entry_of rows k j) (sym c.deref.ensures.value) ∙ c.zeros_before.ensures.zeros k j (omega (arith, c.deref.ensures.len, l)) lj;
      };
      kept = finds.kept;
      split = λ prime block before.
          split_ends (count c.args.pivots.now) (omega (arith, before.long, c.requires.rows.last))
          (finds.split prime block (split_behind ready.holds ready.reached.found.steps behind.long behind.before behind.behind before));
    }
