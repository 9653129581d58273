use Rattle.std.proofs.Common.{◌≡◌, ◌∙◌, arith, length, subst}
use Rattle.dense_finish.specs.Pivots.{AreFound, count}
use Rattle.dense_finish.proofs.Progress.{eliminated_begins}
use Rattle.dense_finish.proofs.Growing.{found_own}
use Rattle.dense_finish.proofs.PanelStages.{holds_begins, no_units, ready_next, split_ends, split_next, split_start}
use Rattle.dense_finish.proofs.elimination.Elimination.eliminate.Goals as goal

pub loop-done-init : goal.loop-done-init
loop-done-init g c =
    let pivots = c.in_ok-pivots.pivots in
    let block = c.args.block.now in
    let names = c.args.self.now.columns.now in
    rw c.none-found.ensures record {
      inside = omega arith;
      wide = c.in_ok-pivots.ensures.found.wide;
      ready = record {
        reached = record {
          low = c.requires.low;
          few = c.args.self.now.few;
          inside = λ j l. omega (arith, c.args.self.now.inside j l, c.in_ok-pivots.ensures.found.wide);
          rising = c.args.self.now.rising;
          found = found_own c.in_ok-pivots.ensures.found;
          eliminated = eliminated_begins block pivots c.in_ok-pivots.ensures.none c.requires.residues;
        };
        holds = holds_begins names pivots block;
        units = no_units;
      };
      split = λ prime. split_start names block pivots c.in_ok-pivots.ensures.none;
    }

pub loop-done-preserved : goal.loop-done-preserved
loop-done-preserved g c =
    let finds = c.in_ok-found.ensures in
    let before = c.loop-done.invariant in
    record {
      inside = omega arith;
      wide = finds.found.wide ∙ before.wide;
      ready = ready_next finds before.ready c.run.auto.block;
      split = λ prime. split_next finds c.args.block.now prime (before.split prime);
    }

pub returns-clause-found : goal.returns-clause-found
returns-clause-found g c =
    let end : c.loop-done.done ≡ length c.args.block.now = omega arith in
    rw (← end) (subst (λ n. AreFound c.args.self.now.p c.args.self.now.columns.now n c.loop-done.done c.loop-done.pivots) c.loop-done.invariant.wide c.loop-done.invariant.ready.reached.found)

pub returns-clause-eliminated : goal.returns-clause-eliminated
returns-clause-eliminated g c = let end : c.loop-done.done ≡ length c.args.block.now = omega arith in rw (← end) c.loop-done.invariant.ready.reached.eliminated

pub returns-clause-split : goal.returns-clause-split
returns-clause-split g c = λ prime.
    let end : c.loop-done.done ≡ length c.args.block.now = omega arith in
    rw (← end) (split_ends (count c.loop-done.pivots) (omega arith) (c.loop-done.invariant.split prime))
