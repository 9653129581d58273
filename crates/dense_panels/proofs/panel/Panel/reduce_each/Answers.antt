use Rattle.std.proofs.Common.{[], ◌<◌, ◌∙◌, arith, length, refl, subst}
use Rattle.std.proofs.lemmas.List.{get_or-set_other}
use Rattle.dense_panels.specs.Panel.{PanelReduces}
use Rattle.dense_rows.proofs.BlockRows.{each_more, read_row}
use Rattle.dense_panels.proofs.panel.Panel.reduce_each.Goals as goal

pub loop-k-init : goal.loop-k-init
loop-k-init g c = record { done = λ t l. absurd (omega arith); ahead = λ t l. refl }

pub reduce-requires-clause-residues : goal.reduce-requires-clause-residues
reduce-requires-clause-residues g c κs within =
    let k = c.loop-k.k in
    rw (read_row c.loop-k.rows k c.index-rows-k.result (omega (arith, c.loop-k.auto.rows)), c.loop-k.invariant.ahead k (omega arith)) (c.requires.residues k (omega arith))

pub loop-k-preserved : goal.loop-k-preserved
loop-k-preserved g c =
    let k = c.loop-k.k in
    let panel = c.args.self.now in
    let p = c.args.p.now in
    let inside : k < length c.loop-k.rows = omega (arith, c.loop-k.auto.rows) in
    let old = read_row c.loop-k.rows k c.index-rows-k.result inside ∙ c.loop-k.invariant.ahead k (omega arith) in
    record {
      done = each_more (PanelReduces p panel) c.args.rows.now c.loop-k.rows k c.reduce.new.row inside
          (subst (λ v. PanelReduces p panel v c.reduce.new.row) old c.reduce.ensures) c.loop-k.invariant.done;
      ahead = λ t l. get_or-set_other c.loop-k.rows k t c.reduce.new.row [] (omega arith) ∙ c.loop-k.invariant.ahead t (omega arith);
    }

pub returns : goal.returns
returns g c = λ t l. c.loop-k.invariant.done t (omega arith)
