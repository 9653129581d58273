use Rattle.dense_panels.specs.Panel.{PanelReduces}
use Rattle.dense_rows.proofs.BlockRows.{put_each}
use Rattle.dense_panels.proofs.Splitting.{reduces_empty}
use Rattle.dense_panels.proofs.panel.Panel.reduce_behind.Goals as goal

pub returns-then-is_empty-clause-behind : goal.returns-then-is_empty-clause-behind
returns-then-is_empty-clause-behind g c = λ t le l.
    let panel = c.args.self.now in
    reduces_empty panel (c.is_empty.ensures.0 c.if-is_empty.true) (c.requires.residues t l)

pub returns-clause-behind : goal.returns-clause-behind
returns-clause-behind g c = λ t le l.
    put_each (PanelReduces c.args.p.now c.args.self.now) c.args.from c.args.rows.now c.take_out.new.rows c.requires.inside c.take_out.auto.rows c.take_out.ensures t le l
