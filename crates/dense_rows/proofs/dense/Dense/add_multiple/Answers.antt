use Rattle.dense_rows.proofs.Parts.{added_all}
use Rattle.dense_rows.proofs.dense.Dense.add_multiple.Goals as goal

pub returns : goal.returns
returns g c = added_all c.args.p.now c.args.a c.args.from c.args.self.now c.args.y.now c.add_behind.new.self c.requires.residues c.requires.before c.add_behind.ensures
