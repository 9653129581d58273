use Rattle.dense_rows.proofs.Parts.{changed_at_end}
use Rattle.dense_rows.proofs.dense.Dense.clear_behind.Goals as goal

pub returns : goal.returns
returns g c =
    changed_at_end g.W.Residue.value (λ j. 0) c.args.from c.deref_mut.result.now c.clear_all.new.places c.deref_mut.ensures.value c.self.inside.places.ok.0 c.self.view_is c.requires.inside
    c.clear_all.auto.places c.clear_all.ensures
