use Rattle.std.proofs.Common.{ap₂, slice_set, ◌∙◌}
use Rattle.std.proofs.lemmas.List.{map-set}
use Rattle.dense_rows.proofs.dense.Dense.set.Goals as goal

pub returns : goal.returns
returns g c = map-set g.W.Residue.value c.self.inside.places.items c.args.j c.of.result ∙ ap₂ (λ l v. slice_set l c.args.j v) c.self.view_is c.of.ensures
