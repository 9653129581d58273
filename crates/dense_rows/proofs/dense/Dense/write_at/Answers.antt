use Rattle.std.proofs.Common.{◌∙◌, ap, arith, length, map, slice_index}
use Rattle.std.proofs.lemmas.List.{length-map}
use Rattle.dense_rows.proofs.dense.Dense.write_at.Goals as goal

pub write_named-requires-clause-inside : goal.write_named-requires-clause-inside
write_named-requires-clause-inside g c κs within = λ k l.
    omega (
      arith,
      c.requires.inside k l,
      ap length (ap (map g.W.Residue.value) c.deref.ensures.value ∙ c.self.view_is),
      length-map c.deref.result.now g.W.Residue.value,
    )

pub returns-clause-entries : goal.returns-clause-entries
returns-clause-entries g c = λ k l.
    c.write_named.ensures.named k l
    ∙ ap (λ v. slice_index v (slice_index c.args.columns.now k)) (ap (map g.W.Residue.value) c.deref.ensures.value ∙ c.self.view_is)
