use Rattle.std.proofs.Common.{◌≡◌, ◌-◌, ◌∙◌, ap, arith, length, map, sym}
use Rattle.std.proofs.lemmas.List.{length-map}
use Rattle.dense_rows.proofs.Parts.{added_at_end, ending_below, length_ending}
use Rattle.dense_rows.proofs.dense.Dense.add_behind.Goals as goal

pub add_multiple-requires-clause-out_residues : goal.add_multiple-requires-clause-out_residues
add_multiple-requires-clause-out_residues g c =
    ending_below g.W.Residue.value c.args.p.now c.args.from c.deref_mut.result.now c.args.self.now (ap (map g.W.Residue.value) c.deref_mut.ensures.value ∙ c.self.view_is) c.requires.residues

pub add_multiple-requires-clause-residues : goal.add_multiple-requires-clause-residues
add_multiple-requires-clause-residues g c =
    ending_below g.W.Residue.value c.args.p.now c.args.from c.deref.result.now c.args.y.now (ap (map g.W.Residue.value) c.deref.ensures.value ∙ c.y.view_is)
    (rw c.requires.multiple.len c.requires.multiple)

pub returns : goal.returns
returns g c =
    added_at_end g.W.Residue.value c.args.p.now c.args.a c.args.from c.deref_mut.result.now c.deref.result.now c.add_multiple.new.out c.deref_mut.ensures.value c.self.inside.places.ok.0 c.self.view_is
    (ap (map g.W.Residue.value) c.deref.ensures.value ∙ c.y.view_is) c.requires.inside c.add_multiple.ensures

pub add_multiple-requires-clause-factor : goal.add_multiple-requires-clause-factor
add_multiple-requires-clause-factor g c = c.requires.factor

pub add_multiple-requires-clause-lengths : goal.add_multiple-requires-clause-lengths
add_multiple-requires-clause-lengths g c =
    let value = g.W.Residue.value in
    let xs = c.deref.result.now in
    let out = c.deref_mut.result.now in
    let same : length xs ≡ length out =
    omega (
      arith,
      length-map xs value,
      length-map out value,
      ap length (ap (map value) c.deref.ensures.value ∙ c.y.view_is),
      ap length (ap (map value) c.deref_mut.ensures.value ∙ c.self.view_is),
      c.requires.multiple.len,
    ) in
    length_ending c.args.from xs ∙ ap (λ n. n - c.args.from) same ∙ sym (length_ending c.args.from out)
